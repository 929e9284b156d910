-- The owner of a name: the line that has it.
use Rattle.std.proofs.Common.{◌≡◌, ℕ, zero, suc, ◌+◌, ◌-◌, ◌<◌, ◌≤◌, Some, IfSome, List, [], ◌∷◌, length, map, get_or}
use Rattle.std.proofs.Common.{All, Contains, refl, ap, sym, subst, ◌∙◌, add-zero, zero-add, arith}
use Rattle.std.proofs.lemmas.List.Elements.{All-nil, All-cons, All-append, All-weaker, All-contains}
use Rattle.std.proofs.lemmas.List.Elements.{Contains-append_left, Contains-append_right}
use Rattle.std.proofs.lemmas.Map.Made.{IsDistinct-from_AllPairs}
use Rattle.std.proofs.lemmas.Map.Views.{IfSome-lookup, lookup-from_Contains}
use Rattle.std.proofs.lemmas.Option.{IfSome_then}
use Rattle.std.proofs.lemmas.Slice.Eq.{bytes_eq-Decides}
use Rattle.std.specs.Cmp.Lexicographic.{nat_list_eq_equiv}
use Rattle.njh_table.specs.declared.LineId.{LineId}
use Rattle.njh_table.specs.Accepted.{AreDistinct}
use Rattle.njh_table.specs.TableFile.{NamedLine, NamedCustomer, TableFile, no_customer, no_line, line_owners}
use Rattle.njh_table.specs.TableFile.{owners_from, line_named, line_names, table_line, HasLine}
use Rattle.njh_table.proofs.OwnersLaws.{numbered, names-owners_from}

-- ---- each owner is the line of its name

-- the line is one of those from a number on, and has the name
abbrev IsLineFrom : ℕ → ℕ → List NamedLine → List ℕ × LineId → Type 0
IsLineFrom customer first lines o =
    (o.1.customer ≡ customer) × (first ≤ o.1.number) × (o.1.number - first < length lines)
    × ((get_or lines (o.1.number - first) no_line).name ≡ o.0)

later_line : (customer first : ℕ) (l : NamedLine) (lines : List NamedLine) (o : List ℕ × LineId)
    → IsLineFrom customer (first + 1) lines o → IsLineFrom customer first (l ∷ lines) o
later_line customer first l lines o h =
    let next : o.1.number - first ≡ suc (o.1.number - (first + 1)) = omega (arith, h.1) in
    (h.0, omega (arith, h.1), omega (arith, h.1, h.2), ap (λ n. (get_or (l ∷ lines) n no_line).name) next ∙ h.3)

lines_named : (customer first : ℕ) (lines : List NamedLine)
    → All (IsLineFrom customer first lines) (line_owners customer first lines)
lines_named customer first [] = All-nil (IsLineFrom customer first [])
lines_named customer first (l ∷ lines) =
    let here : first - first ≡ 0 = omega arith in
    All-cons (IsLineFrom customer first (l ∷ lines)) (l.name, numbered customer first)
    (line_owners customer (first + 1) lines)
    (refl, omega arith, omega arith, ap (λ n. (get_or (l ∷ lines) n no_line).name) here)
    (All-weaker (IsLineFrom customer (first + 1) lines) (IsLineFrom customer first (l ∷ lines))
    (later_line customer first l lines) (line_owners customer (first + 1) lines)
    (lines_named customer (first + 1) lines))

-- the same, over the customers from a number on
abbrev IsOwnerFrom : ℕ → List NamedCustomer → List ℕ × LineId → Type 0
IsOwnerFrom first customers o =
    (first ≤ o.1.customer) × (o.1.number < length (get_or customers (o.1.customer - first) no_customer).lines)
    × ((get_or (get_or customers (o.1.customer - first) no_customer).lines o.1.number no_line).name ≡ o.0)

own_line_from : (first : ℕ) (c : NamedCustomer) (customers : List NamedCustomer) (o : List ℕ × LineId)
    → IsLineFrom first 0 c.lines o → IsOwnerFrom first (c ∷ customers) o
own_line_from first c customers o h =
    let here : 0 ≡ o.1.customer - first = omega (arith, h.0) in
    let start : o.1.number - 0 ≡ o.1.number = omega arith in (
      omega (arith, h.0),
      subst (λ n. o.1.number < length (get_or (c ∷ customers) n no_customer).lines) here
          (subst (λ n. n < length c.lines) start h.2),
      subst (λ n. (get_or (get_or (c ∷ customers) n no_customer).lines o.1.number no_line).name ≡ o.0) here
          (subst (λ n. (get_or c.lines n no_line).name ≡ o.0) start h.3),
    )

later_customer : (first : ℕ) (c : NamedCustomer) (customers : List NamedCustomer) (o : List ℕ × LineId)
    → IsOwnerFrom (first + 1) customers o → IsOwnerFrom first (c ∷ customers) o
later_customer first c customers o h =
    let next : suc (o.1.customer - (first + 1)) ≡ o.1.customer - first = omega (arith, h.0) in (
      omega (arith, h.0),
      subst (λ n. o.1.number < length (get_or (c ∷ customers) n no_customer).lines) next h.1,
      subst (λ n. (get_or (get_or (c ∷ customers) n no_customer).lines o.1.number no_line).name ≡ o.0) next h.2,
    )

owners_named : (first : ℕ) (customers : List NamedCustomer)
    → All (IsOwnerFrom first customers) (owners_from first customers)
owners_named first [] = All-nil (IsOwnerFrom first [])
owners_named first (c ∷ customers) =
    All-append (IsOwnerFrom first (c ∷ customers)) (line_owners first 0 c.lines) (owners_from (first + 1) customers)
    (All-weaker (IsLineFrom first 0 c.lines) (IsOwnerFrom first (c ∷ customers)) (own_line_from first c customers)
    (line_owners first 0 c.lines) (lines_named first 0 c.lines))
    (All-weaker (IsOwnerFrom (first + 1) customers) (IsOwnerFrom first (c ∷ customers))
    (later_customer first c customers)
    (owners_from (first + 1) customers) (owners_named (first + 1) customers))

-- ---- each line is an owner

lines_owned : (customer first : ℕ) (lines : List NamedLine) (i : ℕ) → i < length lines
    → Contains (line_owners customer first lines) ((get_or lines i no_line).name, numbered customer (first + i))
lines_owned customer first [] i within = absurd (omega arith)
lines_owned customer first (l ∷ lines) zero within =
    subst (λ n. Contains (line_owners customer first (l ∷ lines)) (l.name, numbered customer n)) (sym (add-zero first))
    (0, omega arith, refl)
lines_owned customer first (l ∷ lines) (suc i) within =
    let next : (first + 1) + i ≡ first + suc i = omega arith in
    subst (λ n. Contains (line_owners customer first (l ∷ lines)) ((get_or lines i no_line).name, numbered customer n))
    next
    (Contains-append_right ((l.name, numbered customer first) ∷ []) (line_owners customer (first + 1) lines) _
    (lines_owned customer (first + 1) lines i (omega arith)))

owners_owned : (first : ℕ) (customers : List NamedCustomer) (i l : ℕ)
    → l < length (get_or customers i no_customer).lines
    → Contains (owners_from first customers)
    ((get_or (get_or customers i no_customer).lines l no_line).name, numbered (first + i) l)
owners_owned first [] i l within = absurd (omega (arith, within))
owners_owned first (c ∷ customers) zero l within =
    subst (λ n. Contains (owners_from first (c ∷ customers)) ((get_or c.lines l no_line).name, numbered n l))
    (sym (add-zero first))
    (Contains-append_left (line_owners first 0 c.lines) (owners_from (first + 1) customers) _
    (subst (λ n. Contains (line_owners first 0 c.lines) ((get_or c.lines l no_line).name, numbered first n))
    (zero-add l)
    (lines_owned first 0 c.lines l within)))
owners_owned first (c ∷ customers) (suc i) l within =
    let next : (first + 1) + i ≡ first + suc i = omega arith in
    subst (λ n. Contains (owners_from first (c ∷ customers))
    ((get_or (get_or customers i no_customer).lines l no_line).name, numbered n l)) next
    (Contains-append_right (line_owners first 0 c.lines) (owners_from (first + 1) customers) _
    (owners_owned (first + 1) customers i l within))

-- ---- what `line_named` finds

pub owner_found : (t : TableFile) (name : List ℕ)
    → IfSome (line_named t name) (λ line. HasLine t line × ((table_line t line).name ≡ name))
owner_found t name =
    IfSome_then (line_named t name) (IfSome-lookup (λ x y. (bytes_eq-Decides x y).0) name (owners_from 0 t.customers))
    (λ line among. let owner =
    All-contains (IsOwnerFrom 0 t.customers) (owners_from 0 t.customers) (name, line) (owners_named 0 t.customers) among
    in
    let start : line.customer - 0 ≡ line.customer = omega arith in (
      subst (λ n. line.number < length (get_or t.customers n no_customer).lines) start owner.1,
      subst (λ n. (get_or (get_or t.customers n no_customer).lines line.number no_line).name ≡ name) start owner.2,
    ))

pub owner_only : (t : TableFile) (name : List ℕ) → AreDistinct (line_names t.customers) → (id : LineId) → HasLine t id
    → (table_line t id).name ≡ name → line_named t name ≡ Some id
owner_only t name distinct id has same =
    let unique = IsDistinct-from_AllPairs bytes_eq-Decides (map (λ o. o.0) (owners_from 0 t.customers))
    (subst AreDistinct (sym (names-owners_from 0 t.customers)) distinct) in
    let owned : Contains (owners_from 0 t.customers) (name, numbered id.customer id.number) =
    subst (λ n. Contains (owners_from 0 t.customers) (name, numbered n id.number)) (zero-add id.customer)
    (subst (λ n. Contains (owners_from 0 t.customers) (n, numbered (0 + id.customer) id.number)) same
    (owners_owned 0 t.customers id.customer id.number has)) in
    lookup-from_Contains nat_list_eq_equiv name id (owners_from 0 t.customers) unique owned
