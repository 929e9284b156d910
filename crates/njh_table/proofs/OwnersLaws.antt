-- The lines of the hub by their names: one more line, one more customer, and a customer's own.
use Rattle.std.proofs.Common.{◌≡◌, ℕ, ◌+◌, ◌<◌, ◌≤◌, Bool, true, false, cond, bytes_eq, Option, Some, None, IfSome}
use Rattle.std.proofs.Common.{is_some, option_map, option_and_then, eqb, List, [], ◌∷◌, ◌++◌, length, map, refl, ap}
use Rattle.std.proofs.Common.{sym, subst, ◌∙◌, append_assoc, add-zero, zero-add, arith}
use Rattle.std.proofs.lemmas.List.{map-append, append-nil}
use Rattle.std.specs.Cmp.Lexicographic.{nat_list_eq_equiv}
use Rattle.std.proofs.lemmas.Bool.{or_parts, both_ways, false_from_ne_true, cond-true, cond-false, eq-eqb, ne_eqb}
use Rattle.std.proofs.lemmas.Map.Steps.{list_any_congr}
use Rattle.std.specs.List.{list_any, position_from}
use Rattle.std.specs.Map.{lookup}
use Rattle.std.specs.Option.{option_or}
use Rattle.njh_table.specs.declared.LineId.{LineId}
use Rattle.njh_table.specs.TableFile.{NamedLine, NamedCustomer, Owners, names_in, line_owners, owners_from, line_names}
use Rattle.njh_table.specs.TableFile.{own_line}
use Rattle.njh_table.specs.Walk.{line_number}
use Rattle.njh_table.proofs.MapLaws.{is_some-lookup}

pub names-line_owners : (customer line : ℕ) (lines : List NamedLine) → names_in (line_owners customer line lines)
    ≡ map (λ l. l.name) lines
names-line_owners customer line [] = refl
names-line_owners customer line (l ∷ lines) = ap (λ names. l.name ∷ names) (names-line_owners customer (line + 1) lines)

-- the names after some of a customer's lines were added
pub names_after : (owners : Owners) (customer : ℕ) (lines : List NamedLine)
    → names_in (owners ++ line_owners customer 0 lines) ≡ names_in owners ++ map (λ l. l.name) lines
names_after owners customer lines =
    map-append _ owners (line_owners customer 0 lines)
    ∙ ap (λ names. names_in owners ++ names) (names-line_owners customer 0 lines)

-- one more line at the end
pub line_owners-push : (customer line : ℕ) (lines : List NamedLine) (l : NamedLine)
    → line_owners customer line (lines ++ l ∷ [])
    ≡ line_owners customer line lines ++ (l.name, record { customer = customer; number = line + length lines }) ∷ []
line_owners-push customer line [] l = ap (λ n. (l.name, record { customer = customer; number = n }) ∷ [])
    (sym (add-zero line))
line_owners-push customer line (x ∷ lines) l =
    ap (λ rest. (x.name, record { customer = customer; number = line }) ∷ rest)
    (line_owners-push customer (line + 1) lines l
    ∙ ap (λ n. line_owners customer (line + 1) lines ++ (l.name, record { customer = customer; number = n }) ∷ [])
    (omega arith))

pub owners_push : (owners : Owners) (customer : ℕ) (lines : List NamedLine) (l : NamedLine) (n : ℕ) → n ≡ length lines
    → (owners ++ line_owners customer 0 lines) ++ (l.name, record { customer = customer; number = n }) ∷ []
    ≡ owners ++ line_owners customer 0 (lines ++ l ∷ [])
owners_push owners customer lines l n same =
    append_assoc owners (line_owners customer 0 lines) _
    ∙ ap (λ k. owners ++ (line_owners customer 0 lines ++ (l.name, record { customer = customer; number = k }) ∷ []))
    (same ∙ sym (zero-add (length lines)))
    ∙ ap (λ rest. owners ++ rest) (sym (line_owners-push customer 0 lines l))

-- ---- one more customer

pub names-owners_from : (customer : ℕ) (customers : List NamedCustomer)
    → names_in (owners_from customer customers) ≡ line_names customers
names-owners_from customer [] = refl
names-owners_from customer (c ∷ customers) =
    map-append _ (line_owners customer 0 c.lines) (owners_from (customer + 1) customers)
    ∙ ap (λ names. names ++ names_in (owners_from (customer + 1) customers)) (names-line_owners customer 0 c.lines)
    ∙ ap (λ names. map (λ l. l.name) c.lines ++ names) (names-owners_from (customer + 1) customers)

owners_from-push : (customer : ℕ) (customers : List NamedCustomer) (c : NamedCustomer)
    → owners_from customer (customers ++ c ∷ []) ≡ owners_from customer customers ++ line_owners
    (customer + length customers) 0 c.lines
owners_from-push customer [] c = append-nil (line_owners customer 0 c.lines)
    ∙ ap (λ n. line_owners n 0 c.lines) (sym (add-zero customer))
owners_from-push customer (x ∷ customers) c =
    ap (λ rest. line_owners customer 0 x.lines ++ rest)
    (owners_from-push (customer + 1) customers c
    ∙ ap (λ n. owners_from (customer + 1) customers ++ line_owners n 0 c.lines) (omega arith))
    ∙ sym (append_assoc (line_owners customer 0 x.lines) (owners_from (customer + 1) customers) _)

pub owners_after : (customers : List NamedCustomer) (c : NamedCustomer)
    → owners_from 0 customers ++ line_owners (length customers) 0 c.lines ≡ owners_from 0 (customers ++ c ∷ [])
owners_after customers c =
    ap (λ n. owners_from 0 customers ++ line_owners n 0 c.lines) (sym (zero-add (length customers)))
    ∙ sym (owners_from-push 0 customers c)

-- ---- a customer's own line

lookup-append : (test : List ℕ → Bool) (before after : Owners) → lookup test (before ++ after)
    ≡ option_or (lookup test before) (lookup test after)
lookup-append test [] after = refl
lookup-append test (o ∷ before) after = by (test o.0) (lookup-append test before after)
  where
    by : (b : Bool) → lookup test (before ++ after) ≡ option_or (lookup test before) (lookup test after)
        → cond b (Some o.1) (lookup test (before ++ after)) ≡ option_or (cond b (Some o.1) (lookup test before))
        (lookup test after)
    by true rest = refl
    by false rest = rest

-- the line of a number
abbrev pub numbered : ℕ → ℕ → LineId
numbered customer line = record { customer = customer; number = line }

numbered-cond : (customer line : ℕ) (test : Bool) (rest : Option ℕ)
    → cond test (Some (numbered customer line)) (option_map (numbered customer) rest)
    ≡ option_map (numbered customer) (cond test (Some line) rest)
numbered-cond customer line true rest = refl
numbered-cond customer line false rest = refl

lookup-line_owners : (customer line : ℕ) (lines : List NamedLine) (name : List ℕ)
    → lookup (bytes_eq name) (line_owners customer line lines)
    ≡ option_map (numbered customer) (position_from (λ l. bytes_eq l.name name) line lines)
lookup-line_owners customer line [] name = refl
lookup-line_owners customer line (l ∷ lines) name =
    ap (λ b. cond b (Some (numbered customer line)) (lookup (bytes_eq name) (line_owners customer (line + 1) lines)))
    (nat_list_eq_equiv.symm name l.name)
    ∙ ap (λ rest. cond (bytes_eq l.name name) (Some (numbered customer line)) rest)
    (lookup-line_owners customer (line + 1) lines name)
    ∙ numbered-cond customer line (bytes_eq l.name name) (position_from (λ l. bytes_eq l.name name) (line + 1) lines)

-- the owners so far are of customers below
abbrev AreBelow : ℕ → Option LineId → Type 0
AreBelow n owner = IfSome owner (λ o. o.customer < n)

below-numbered : (customer n : ℕ) (line : Option ℕ) → customer < n → AreBelow n (option_map (numbered customer) line)
below-numbered customer n None below = tt
below-numbered customer n (Some line) below = below

below-or : (n : ℕ) (first second : Option LineId) → AreBelow n first → AreBelow n second
    → AreBelow n (option_or first second)
below-or n None second a b = b
below-or n (Some o) second a b = a

below-more : (m n : ℕ) (owner : Option LineId) → m ≤ n → AreBelow m owner → AreBelow n owner
below-more m n None more below = tt
below-more m n (Some o) more below = omega arith

below-owners_from : (customer : ℕ) (customers : List NamedCustomer) (name : List ℕ)
    → AreBelow (customer + length customers) (lookup (bytes_eq name) (owners_from customer customers))
below-owners_from customer [] name = tt
below-owners_from customer (c ∷ customers) name =
    let n = customer + length (c ∷ customers) in
    let later : AreBelow n (lookup (bytes_eq name) (owners_from (customer + 1) customers)) =
    below-more ((customer + 1) + length customers) n _ (omega arith) (below-owners_from (customer + 1) customers name)
    in
    subst (AreBelow n) (sym (lookup-append (bytes_eq name) (line_owners customer 0 c.lines)
    (owners_from (customer + 1) customers)))
    (below-or n _ _ (subst (AreBelow n) (sym (lookup-line_owners customer 0 c.lines name))
    (below-numbered customer n _ (omega arith))) later)

-- a name that is taken is none of the lines that are apart from the taken
abbrev pub AreApart : List (List ℕ) → List NamedLine → Type 0
AreApart taken lines = list_any (λ l. list_any (bytes_eq l.name) taken) lines ≡ false

no_line : (taken : List (List ℕ)) (lines : List NamedLine) (name : List ℕ) (k : ℕ) → AreApart taken lines
    → list_any (bytes_eq name) taken ≡ true → position_from (λ l. bytes_eq l.name name) k lines ≡ None
no_line taken [] name k apart is_taken = refl
no_line taken (l ∷ lines) name k apart is_taken =
    let (here, rest) = or_parts _ _ apart in
    let other : bytes_eq l.name name ≡ false =
    false_from_ne_true (bytes_eq l.name name)
    (λ same. both_ways _ here (list_any_congr nat_list_eq_equiv l.name name taken same ∙ is_taken)) in
    cond-false (bytes_eq l.name name) (Some k) _ other ∙ no_line taken lines name (k + 1) rest is_taken

-- what is found of a customer, where its own come after those of customers below
picked : (n : ℕ) (before : Option LineId) (own : Option ℕ) → AreBelow n before → (is_some before ≡ true → own ≡ None)
    → option_and_then (λ o. cond (eqb o.customer n) (Some o.number) None)
    (option_or before (option_map (numbered n) own)) ≡ own
picked n None None below apart = refl
picked n None (Some line) below apart = cond-true (eqb n n) (Some line) None (eq-eqb n n refl)
picked n (Some o) own below apart =
    cond-false (eqb o.customer n) (Some o.number) None (ne_eqb o.customer n (λ same. absurd (omega arith)))
    ∙ sym (apart refl)

own_line-at : (customers : List NamedCustomer) (lines : List NamedLine) (name : List ℕ)
    → AreApart (line_names customers) lines
    → own_line (owners_from 0 customers ++ line_owners (length customers) 0 lines) (length customers) name ≡ line_number
    lines name
own_line-at customers lines name apart =
    let n = length customers in
    let before = owners_from 0 customers in
    let pick : Option LineId → Option ℕ = λ o. option_and_then (λ o. cond (eqb o.customer n) (Some o.number) None) o in
    let taken : is_some (lookup (bytes_eq name) before) ≡ true
    → list_any (bytes_eq name) (line_names customers) ≡ true =
    λ found. ap (list_any (bytes_eq name)) (sym (names-owners_from 0 customers))
    ∙ sym (is_some-lookup (bytes_eq name) before) ∙ found in
    ap pick (lookup-append (bytes_eq name) before (line_owners n 0 lines)
    ∙ ap (option_or (lookup (bytes_eq name) before)) (lookup-line_owners n 0 lines name))
    ∙ picked n (lookup (bytes_eq name) before) (line_number lines name)
    (subst (λ m. AreBelow m (lookup (bytes_eq name) before)) (zero-add n) (below-owners_from 0 customers name))
    (λ found. no_line (line_names customers) lines name 0 apart (taken found))

-- the lines of a customer are found among those of the hub
pub own_line-is : (customers : List NamedCustomer) (lines : List NamedLine) → AreApart (line_names customers) lines
    → own_line (owners_from 0 customers ++ line_owners (length customers) 0 lines) (length customers) ≡ line_number
    lines
own_line-is customers lines apart = λ i name. own_line-at customers lines name apart i
