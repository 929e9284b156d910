-- There are few customers, and a customer has at most as many lines as the hub may have.
use Rattle.std.proofs.Common.{◌≡◌, ◌∙◌, ap, get_or}
use Rattle.std.proofs.Common.{ℕ, zero, suc, ◌≤◌, ◌<◌, ◌^◌, List, [], ◌∷◌, map, length, arith, length-append}
use Rattle.std.proofs.lemmas.List.{get_or_default, length-map}
use Rattle.std.specs.Prelude.{slice_index_or}
use Rattle.njh_table.specs.Accepted.{IsAccepted}
use Rattle.njh_table.specs.TableFile.{NamedCustomer, NamedLine, TableFile, customer_at, line_names, no_customer}

names-below : (customers : List NamedCustomer) (c : ℕ)
    → length (slice_index_or customers c no_customer).lines ≤ length (line_names customers)
names-below [] c = omega arith
names-below (x ∷ xs) zero =
    omega (
      arith,
      length-append (map (λ (l : NamedLine). l.name) x.lines) (line_names xs),
      length-map x.lines (λ (l : NamedLine). l.name),
    )
names-below (x ∷ xs) (suc c) =
    omega (arith, names-below xs c, length-append (map (λ (l : NamedLine). l.name) x.lines) (line_names xs))

few_lines : (t : TableFile) (c : ℕ) → IsAccepted t → length (customer_at t c).lines < 2 ^ 16
few_lines t c accepted = omega (arith, names-below t.customers c, accepted.lines)

pub few_lines_at : (t : TableFile) (c : ℕ) (x : NamedCustomer) → IsAccepted t → c < length t.customers
    → x ≡ get_or t.customers c x → length x.lines < 2 ^ 16
few_lines_at t c x accepted there is =
    let same : x ≡ customer_at t c = is ∙ get_or_default t.customers c x no_customer there in
    omega (arith, few_lines t c accepted, ap (λ (y : NamedCustomer). length y.lines) same)

pub few_customers : (t : TableFile) → IsAccepted t → length t.customers < 2 ^ 16
few_customers t accepted = omega (arith, accepted.customers.1)
