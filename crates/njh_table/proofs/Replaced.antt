-- Customers in the place of others, with their names, their quotas and the names of their lines: the tables stay
-- accepted, and each line of the hub is found as before.
use Rattle.std.proofs.Common.{◌≡◌, ℕ, zero, suc, ◌+◌, ◌≤◌, sum, List, [], ◌∷◌, ◌++◌, length, map, get_or, set, All, ap}
use Rattle.std.proofs.Common.{ap₂, refl, subst, sym, ◌∙◌}
use Rattle.std.proofs.lemmas.List.{length-map, map-set, set-get_or}
use Rattle.std.proofs.lemmas.List.Sums.{sum-map}
use Rattle.njh_table.specs.Limits.{max_customers, max_lines}
use Rattle.njh_table.specs.Accepted.{IsBetween, AreDistinct, IsCustomer, IsAccepted}
use Rattle.njh_table.specs.TableFile.{NamedLine, NamedCustomer, Owners, TableFile, line_names, line_owners, no_customer}
use Rattle.njh_table.specs.TableFile.{owners_from}

pub accepted_again : (t : TableFile) (customers : List NamedCustomer)
    → map (λ c. c.name) customers ≡ map (λ c. c.name) t.customers
    → map (λ c. c.quota) customers ≡ map (λ c. c.quota) t.customers → line_names customers ≡ line_names t.customers
    → All IsCustomer customers → IsAccepted t → IsAccepted (record t { customers = customers })
accepted_again t customers names quotas lines each was =
    let count : length t.customers ≡ length customers =
    sym (length-map t.customers (λ c. c.name)) ∙ ap (λ (ns : List (List ℕ)). length ns) (sym names)
    ∙ length-map customers (λ c. c.name) in
    let total = sym (sum-map (λ (c : NamedCustomer). c.quota) t.customers) ∙ ap sum (sym quotas)
    ∙ sum-map (λ (c : NamedCustomer). c.quota) customers in
    record {
      capacity = was.capacity;
      customers = subst (IsBetween 1 max_customers) count was.customers;
      names = subst AreDistinct (sym names) was.names;
      each = each;
      lines = subst (λ ns. length ns ≤ max_lines) (sym lines) was.lines;
      line_names = subst AreDistinct (sym lines) was.line_names;
      quotas = subst (λ n. n ≤ t.capacity) total was.quotas;
    }

-- what is read of the elements of a list, where one is another that reads alike
pub reads_alike : {X B : Type 0} (f : X → B) (xs : List X) (i : ℕ) (x d : X) → f x ≡ f (get_or xs i d)
    → map f (set xs i x) ≡ map f xs
reads_alike f xs i x d same =
    map-set f xs i x ∙ ap (set (map f xs) i) same ∙ sym (map-set f xs i (get_or xs i d))
    ∙ ap (map f) (set-get_or xs i d)

-- the lines of a customer are found by their names alone
same_line_owners : (customer k : ℕ) (lines others : List NamedLine) → map (λ l. l.name) lines ≡ map (λ l. l.name) others
    → line_owners customer k lines ≡ line_owners customer k others
same_line_owners customer k lines others same =
    named customer k lines ∙ ap (owned customer k) same ∙ sym (named customer k others)
  where
    owned : ℕ → ℕ → List (List ℕ) → Owners
    owned customer k [] = []
    owned customer k (name ∷ names) = (name, record { customer = customer; number = k }) ∷ owned customer (k + 1) names

    named : (customer k : ℕ) (lines : List NamedLine)
        → line_owners customer k lines ≡ owned customer k (map (λ l. l.name) lines)
    named customer k [] = refl
    named customer k (l ∷ lines) = ap (λ os. (l.name, record { customer = customer; number = k }) ∷ os)
        (named customer (k + 1) lines)

-- ---- one customer in the place of another

pub same_line_names : (customers : List NamedCustomer) (c : ℕ) (x : NamedCustomer)
    → map (λ l. l.name) x.lines ≡ map (λ l. l.name) (get_or customers c no_customer).lines
    → line_names (set customers c x) ≡ line_names customers
same_line_names [] c x same = refl
same_line_names (y ∷ customers) zero x same = ap (λ ns. ns ++ line_names customers) same
same_line_names (y ∷ customers) (suc c) x same =
    ap (λ ns. map (λ l. l.name) y.lines ++ ns) (same_line_names customers c x same)

pub same_owners : (n : ℕ) (customers : List NamedCustomer) (c : ℕ) (x : NamedCustomer)
    → map (λ l. l.name) x.lines ≡ map (λ l. l.name) (get_or customers c no_customer).lines
    → owners_from n (set customers c x) ≡ owners_from n customers
same_owners n [] c x same = refl
same_owners n (y ∷ customers) zero x same =
    ap (λ os. os ++ owners_from (n + 1) customers) (same_line_owners n 0 x.lines y.lines same)
same_owners n (y ∷ customers) (suc c) x same =
    ap (λ os. line_owners n 0 y.lines ++ os) (same_owners (n + 1) customers c x same)

-- ---- all customers in the places of others

pub same_owners_of_all : (f : NamedCustomer → NamedCustomer)
    → ((c : NamedCustomer) → map (λ l. l.name) (f c).lines ≡ map (λ l. l.name) c.lines)
    → (n : ℕ) (customers : List NamedCustomer) → owners_from n (map f customers) ≡ owners_from n customers
same_owners_of_all f same n [] = refl
same_owners_of_all f same n (c ∷ customers) =
    ap₂ (λ os rest. os ++ rest) (same_line_owners n 0 (f c).lines c.lines (same c))
    (same_owners_of_all f same (n + 1) customers)
