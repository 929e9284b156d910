-- No two files of a customer have one number, and they stay within its quota of blocks and its limit of files, whatever
-- comes.
use Rattle.njh_customer.proofs.Words
use Words.{cond_both, ℕ, true, false, cond, not, List, [], map, filter, count_by, Option, Some, None, refl, ap, subst}
use Words.{arith, eqb-true, or_parts, sum_by_push, list_any, count_by_none, CustomerSpool, PartialFile, WholeFile}
use Words.{as_whole, is_number, next_number, partial_numbered, with_appended, with_arrived, with_finished}
use Words.{without_partial, files_numbered, CustomerEntry, RouteEntry, with_new_destination, changed_file, Customer}
use Words.{fresh_customer, AreApart, customer_with_routes, Bool, length, sym, length-append, leb-true, ltb-true}
use Words.{length-map, length-filter_both, sum_by-cons, length-filter, map-map, sum_by, is_name, Stored, Kind}
use Words.{records_to_node, cost, stored_size, used_blocks, find_counts, ready, may_change, IsWithinQuota, limits_of}
use Rattle.{std.proofs.Common.{◌≡◌, ◌≤◌, ◌+◌, ◌==◌, ◌∷◌, ◌++◌, ◌/◌, ◌∙◌}, njh_header.proofs.DestinationRecords.sent}
use Rattle.njh_header.proofs.{DestinationRecords.sent_long, Redirected.redirected_is}
use Rattle.{njh_spool.proofs.NumberLaws.next_number-fresh, njh_customer.proofs.FileListLaws.changed_numbers}
use Rattle.njh_customer.proofs.FileListLaws.{changed_where, numbers, some_less, but_states, found_less, same_sum}
use Rattle.njh_customer.proofs.{FileListLaws.as_many, Restated.IsRestated, SpoolWalks.{StaysInFiles, routes_so}}

-- no two whole files have one number
abbrev pub AreDistinct : List WholeFile → Type 0
AreDistinct files = (n : ℕ) → count_by (λ f. f.number == n) files ≤ 1

pub whole_distinct : (s : CustomerSpool) → AreApart s → AreDistinct s.whole
whole_distinct s apart n =
    let both : count_by (λ f. f.number == n) s.whole + count_by (λ f. f.number == n) s.partial ≤ 1 = apart n in
    omega arith

free_count : (n : ℕ) (s : CustomerSpool) → is_number n s ≡ false → files_numbered n s ≡ 0
free_count n s free =
    let none = or_parts (list_any (λ f. f.number == n) s.whole) (list_any (λ f. f.number == n) s.partial) free in
    let fact = count_by_none (λ f. f.number == n) s.whole none.0 in
    omega (arith, count_by_none (λ f. f.number == n) s.partial none.1)

-- ---- spools

-- how many files have a number
abbrev counted : {X : Type 0} → (X → ℕ) → ℕ → X → ℕ
counted number n x = cond {A = ℕ} (number x == n) 1 0

apart_fewer : (s t : CustomerSpool) → ((n : ℕ) → files_numbered n t ≤ files_numbered n s) → AreApart s → AreApart t
apart_fewer s t fewer apart = λ n. omega (arith, fewer n, apart n)

-- one file more, of a free number
one_more : (m : ℕ) (s : CustomerSpool) → is_number m s ≡ false → AreApart s → (n : ℕ)
    → files_numbered n s + cond {A = ℕ} (m == n) 1 0 ≤ 1
one_more m s free apart n = cond_both {A = ℕ} (m == n) 1 0 (λ k. files_numbered n s + k ≤ 1)
    (λ e. omega (arith, subst (λ k. files_numbered k s ≡ 0) (eqb-true m n e) (free_count m s free)))
    (λ e. omega (arith, apart n))

pub apart_arrived : (f : WholeFile) (s : CustomerSpool) → is_number f.number s ≡ false → AreApart s
    → AreApart (with_arrived f s)
apart_arrived f s free apart = λ n. let fact = one_more f.number s free apart n in
    omega (arith, sum_by_push (λ (g : WholeFile). cond {A = ℕ} (g.number == n) 1 0) s.whole f)

finished_apart : (n : ℕ) (s : CustomerSpool) → AreApart s → AreApart (with_finished n s)
finished_apart n s = at_file (partial_numbered n s) refl
  where
    at_file : (o : Option PartialFile) → partial_numbered n s ≡ o → AreApart s
        → AreApart (elim o [ None ↦ s | Some f ↦ with_arrived (as_whole f) (without_partial n s) ])
    at_file None found apart = apart
    at_file (Some f) found apart = λ m. let fact = apart m in
        let besides = found_less (counted (λ (g : PartialFile). g.number) m) (λ g. g.number == n) s.partial f found in
        omega (arith, sum_by_push (counted (λ (g : WholeFile). g.number) m) s.whole (as_whole f))

-- states change, and other nodes are named
whole_apart : (s t : CustomerSpool) → numbers t.whole ≡ numbers s.whole → t.partial ≡ s.partial → AreApart s
    → AreApart t
whole_apart s t whole partial = apart_fewer s t (λ n.
    let fact = same_sum (λ (f : WholeFile). f.number) (λ m. cond {A = ℕ} (m == n) 1 0) t.whole s.whole whole in
    omega (arith, ap (λ (fs : List PartialFile). count_by (λ f. f.number == n) fs) partial))

apart_restated : (s t : CustomerSpool) → IsRestated s t → AreApart s → AreApart t
apart_restated s t restated = whole_apart s t (but_states t.whole s.whole restated.whole) restated.partial

pub apart_files : StaysInFiles AreApart (λ i. AreApart)
apart_files = record {
  arrivals = record {
    still = λ i s apart. apart;
    without = λ n s. apart_fewer s (without_partial n s) (λ m.
        omega (arith, some_less (counted (λ (f : PartialFile). f.number) m) (λ f. not (f.number == n)) s.partial));
    begun = λ rcb srcb kind s room apart n.
        let begun : PartialFile = record { number = next_number s; kind = kind; records = [] } in
        let fact = one_more (next_number s) s (next_number-fresh s room) apart n in
        omega (arith, sum_by_push (counted (λ (g : PartialFile). g.number) n) s.partial begun);
    appended = λ rcb r n s room. apart_fewer s (with_appended n r s) (λ m. omega (
      arith,
      same_sum (λ (f : PartialFile). f.number) (λ k. cond {A = ℕ} (k == m) 1 0) (with_appended n r s).partial s.partial
          (changed_where (λ (f : PartialFile). f.number) (λ f. f.number == n)
          (λ f. record f { records = f.records ++ r ∷ [] }) s.partial (λ f. refl)),
    ));
    finished = λ rcb srcb n s whole. finished_apart n s;
  };
  restated = apart_restated;
  left = λ p s. apart_fewer s (record s { whole = filter p s.whole })
      (λ n. omega (arith, some_less (counted (λ (f : WholeFile). f.number) n) p s.whole));
  rerouted = λ p node s named.
      whole_apart s (record s { whole = map (changed_file p (with_new_destination node)) s.whole })
      (changed_numbers p (with_new_destination node) s.whole (λ f. refl)) refl;
}

pub apart_routes : (routes : List RouteEntry) (c : Customer) → AreApart c.spool
    → AreApart (customer_with_routes routes c).spool
apart_routes = routes_so AreApart apart_restated

pub apart_fresh : (entry : CustomerEntry) → AreApart (fresh_customer entry).spool
apart_fresh entry = λ n. omega arith

-- ---- the quota and the limit

abbrev whole_cost : WholeFile → ℕ
whole_cost f = cost f.records

abbrev partial_cost : PartialFile → ℕ
partial_cost f = cost f.records

-- ---- another destination: eight bytes are written over eight bytes of a header

abbrev size_of : Stored → ℕ
size_of r = 3 + length r.bytes

module _ (node : List ℕ) (named : is_name node ≡ true) where
  redirected_size : (kind : Kind) (before : Option ℕ) (records : List Stored)
      → stored_size (records_to_node kind node before records) ≡ stored_size records
  redirected_size kind before [] = refl
  redirected_size kind before (r ∷ rs) = omega (
    arith,
    sum_by-cons size_of (sent kind before r node) (records_to_node kind node (Some r.srcb) rs),
    sum_by-cons size_of r rs,
    sent_long kind before r node named,
    redirected_size kind (Some r.srcb) rs,
  )

  redirected_cost : (f : WholeFile) → whole_cost (with_new_destination node f) ≡ whole_cost f
  redirected_cost f = ap (λ (n : ℕ). (n + 251) / 252)
      (sym (ap stored_size (redirected_is f.kind node f.records)) ∙ redirected_size f.kind None f.records)

-- ---- spools

-- some blocks and files fewer
no_more : (s t : CustomerSpool) → limits_of t ≡ limits_of s → used_blocks t ≤ used_blocks s
    → length t.whole + length t.partial ≤ length s.whole + length s.partial → IsWithinQuota s → IsWithinQuota t
no_more s t limits blocks files within = record {
  blocks = omega (arith, ap (λ (x : ℕ × ℕ). x.0) limits);
  files = omega (arith, ap (λ (x : ℕ × ℕ). x.1) limits);
}

-- whole files that each take as much as before
same_cost : (s t : CustomerSpool) → limits_of t ≡ limits_of s → t.partial ≡ s.partial
    → map whole_cost t.whole ≡ map whole_cost s.whole → IsWithinQuota s → IsWithinQuota t
same_cost s t limits partial costs = no_more s t limits (omega (
  arith,
  same_sum whole_cost (λ n. n) t.whole s.whole costs,
  ap (λ (fs : List PartialFile). sum_by partial_cost fs) partial,
)) (omega (arith, as_many whole_cost t.whole s.whole costs, ap (λ (fs : List PartialFile). length fs) partial))

within_restated : (s t : CustomerSpool) → IsRestated s t → IsWithinQuota s → IsWithinQuota t
within_restated s t restated = same_cost s t restated.limits restated.partial
    (sym (map-map whole_cost ready t.whole) ∙ ap (map whole_cost) restated.whole ∙ map-map whole_cost ready s.whole)

finished_within : (n : ℕ) (s : CustomerSpool) → IsWithinQuota s → IsWithinQuota (with_finished n s)
finished_within n s = at_file (partial_numbered n s) refl
  where
    p : PartialFile → Bool
    p f = f.number == n

    at_file : (o : Option PartialFile) → partial_numbered n s ≡ o → IsWithinQuota s
        → IsWithinQuota (elim o [ None ↦ s | Some f ↦ with_arrived (as_whole f) (without_partial n s) ])
    at_file None found within = within
    at_file (Some f) found within = record {
      blocks = omega (arith, found_less partial_cost p s.partial f found, sum_by_push whole_cost s.whole (as_whole f));
      files =
          let fact = length-filter_both p (λ g. not (p g)) (λ g. refl) s.partial in
          let besides = length-filter p s.partial in
          let moreover = find_counts p s.partial f found in
          omega (arith, length-append s.whole (as_whole f ∷ []));
    }

pub within_files : StaysInFiles IsWithinQuota (λ i. IsWithinQuota)
within_files = record {
  arrivals = record {
    still = λ i s within. within;
    without = λ n s. let p : PartialFile → Bool = λ f. not (f.number == n) in
        no_more s (without_partial n s) refl (omega (arith, some_less partial_cost p s.partial))
        (omega (arith, length-filter_both p (λ f. not (p f)) (λ f. refl) s.partial));
    begun = λ rcb srcb kind s room within.
        let begun : PartialFile = record { number = next_number s; kind = kind; records = [] } in
        record {
          blocks = omega (arith, sum_by_push partial_cost s.partial begun);
          files =
              let fact = ltb-true (length s.whole + length s.partial) s.limit room in
              omega (arith, length-append s.partial (begun ∷ []));
        };
    appended = λ rcb r n s fits within. record {
      blocks = leb-true (used_blocks (with_appended n r s)) s.quota fits;
      files = omega (
        arith,
        length-map s.partial (λ (f : PartialFile). cond (f.number == n) (record f { records = f.records ++ r ∷ [] }) f),
      );
    };
    finished = λ rcb srcb n s whole. finished_within n s;
  };
  restated = within_restated;
  left = λ p s. no_more s (record s { whole = filter p s.whole }) refl (omega (arith, some_less whole_cost p s.whole))
      (omega (arith, length-filter_both p (λ f. not (p f)) (λ f. refl) s.whole));
  rerouted = λ p node s named.
      same_cost s (record s { whole = map (changed_file p (with_new_destination node)) s.whole }) refl refl
      (changed_where whole_cost (may_change p) (with_new_destination node) s.whole
      (redirected_cost node named));
}

pub within_routes : (routes : List RouteEntry) (c : Customer) → IsWithinQuota c.spool
    → IsWithinQuota (customer_with_routes routes c).spool
within_routes = routes_so IsWithinQuota within_restated

pub within_fresh : (entry : CustomerEntry) → IsWithinQuota (fresh_customer entry).spool
within_fresh entry = record { blocks = omega arith; files = omega arith }
