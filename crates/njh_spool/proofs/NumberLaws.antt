-- The number of the next file is the least that no file has.
use Rattle.std.proofs.Common.{◌≡◌, ℕ, zero, suc, ◌+◌, ◌<◌, ◌≤◌, Bool, true, false, eqb, List, [], ◌∷◌, ◌++◌, length}
use Rattle.std.proofs.Common.{map, refl, sym, ap, ◌∙◌, inl, inr, arith, length-append}
use Rattle.std.specs.List.{list_any}
use Rattle.std.proofs.lemmas.Bool.{cases_eq, cases_lt, ltb-true}
use Rattle.std.proofs.lemmas.Bool.Decides.{nat_tests}
use Rattle.std.proofs.lemmas.List.{length-map}
use Rattle.std.proofs.lemmas.List.Folds.{list_any-append}
use Rattle.std.proofs.lemmas.Map.Steps.{le-length_from_below}
use Rattle.njh_spool.specs.CustomerSpool.{CustomerSpool, WholeFile, PartialFile, has_file_room, is_number, least_from}
use Rattle.njh_spool.specs.CustomerSpool.{next_number}

-- what a search for the least free number finds, from n on and among so many
pub record IsLeastFrom (k n least : ℕ) (s : CustomerSpool) : Type 0 where
  pub from : n ≤ least
  pub within : least ≤ n + k
  pub taken : (m : ℕ) → n ≤ m → m < least → is_number m s ≡ true
  pub free : least < n + k → is_number least s ≡ false

step : (k n : ℕ) (s : CustomerSpool) (found : Bool) → is_number n s ≡ found
    → IsLeastFrom k (n + 1) (least_from k (n + 1) s) s →
    IsLeastFrom (suc k) n (elim found [ true ↦ least_from k (n + 1) s | false ↦ n ]) s
step k n s true is rest =
    record {
      from = omega (arith, rest.from);
      within = omega (arith, rest.within);
      taken = λ m above below.
          elim (cases_eq m n) [
            | inl same ↦ ap (λ (j : ℕ). is_number j s) same ∙ is
            | inr other ↦ rest.taken m (omega arith) below
          ];
      free = λ below. rest.free (omega arith);
    }
step k n s false is rest =
    record {
      from = omega arith;
      within = omega arith;
      taken = λ m above below. absurd (omega arith);
      free = λ below. is;
    }

pub least_from_is : (k n : ℕ) (s : CustomerSpool) → IsLeastFrom k n (least_from k n s) s
least_from_is zero n s = record {
  from = omega arith;
  within = omega arith;
  taken = λ m above below. absurd (omega arith);
  free = λ below. absurd (omega arith);
}
least_from_is (suc k) n s = step k n s (is_number n s) refl (least_from_is k (n + 1) s)

pub numbers : CustomerSpool → List ℕ
numbers s = map (λ f. f.number) s.whole ++ map (λ f. f.number) s.partial

same_whole : (n : ℕ) (fs : List WholeFile)
    → list_any (λ f. eqb f.number n) fs ≡ list_any (eqb n) (map (λ f. f.number) fs)
same_whole n [] = refl
same_whole n (f ∷ fs) = let flipped : eqb f.number n ≡ eqb n f.number = grind (arith, nat_tests) in
    rw (flipped, same_whole n fs) refl

same_partial : (n : ℕ) (fs : List PartialFile)
    → list_any (λ f. eqb f.number n) fs ≡ list_any (eqb n) (map (λ f. f.number) fs)
same_partial n [] = refl
same_partial n (f ∷ fs) = let flipped : eqb f.number n ≡ eqb n f.number = grind (arith, nat_tests) in
    rw (flipped, same_partial n fs) refl

is_number-numbers : (n : ℕ) (s : CustomerSpool) → is_number n s ≡ list_any (eqb n) (numbers s)
unfolding numbers
is_number-numbers n s = rw (
  same_whole n s.whole,
  same_partial n s.partial,
  list_any-append (eqb n)
      (map (λ f. f.number) s.whole) (map (λ f. f.number) s.partial),
) refl

-- there is a number below the limit while there is room for a file
pub next_number-below : (s : CustomerSpool) → length s.whole + length s.partial < s.limit → next_number s < s.limit
unfolding numbers
next_number-below s room =
    let found = least_from_is s.limit 0 s in
    elim (cases_lt (next_number s) s.limit) [
      | inl below ↦ below
      | inr above ↦
          let long = le-length_from_below (numbers s) s.limit (λ q below. sym (is_number-numbers q s)
          ∙ found.taken q (omega arith) (omega arith)) in
          absurd (omega (
            arith,
            long,
            length-append (map (λ (f : WholeFile). f.number) s.whole)
                (map (λ (f : PartialFile). f.number) s.partial),
            length-map s.whole (λ f. f.number),
            length-map s.partial (λ f. f.number),
          ))
    ]

pub next_number-free : (s : CustomerSpool) → length s.whole + length s.partial < s.limit
    → is_number (next_number s) s ≡ false
next_number-free s room = (least_from_is s.limit 0 s).free (omega (arith, next_number-below s room))

-- no file has it, where the customer may have one file more
pub next_number-fresh : (s : CustomerSpool) → has_file_room s ≡ true → is_number (next_number s) s ≡ false
next_number-fresh s room = next_number-free s (ltb-true (length s.whole + length s.partial) s.limit room)
