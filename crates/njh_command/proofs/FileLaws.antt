-- The file at a place is found, changed and removed by its number, which no other file has.
use Rattle.std.proofs.Common.{◌≡◌, ◌<◌, ◌≤◌, ℕ, zero, suc, true, List, [], ◌∷◌, length, count_by, get_or, Some}
use Rattle.std.proofs.Common.{IsSomeAnd, slice_get, ◌==◌, sym, ap, arith, eq-eqb}
use Rattle.njh_spool.specs.Spools.{IsSound}
use Rattle.njh_spool.specs.CustomerSpool.{CustomerSpool, WholeFile, whole_numbered, on_file, without_whole}
use Rattle.njh_command.specs.Files.{file_at, no_file, with_file, without_at}
use Rattle.njh_stream.proofs.OnlyOneLaws.{only_found, only_changed, only_removed}

pub number_at : (xs : List WholeFile) (i n : ℕ) (d : WholeFile) → IsSomeAnd (slice_get xs i) (λ f. n ≡ f.number)
    → (get_or xs i
    d).number ≡ n
number_at [] i n d is = absurd (search is)
number_at (x ∷ xs) zero n d is = let same : n ≡ x.number = search is in sym same
number_at (x ∷ xs) (suc i) n d is = number_at xs i n d is

module _ (s : CustomerSpool) (i n : ℕ) (sound : IsSound s) (inside : i < length s.whole)
    (is : IsSomeAnd (slice_get s.whole i) (λ f. n ≡ f.number)) where
  few : count_by (λ f. f.number == n) s.whole ≤ 1
  few = omega (arith, sound.apart n)

  passes : (get_or s.whole i no_file).number == n ≡ true
  passes = eq-eqb (get_or s.whole i no_file).number n (number_at s.whole i n no_file is)

  pub found : whole_numbered n s ≡ Some (file_at i s)
  found = only_found (λ f. f.number == n) s.whole i no_file inside passes few

  pub alone : (f : WholeFile → WholeFile) → on_file n f s ≡ with_file i (f (file_at i s)) s
  alone f = ap (λ files. record s { whole = files })
      (only_changed (λ x. x.number == n) f s.whole i no_file inside passes few)

  pub gone : without_whole n s ≡ without_at i s
  gone = ap (λ files. record s { whole = files })
      (only_removed (λ x. x.number == n) s.whole i no_file inside passes few)
