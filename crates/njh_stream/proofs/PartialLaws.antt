-- Which partial files are found after one was begun, appended to or abandoned.
use Rattle.std.proofs.Common.{◌≡◌, ℕ, Bool, true, false, cond, not, List, [], ◌∷◌, map, filter, find, Option, Some}
use Rattle.std.proofs.Common.{None, ◌==◌, refl, sym, ap, ◌∙◌, true≢false}
use Rattle.std.proofs.lemmas.Bool.{eqb-true}
use Rattle.njh_record.specs.Stored.{Stored}
use Rattle.njh_spool.specs.CustomerSpool.{PartialFile}
use Rattle.njh_stream.proofs.AgreesLaws.{with_record}

abbrev pub numbered : ℕ → List PartialFile → Option PartialFile
numbered n fs = find (λ f. f.number == n) fs

-- a file has one number
pub has_other : (a m n : ℕ) → (m == n) ≡ false → (a == m) ≡ true → (a == n) ≡ false
has_other a m n apart is = ap (λ x. x == n) (eqb-true a m is) ∙ apart

module _ (m n : ℕ) (apart : (m == n) ≡ false) where
  pub others_kept : (fs : List PartialFile) → numbered m (filter (λ f. not (f.number == n)) fs) ≡ numbered m fs
  others_kept [] = refl
  others_kept (f ∷ fs) = at_first (f.number == n) refl (f.number == m) refl (others_kept fs)
    where
      rest : List PartialFile
      rest = filter (λ g. not (g.number == n)) fs

      at_first :
          (b : Bool) → (f.number == n) ≡ b → (c : Bool) → (f.number == m) ≡ c → numbered m rest ≡ numbered m fs
          → numbered m (cond (not b) (f ∷ rest) rest) ≡ cond c (Some f) (numbered m fs)
      at_first true e true h more = absurd (true≢false (sym e ∙ has_other f.number m n apart h))
      at_first true e false h more = more
      at_first false e true h more = ap (λ b. cond b (Some f) (numbered m rest)) h
      at_first false e false h more = ap (λ b. cond b (Some f) (numbered m rest)) h ∙ more

  pub others_stay :
      (r : Stored) (fs : List PartialFile)
      → numbered m (map (λ f. cond (f.number == n) (with_record r f) f) fs) ≡ numbered m fs
  others_stay r [] = refl
  others_stay r (f ∷ fs) = at_first (f.number == n) refl (others_stay r fs)
    where
      rest : List PartialFile
      rest = map (λ g. cond (g.number == n) (with_record r g) g) fs

      not_it : (f.number == n) ≡ true → (f.number == m) ≡ false
      not_it e = at_number (f.number == m) refl
        where
          at_number : (c : Bool) → (f.number == m) ≡ c → c ≡ false
          at_number true h = absurd (true≢false (sym e ∙ has_other f.number m n apart h))
          at_number false h = refl

      at_first :
          (b : Bool) → (f.number == n) ≡ b → numbered m rest ≡ numbered m fs
          → numbered m (cond b (with_record r f) f ∷ rest) ≡ cond (f.number == m) (Some f) (numbered m fs)
      at_first true e more =
          ap (λ b. cond b (Some (with_record r f)) (numbered m rest)) (not_it e) ∙ more
          ∙ ap (λ b. cond b (Some f) (numbered m fs)) (sym (not_it e))
      at_first false e more = ap (λ o. cond (f.number == m) (Some f) o) more

pub gone : (n : ℕ) (fs : List PartialFile) → numbered n (filter (λ f. not (f.number == n)) fs) ≡ None
gone n [] = refl
gone n (f ∷ fs) = at_first (f.number == n) refl (gone n fs)
  where
    rest : List PartialFile
    rest = filter (λ g. not (g.number == n)) fs

    at_first : (b : Bool) → (f.number == n) ≡ b → numbered n rest ≡ None
        → numbered n (cond (not b) (f ∷ rest) rest) ≡ None
    at_first true e more = more
    at_first false e more = ap (λ b. cond b (Some f) (numbered n rest)) e ∙ more
