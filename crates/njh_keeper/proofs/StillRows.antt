-- Rows that are as they were, or are their customer's still, one beside the other.
use Rattle.njh_keeper.proofs.Words
use Words.{◌≡◌, ◌<◌, inl, inr, ℕ, zero, suc, true, List, [], ◌∷◌, length, get_or, set, refl, sym, subst, arith}
use Words.{AllZip, File, SpoolContents, with_changed, IsOrdered, own_rows, is_own}
use Rattle.njh_keeper.proofs.{HubLaws.one_name, NumberedLaws.{filter_there, put_at}, RowLaws.row_is_own}
use Rattle.njh_keeper.specs.code.Opening.{AreRowsStill, IsRowStill}

pub still_same : (es : List (ℕ × File)) → AllZip IsRowStill es es
still_same [] = tt
still_same (e ∷ es) = (inl refl, still_same es)

one_then : (e f g : ℕ × File) → IsRowStill e f → IsRowStill f g → IsRowStill e g
one_then e f g (inl first) next = subst (λ x. IsRowStill x g) first next
one_then e f g (inr first) (inl next) = subst (IsRowStill e) (sym next) (inr first)
one_then e f g (inr first) (inr next) =
    let same = one_name f.1.customer next.0 first.0 next.1 first.2 in
    inr (first.0, first.1, subst (λ name. is_own name g.1 ≡ true) same next.2)

pub still_then : (es fs gs : List (ℕ × File)) → AllZip IsRowStill es fs → AllZip IsRowStill fs gs
    → AllZip IsRowStill es gs
still_then [] [] gs first next = next
still_then [] (f ∷ fs) gs first next = absurd first
still_then (e ∷ es) [] gs first next = absurd first
still_then (e ∷ es) (f ∷ fs) [] first next = absurd next
still_then (e ∷ es) (f ∷ fs) (g ∷ gs) first next =
    (one_then e f g first.0 next.0, still_then es fs gs first.1 next.1)

still_set : (es : List (ℕ × File)) (i : ℕ) (e f : ℕ × File) → i < length es → e ≡ get_or es i e → IsRowStill e f
    → AllZip IsRowStill es (set es i f)
still_set [] i e f there is one = absurd (omega (arith, there))
still_set (x ∷ es) zero e f there is one = (subst (λ y. IsRowStill y f) is one, still_same es)
still_set (x ∷ es) (suc i) e f there is one = (inl refl, still_set es i e f (omega (arith, there)) is one)

-- a row of a customer is written anew
module _ (name : List ℕ) (spool : SpoolContents) (ordered : IsOrdered spool) (i : ℕ) (e : ℕ × File)
    (there : i < length (own_rows name spool)) (is : e ≡ get_or (own_rows name spool) i e) where
  pub still_changed : (file : File) → is_own name file ≡ true → AreRowsStill spool (with_changed e.0 file spool)
  still_changed file owned =
      let place = filter_there (λ (x : ℕ × File). is_own name x.1) spool.files i e there is in
      subst (λ es. AllZip IsRowStill spool.files es)
      (sym (put_at spool.files place.0 e file ordered.files_rise place.1 (sym place.2)))
      (still_set spool.files place.0 e (e.0, file) place.1 (sym place.2)
      (inr (name, row_is_own name spool ordered i e there is, owned)))
