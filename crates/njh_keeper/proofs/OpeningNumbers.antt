-- Which numbers are emptied at an opening.
use Rattle.njh_keeper.proofs.Words
use Words.{◌≡◌, ℕ, suc, zero, ◌+◌, ◌-◌, ◌<◌, ◌≤◌, ◌^◌, ◌==◌, min, nat_lt, Bool, true, false, ◌||◌, List, [], ◌∷◌}
use Words.{length, replicate, slice_index_or, slice_set, refl, inl, inr, sym, ap, subst, ◌∙◌, arith, cases_Bool}
use Words.{cases_lt, eqb-false, eqb-true, get_or-set_other, get_or-set_same, length-replicate, length-set}
use Words.{AllByRecursion, StoredFile, emptied_at, free_at, is_marked, is_used, key_behind, marked_by, numbers_but}
use Words.{unmarked}
use Rattle.std.proofs.{Common.max, Math.ListN.get_or-eq_default, lemmas.List.get_or-replicate}
use Rattle.njh_keeper.{proofs.NumberedLaws.all_weaker, specs.code.Writing.{AreBelow, number_after}}

or_false : (b : Bool) → b ≡ (b || false)
or_false true = refl
or_false false = refl

or_true : (b : Bool) → true ≡ (b || true)
or_true true = refl
or_true false = refl

-- what is marked
set_step : (marks : List Bool) (i k : ℕ) (used : Bool) → k < length marks
    → (slice_index_or (slice_set marks i true) k false || used) ≡ (slice_index_or marks k false || ((i == k) || used))
set_step marks i k used within = elim (cases_Bool (i == k)) [
  | inl same ↦
      let here : slice_index_or (slice_set marks i true) k false ≡ true =
      subst (λ at. slice_index_or (slice_set marks at true) k false ≡ true) (sym (eqb-true i k same))
      (get_or-set_same marks k true false within) in
      rw (here, same) (or_true (slice_index_or marks k false))
  | inr other ↦ rw (other, get_or-set_other marks i k true false (λ e. eqb-false i k other (sym e))) refl
]

pub marks_are : (marks : List Bool) (files : List StoredFile) (k : ℕ) → k < length marks
    → is_marked (marked_by marks files) k ≡ (is_marked marks k || is_used files k)
marks_are marks [] k within = or_false (is_marked marks k)
marks_are marks (f ∷ fs) k within =
    marks_are (slice_set marks f.file.key true) fs k
    (subst (λ n. k < n) (sym (length-set marks f.file.key true)) within)
    ∙ set_step marks f.file.key k (is_used fs k) within

pub marks_stay : (marks : List Bool) (files : List StoredFile) → length (marked_by marks files) ≡ length marks
marks_stay marks [] = refl
marks_stay marks (f ∷ fs) = marks_stay (slice_set marks f.file.key true) fs ∙ length-set marks f.file.key true

-- numbers alike
pub numbers_same : (p q : ℕ → Bool) (n : ℕ) → ((k : ℕ) → k < n → p k ≡ q k) → numbers_but p n ≡ numbers_but q n
numbers_same p q zero same = refl
numbers_same p q (suc n) same = rw (same n (omega arith), numbers_same p q n (λ k less. same k (omega (arith, less))))
    refl

-- no file's records have a number that isn't below
pub unused_high : (files : List StoredFile) (next k : ℕ) → AllByRecursion (λ f. f.file.key < next) files → next ≤ k
    → is_used files k ≡ false
unused_high [] next k all high = refl
unused_high (f ∷ fs) next k all high = elim (cases_Bool (f.file.key == k)) [
  | inl same ↦ absurd (omega (arith, eqb-true f.file.key k same, all.0, high))
  | inr other ↦ rw (other) (unused_high fs next k all.1 high)
]

pub marks_of_files : (files : List StoredFile) (next n : ℕ) → AllByRecursion (λ f. f.file.key < next) files
    → next ≤ 200000 → unmarked (marked_by (replicate 200000 false) files) n ≡ numbers_but (is_used files) n
marks_of_files files next n all few =
    let marks = replicate 200000 false in
    numbers_same (is_marked (marked_by marks files)) (is_used files) n (λ k less. elim (cases_lt k 200000) [
      | inl within ↦ marks_are marks files k (subst (λ m. k < m) (sym (length-replicate 200000 false)) within)
          ∙ ap (λ b. b || is_used files k) (get_or-replicate 200000 k false false within)
      | inr high ↦ get_or-eq_default (marked_by marks files) false
          (subst (λ m. m ≤ k) (sym (marks_stay marks files ∙ length-replicate 200000 false)) high)
          ∙ sym (unused_high files next k all (omega (arith, few, high)))
    ])

-- the next number comes after those of the files
pub after_all : (greatest : ℕ) (number : StoredFile → ℕ) (next : ℕ) (files : List StoredFile) (end : ℕ)
    → number_after greatest number next files ≤ end
    → (next ≤ end) × AllByRecursion (λ f. min (number f + 1) greatest ≤ end) files
after_all greatest number next [] end most = (most, tt)
after_all greatest number next (f ∷ fs) end most =
    let rest = after_all greatest number (max next (min (number f + 1) greatest)) fs end most in
    (omega (arith, rest.0), (omega (arith, rest.0), rest.1))

pub are_below : (next : ℕ) (files : List StoredFile) (end : ℕ) → key_behind next files ≤ end → end ≤ 200000
    → AllByRecursion (λ f. f.file.key < end) files
are_below next files end most few =
    all_weaker (λ (f : StoredFile). min (f.file.key + 1) (2 ^ 32 - 1) ≤ end) (λ f. f.file.key < end)
    (λ f here. omega (arith, here, few)) files (after_all (2 ^ 32 - 1) (λ f. f.file.key) next files end most).1

-- what is emptied, and what is free then
looked_for : (next : ℕ) → next ≤ 200000 → (nat_lt 200000 next ≡ false) × (min (next + 64) (2 ^ 32 - 1) ≡ next + 64)
looked_for next few = (grind (arith, few), omega (arith, few))

pub emptied_is : (files : List StoredFile) (next : ℕ) (marks : List Bool) → next ≤ 200000 → AreBelow files next
    → marks ≡ marked_by (replicate 200000 false) files
    → unmarked marks (min (next + 64) (2 ^ 32 - 1)) ≡ emptied_at files next
emptied_is files next marks few all are = let h =
    looked_for next few in rw (are, h.0, h.1) (marks_of_files files next (next + 64) (all few) few)

pub free_is : (files : List StoredFile) (next : ℕ) (marks : List Bool) → next ≤ 200000 → AreBelow files next
    → marks ≡ marked_by (replicate 200000 false) files → unmarked marks next ≡ free_at files next
free_is files next marks few all are = let h =
    looked_for next few in rw (are, h.0) (marks_of_files files next next (all few) few)
