-- A text that a mark parts: what comes before the first one, and the parts after that.
use Rattle.std.proofs.Common.{◌≡◌, ℕ, ◌<◌, ◌≤◌, ◌+◌, eqb, Bool, true, false, cond, List, [], ◌∷◌, length, Some, None}
use Rattle.std.proofs.Common.{refl, arith, length-drop, Bor}
use Rattle.std.proofs.lemmas.List.Splits.{slice_split_none, slice_split_first}
use Rattle.std.proofs.lemmas.List.Sums.{fails_before_first}
use Rattle.std.proofs.lemmas.Str.Pattern.{IsSplitOnceResult, split_once_first}
use Rattle.std.specs.List.{position_or_len, after_first, onto_first, slice_split}

-- a text without the mark is one part
pub parts-none : (c : ℕ) (text : List ℕ) → length text ≤ position_or_len (λ b. eqb b c) text
    → slice_split (λ b. eqb b c) text ≡ text ∷ []
parts-none c text past =
    slice_split_none (λ b. eqb b c) text
    (λ k d below. let before : k < position_or_len (λ b. eqb b c) text = omega arith in fails_before_first
    (λ b. eqb b c) text k d before)

-- the same of what `split_once` gives
pub parts-whole : (c : ℕ) (text : List ℕ) → c < 128 → IsSplitOnceResult c text None
    → slice_split (λ b. eqb b c) text ≡ text ∷ []
parts-whole c text ascii whole =
    let past = split_once_first c text None whole ascii in
    parts-none c text (omega arith)

-- a text with the mark is what comes before the first, and the parts of what comes after it
pub parts-first : (c : ℕ) (text : List ℕ) (part rest : Bor (List ℕ)) → c < 128
    → IsSplitOnceResult c text (Some (part, rest))
    → (slice_split (λ b. eqb b c) text ≡ part.now ∷ slice_split (λ b. eqb b c) rest.now)
    × (length rest.now < length text)
parts-first c text part rest ascii split =
    let cut = split_once_first c text (Some (part, rest)) split ascii in
    let shorter : length (after_first (λ b. eqb b c) text) < length text =
    omega (arith, cut.0, length-drop (position_or_len (λ b. eqb b c) text + 1) text) in
    (rw (cut.1, cut.2) (slice_split_first (λ b. eqb b c) text 0 cut.0), rw cut.2 shorter)

-- there is always a first part
onto_first-some : (b : ℕ) (parts : List (List ℕ)) → (part : List ℕ) × (others : List (List ℕ))
    × (onto_first b parts ≡ part ∷ others)
onto_first-some b [] = (b ∷ [], [], refl)
onto_first-some b (part ∷ parts) = (b ∷ part, parts, refl)

cond-some : (test : Bool) (b : ℕ) (parts : List (List ℕ)) → (part : List ℕ) × (others : List (List ℕ))
    × (cond test ([] ∷ parts) (onto_first b parts) ≡ part ∷ others)
cond-some true b parts = ([], parts, refl)
cond-some false b parts = onto_first-some b parts

pub parts-some : (c : ℕ) (text : List ℕ) → (part : List ℕ) × (others : List (List ℕ))
    × (slice_split (λ b. eqb b c) text ≡ part ∷ others)
parts-some c [] = ([], [], refl)
parts-some c (b ∷ text) = cond-some (eqb b c) b (slice_split (λ b. eqb b c) text)
