-- Splitting at blanks and at full stops, which folding leaves as they are.
use Rattle.std.proofs.Common.{◌≡◌, ◌<◌, ◌≤◌, ◌+◌, ℕ, zero, suc, Bool, true, false, cond, not, ◌==◌, ◌||◌, ltb, leb}
use Rattle.std.proofs.Common.{List, [], ◌∷◌, length, map, filter, take, drop, Some, None, position, refl, sym, ap, ap₂}
use Rattle.std.proofs.Common.{subst, ◌∙◌, arith, ne_eqb, inl, inr}
use Rattle.std.specs.List.{slice_split, onto_first, position_or_len}
use Rattle.std.proofs.lemmas.Bool.{cases_lt, lt-ltb}
use Rattle.std.proofs.lemmas.Bool.Decides.{leb_tells}
use Rattle.std.proofs.lemmas.List.{take-map}
use Rattle.std.proofs.lemmas.List.Splits.{slice_split_first}
use Rattle.njh_ebcdic.specs.Names.{upper, within}
use Rattle.njh_command.specs.Words.{is_blank, is_full_stop, is_word, name_in, name_of_parts, words}

-- ---- what folding leaves

-- a byte below the letters is no letter
below : (low b : ℕ) → b < low → leb low b ≡ false
below low b h = elim (leb_tells low b) [ inl above ↦ absurd (omega (arith, above.1, h)) | inr under ↦ under.0 ]

small : (b : ℕ) → b < 0x81 → upper b ≡ b
small b h = rw (below 0x81 b h, below 0x91 b (omega (arith, h)), below 0xa2 b (omega (arith, h))) refl

large : (b : ℕ) → 0x81 ≤ b → 0x81 ≤ upper b
large b h = by_test (within 0x81 0x89 b || (within 0x91 0x99 b || within 0xa2 0xa9 b))
  where
    by_test : (t : Bool) → 0x81 ≤ cond t (b + 0x40) b
    by_test true = omega arith
    by_test false = h

folds : (byte b : ℕ) → byte < 0x81 → (upper b == byte) ≡ (b == byte)
folds byte b h =
    elim (leb_tells 0x81 b) [
      | inl above ↦ ne_eqb (upper b) byte (λ same. omega (arith, large b above.1))
          ∙ sym (ne_eqb b byte (λ same. omega (arith, above.1)))
      | inr below ↦ ap (λ x. x == byte) (small b below.1)
    ]

pub blanks_stay : (b : ℕ) → is_blank (upper b) ≡ is_blank b
blanks_stay b = folds 0x40 b (omega arith)

pub full_stops_stay : (b : ℕ) → is_full_stop (upper b) ≡ is_full_stop b
full_stops_stay b = folds 0x4b b (omega arith)

-- ---- the parts of what is folded

module _ (p : ℕ → Bool) (stays : (b : ℕ) → p (upper b) ≡ p b) where
  pub position_folded : (bytes : List ℕ) → position_or_len p (map upper bytes) ≡ position_or_len p bytes
  position_folded [] = refl
  position_folded (b ∷ bytes) = ap₂ (λ t n. cond (not t) (1 + n) 0) (stays b) (position_folded bytes)

  drop_folded : (n : ℕ) (bytes : List ℕ) → drop n (map upper bytes) ≡ map upper (drop n bytes)
  drop_folded zero bytes = refl
  drop_folded (suc n) [] = refl
  drop_folded (suc n) (b ∷ bytes) = drop_folded n bytes

  length_folded : (bytes : List ℕ) → length (map upper bytes) ≡ length bytes
  length_folded [] = refl
  length_folded (b ∷ bytes) = ap suc (length_folded bytes)

  last_part : (bytes : List ℕ) → position_or_len p bytes ≡ length bytes → slice_split p bytes ≡ bytes ∷ []
  last_part [] e = refl
  last_part (b ∷ bytes) e = by_test (p b) refl (last_part bytes)
    where
      by_test :
          (t : Bool) → p b ≡ t → (position_or_len p bytes ≡ length bytes → slice_split p bytes ≡ bytes ∷ [])
          → cond t ([] ∷ slice_split p bytes) (onto_first b (slice_split p bytes)) ≡ (b ∷ bytes) ∷ []
      by_test true f more =
          let no : 0 ≡ suc (length bytes) = sym (ap (λ t. cond (not t) (1 + position_or_len p bytes) 0) f)
          ∙ e in absurd (omega (arith, no))
      by_test false f more =
          let one : 1 + position_or_len p bytes ≡ suc (length bytes) =
          sym (ap (λ t. cond (not t) (1 + position_or_len p bytes) 0) f) ∙ e in
          ap (onto_first b) (more (omega (arith, one)))

  pub whole_folded : (bytes : List ℕ) → position_or_len p bytes ≡ length bytes
      → slice_split p (map upper bytes) ≡ map upper bytes ∷ []
  whole_folded bytes e = last_part (map upper bytes) (position_folded bytes ∙ e ∙ sym (length_folded bytes))

  pub first_folded :
      (bytes : List ℕ) → position_or_len p bytes < length bytes
      → slice_split p (map upper bytes)
      ≡ map upper (take (position_or_len p bytes) bytes) ∷ slice_split p
      (map upper (drop (position_or_len p bytes + 1) bytes))
  first_folded bytes h =
      slice_split_first p (map upper bytes) 0 (rw (position_folded bytes, length_folded bytes) h)
      ∙ ap₂ (λ first rest. first ∷ slice_split p rest)
      (ap (λ n. take n (map upper bytes)) (position_folded bytes) ∙ take-map upper (position_or_len p bytes) bytes)
      (ap (λ n. drop (n + 1) (map upper bytes)) (position_folded bytes)
      ∙ drop_folded (position_or_len p bytes + 1) bytes)

-- ---- where a byte stands first

module _ {X : Type 0} (p : X → Bool) where
  pub position_within : (xs : List X) → position_or_len p xs ≤ length xs
  position_within [] = omega arith
  position_within (x ∷ xs) = by_test (p x) (position_within xs)
    where
      by_test : (t : Bool) → position_or_len p xs ≤ length xs
          → cond (not t) (1 + position_or_len p xs) 0 ≤ suc (length xs)
      by_test true more = omega arith
      by_test false more = omega (arith, more)

  pub found : (xs : List X) (n : ℕ) → position p xs ≡ Some n → position_or_len p xs ≡ n
  found xs n e = by_test (ltb (position_or_len p xs) (length xs)) e
    where
      by_test : (t : Bool) → cond t (Some (position_or_len p xs)) None ≡ Some n → position_or_len p xs ≡ n
      by_test true same = cc
      by_test false same = absurd (cc same)

  pub missing : (xs : List X) → position p xs ≡ None → position_or_len p xs ≡ length xs
  missing xs e =
      elim (cases_lt (position_or_len p xs) (length xs)) [
        | inl inside ↦ absurd (by_test (ltb (position_or_len p xs) (length xs))
            (lt-ltb (position_or_len p xs) (length xs) inside) e)
        | inr past ↦ omega (arith, past, position_within xs)
      ]
    where
      by_test : (t : Bool) → t ≡ true → cond t (Some (position_or_len p xs)) None ≡ None → ⊥
      by_test true is same = cc same
      by_test false is same = cc is

-- ---- the first word

-- the parts of what is folded: the first, and those behind it
parts_of : (bytes : List ℕ)
    → (others : List (List ℕ))
    × (slice_split is_blank (map upper bytes) ≡ map upper (take (position_or_len is_blank bytes) bytes) ∷ others)
    × (filter is_word others ≡ words (drop (position_or_len is_blank bytes) bytes))
parts_of [] = ([], refl, refl)
parts_of (b ∷ bytes) =
    let one_more : suc (position_or_len is_blank bytes) ≡ 1 + position_or_len is_blank bytes = omega arith in
    subst (Parts (is_blank b)) one_more (by_test (is_blank b) (blanks_stay b) (parts_of bytes))
  where
    n : ℕ
    n = position_or_len is_blank bytes

    split : Bool → List (List ℕ)
    split u = cond u ([] ∷ slice_split is_blank (map upper bytes))
        (onto_first (upper b) (slice_split is_blank (map upper bytes)))

    Parts : Bool → ℕ → Type 0
    Parts t m =
        (others : List (List ℕ))
        × (split (is_blank (upper b)) ≡ map upper (take (cond (not t) m 0) (b ∷ bytes)) ∷ others)
        × (filter is_word others ≡ words (drop (cond (not t) m 0) (b ∷ bytes)))

    by_test :
        (t : Bool) → is_blank (upper b) ≡ t
        → (others : List (List ℕ)) × (slice_split is_blank (map upper bytes) ≡ map upper (take n bytes) ∷ others)
        × (filter is_word others ≡ words (drop n bytes))
        → Parts t (suc n)
    by_test true folded more = (
      slice_split is_blank (map upper bytes),
      ap split folded,
      sym
          (ap (λ u. filter is_word (split u)) folded),
    )
    by_test false folded more = (more.0, ap split folded ∙ ap (onto_first (upper b)) more.1, more.2)

pub word_in_front : (bytes : List ℕ) → (position_or_len is_blank bytes ≡ 0 → ⊥)
    → words bytes ≡ map upper (take (position_or_len is_blank bytes) bytes) ∷ words
    (drop (position_or_len is_blank bytes) bytes)
word_in_front [] some = absurd (some refl)
word_in_front (b ∷ bytes) some =
    ap (filter is_word) (parts_of (b ∷ bytes)).1
    ∙ by_place (position_or_len is_blank (b ∷ bytes)) some
    ∙ ap (λ rest. map upper (take (position_or_len is_blank (b ∷ bytes)) (b ∷ bytes)) ∷ rest) (parts_of (b ∷ bytes)).2
  where
    others : List (List ℕ)
    others = (parts_of (b ∷ bytes)).0

    by_place : (n : ℕ) → (n ≡ 0 → ⊥) → filter is_word (map upper (take n (b ∷ bytes)) ∷ others)
        ≡ map upper (take n (b ∷ bytes)) ∷
        filter is_word others
    by_place zero differs = absurd (differs refl)
    by_place (suc n) differs = refl

-- ---- names

-- a part more than two
too_many : (node number bytes : List ℕ) → name_of_parts (node ∷ number ∷ slice_split is_full_stop bytes) ≡ None
too_many node number [] = refl
too_many node number (b ∷ bytes) = by_test (is_full_stop b) (slice_split is_full_stop bytes)
  where
    by_test : (t : Bool) (rest : List (List ℕ)) → name_of_parts (node ∷ number ∷ cond t ([] ∷ rest) (onto_first b rest))
        ≡ None
    by_test true rest = refl
    by_test false [] = refl
    by_test false (part ∷ parts) = refl

abbrev pub stop : List ℕ → ℕ
stop word = position_or_len is_full_stop word

pub without_stop : (word : List ℕ) → stop word ≡ length word → name_in (map upper word) ≡ None
without_stop word e = ap name_of_parts (whole_folded is_full_stop full_stops_stay word e)

pub with_stops : (word : List ℕ) → stop word < length word
    → stop (drop (stop word + 1) word) < length (drop (stop word + 1) word)
    → name_in (map upper word) ≡ None
with_stops word h more =
    ap name_of_parts (first_folded is_full_stop full_stops_stay word h)
    ∙ ap (λ parts. name_of_parts (map upper (take (stop word) word) ∷ parts))
    (first_folded is_full_stop full_stops_stay (drop (stop
    word + 1) word) more)
    ∙ too_many (map upper (take (stop word) word))
    (map upper (take (stop (drop (stop word + 1) word)) (drop (stop word + 1) word)))
    (map upper (drop (stop (drop (stop word + 1) word) + 1) (drop (stop word + 1) word)))

pub with_stop : (word : List ℕ) → stop word < length word
    → stop (drop (stop word + 1) word) ≡ length (drop (stop word + 1) word)
    → name_in (map upper word) ≡ name_of_parts
    (map upper (take (stop word) word) ∷ map upper (drop (stop word + 1) word) ∷ [])
with_stop word h last =
    ap name_of_parts (first_folded is_full_stop full_stops_stay word h)
    ∙ ap (λ parts. name_of_parts (map upper (take (stop word) word) ∷ parts))
    (whole_folded is_full_stop full_stops_stay (drop (stop
    word + 1) word) last)
