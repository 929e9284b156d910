-- A text parted at a byte.
use Rattle.std.proofs.Common.{◌≡◌, ℕ, ◌+◌, ◌<◌, Bool, true, false, eqb, List, [], ◌∷◌, ◌++◌, length, refl, sym, ap, ◌∙◌}
use Rattle.std.proofs.Common.{arith, cond, eq-eqb, subst}
use Rattle.std.proofs.Common.{None, Some, get_or, take, drop, take-append-drop}
use Rattle.std.specs.List.{All, onto_first, slice_split}
use Rattle.std.proofs.lemmas.Bool.{eqb-true, false_from_ne_true}
use Rattle.std.proofs.lemmas.List.{drop_more, get_or-take, length-take}
use Rattle.std.proofs.lemmas.List.Elements.{All-from_get_or, All-same}
use Rattle.std.proofs.lemmas.List.Splits.{slice_split_at, slice_split_none}
use Rattle.memchr.specs.Find.{IsFirstByte, is_byte}
use Rattle.njh_trace.specs.Pieces.{piece_of_words, signalled_of_words, words_of}

pub parted-none : (byte : ℕ) (text : List ℕ) → IsFirstByte (is_byte byte) text None → All (λ b. eqb b byte ≡ false) text
parted-none byte text nowhere =
    All-from_get_or (λ b. eqb b byte ≡ false) text 0
    (λ k below. false_from_ne_true (eqb (get_or text k 0) byte) (nowhere k (omega arith) below))

pub record IsParted (byte : ℕ) (text front behind : List ℕ) : Type 0 where
  pub whole : text ≡ front ++ byte ∷ behind
  pub none : All (λ b. eqb b byte ≡ false) front

pub parted-some : (byte place : ℕ) (text front end behind : List ℕ) → IsFirstByte (is_byte byte) text (Some place)
    → front ≡ take place text → end ≡ drop place text → behind ≡ drop 1 end → IsParted byte text front behind
parted-some byte place text front end behind first front_is end_is behind_is =
    let before = first.0 in
    let below : place < length text = before.high in
    let head : drop place text ≡ get_or text place 0 ∷ drop (place + 1) text = drop_more text place 0 below in
    let here : get_or text place 0 ≡ byte = eqb-true (get_or text place 0) byte first.1 in
    let tail : behind ≡ drop (place + 1) text = behind_is ∙ ap (drop 1) (end_is ∙ head) in
    record {
      whole =
          sym (take-append-drop place text) ∙ ap (λ (xs : List ℕ). take place text ++ xs) head
          ∙ ap (λ (b : ℕ). take place text ++ b ∷ drop (place + 1) text) here
          ∙ ap (λ (xs : List ℕ). xs ++ byte ∷ drop (place + 1) text) (sym front_is)
          ∙ ap (λ (xs : List ℕ). front ++ byte ∷ xs) (sym tail);
      none =
          All-same (λ b. eqb b byte ≡ false) front (take place text) front_is
          (All-from_get_or (λ b. eqb b byte ≡ false) (take place text) 0
          (λ k less.
          let low : k < place = omega (arith, length-take place text) in
          rw (get_or-take place text k 0 low)
          (false_from_ne_true (eqb (get_or text k 0) byte) (before.before k (omega arith) low))));
    }

-- the parts at the byte
pub split-parted : (byte : ℕ) (text front behind : List ℕ) → IsParted byte text front behind
    → slice_split (λ b. eqb b byte) text ≡ front ∷ slice_split (λ b. eqb b byte) behind
split-parted byte text front behind x =
    ap (slice_split (λ b. eqb b byte)) x.whole ∙ slice_split_at (λ b. eqb b byte) front byte behind x.none
    (eq-eqb byte byte refl)

pub split-whole : (byte : ℕ) (text : List ℕ) → IsFirstByte (is_byte byte) text None
    → slice_split (λ b. eqb b byte) text ≡ text ∷ []
split-whole byte text nowhere = slice_split_none (λ b. eqb b byte) text (parted-none byte text nowhere)

onto_first-some : (x : ℕ) (parts : List (List ℕ)) → (part : List ℕ) × (rest : List (List ℕ))
    × (onto_first x parts ≡ part ∷ rest)
onto_first-some x [] = (x ∷ [], [], refl)
onto_first-some x (part ∷ parts) = (x ∷ part, parts, refl)

split-cond : (test : Bool) (x : ℕ) (parts : List (List ℕ))
    → (part : List ℕ) × (rest : List (List ℕ)) × (cond test ([] ∷ parts) (onto_first x parts) ≡ part ∷ rest)
split-cond true x parts = ([], parts, refl)
split-cond false x parts = onto_first-some x parts

-- a text has one part at least
pub split-some : (test : ℕ → Bool) (text : List ℕ) → (part : List ℕ) × (rest : List (List ℕ))
    × (slice_split test text ≡ part ∷ rest)
split-some test [] = ([], [], refl)
split-some test (x ∷ xs) = split-cond (test x) x (slice_split test xs)

-- a line of three words is no signal, and one of four gives no bytes
pub signalled_of-more : (word name a b : List ℕ) → words_of name ≡ a ∷ words_of b
    → signalled_of_words (word ∷ words_of name) ≡ None
signalled_of-more word name a b parts =
    let more = split-some (λ c. eqb c 32) b in
    let P : List (List ℕ) → Type 0 = λ ws. signalled_of_words (word ∷ ws) ≡ None in
    let Q : List (List ℕ) → Type 0 = λ ws. signalled_of_words (word ∷ a ∷ ws) ≡ None in
    subst P (sym parts) (subst Q (sym more.2) refl)

pub piece_of-more : (word name rest a b : List ℕ) → words_of rest ≡ a ∷ words_of b
    → piece_of_words (word ∷ name ∷ words_of rest) ≡ None
piece_of-more word name rest a b parts =
    let more = split-some (λ c. eqb c 32) b in
    let P : List (List ℕ) → Type 0 = λ ws. piece_of_words (word ∷ name ∷ ws) ≡ None in
    let Q : List (List ℕ) → Type 0 = λ ws. piece_of_words (word ∷ name ∷ a ∷ ws) ≡ None in
    subst P (sym parts) (subst Q (sym more.2) refl)
