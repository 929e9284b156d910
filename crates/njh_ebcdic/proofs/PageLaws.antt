-- The characters of names, users and replies in the code page: what it says of a byte and of a character.
use Rattle.std.proofs.Common.{◌≡◌, ℕ, zero, suc, ◌+◌, ◌<◌, Bool, true, false, cond, eqb, ltb, not, ◌||◌, Option, Some}
use Rattle.std.proofs.Common.{None}
use Rattle.std.proofs.Common.{List, [], ◌∷◌, ◌++◌, length, take, get_or, refl, sym, ap, ◌∙◌, arith, unwrap_or}
use Rattle.std.proofs.Common.{find, position}
use Rattle.std.specs.Prelude.{encode_utf8}
use Rattle.std.specs.List.{list_all}
use Rattle.std.specs.Option.{option_map}
use Rattle.std.proofs.lemmas.Bool.{agree_below_at, and_parts, cond-false, cond-true, cond_both, eqb-true, false≢true}
use Rattle.std.proofs.lemmas.Bool.{ltb-true}
use Rattle.std.proofs.lemmas.Bool.Decides.{nat_tests}
use Rattle.std.proofs.lemmas.List.{take_more, map-append}
use Rattle.std.proofs.lemmas.List.Quantifiers.{position-Some}
use Rattle.std.proofs.lemmas.Str.{encode_ascii}
use Rattle.njh_ebcdic.specs.Characters.{table, character_of, byte_of_character, printed_character, shown_text}
use Rattle.njh_ebcdic.specs.CodePage.{is_seen, is_written, page_byte, page_character}
use Rattle.njh_ebcdic.specs.declared.code_page.TheConstants.{PAGE}
use Rattle.njh_ebcdic.proofs.TableLaws.{brings, found-all}

shown-page : (byte : ℕ) → byte < 256
    → printed_character byte ≡ cond (is_written (get_or PAGE byte 0)) (get_or PAGE byte 0) 63
unfolding character_of
shown-page byte small =
    let all = agree_below_at
    (λ k. eqb (printed_character k) (cond (is_written (get_or PAGE k 0)) (get_or PAGE k 0) 63)) (λ _. true) 256 byte
    refl small in
    eqb-true _ _ all

pub shown-written : (byte character : ℕ) → byte < 256 → character ≡ get_or PAGE byte 0 → is_written character ≡ true
    → character ≡ printed_character byte
shown-written byte character small is written =
    is ∙ sym (shown-page byte small ∙ cond-true (is_written (get_or PAGE byte 0)) (get_or PAGE byte 0) 63
    (sym (ap is_written is) ∙ written))

pub shown-unwritten : (byte character : ℕ) → byte < 256 → character ≡ get_or PAGE byte 0 → is_written character ≡ false
    → 63 ≡ printed_character byte
shown-unwritten byte character small is none =
    sym (shown-page byte small ∙ cond-false (is_written (get_or PAGE byte 0)) (get_or PAGE byte 0) 63
    (sym (ap is_written is) ∙ none))

-- whether two answers are one
abbrev agree : Option ℕ → Option ℕ → Bool
agree None None = true
agree None (Some m) = false
agree (Some n) None = false
agree (Some n) (Some m) = eqb n m

agree-true : (a b : Option ℕ) → agree a b ≡ true → a ≡ b
agree-true None None is = refl
agree-true None (Some m) is = absurd (false≢true is)
agree-true (Some n) None is = absurd (false≢true is)
agree-true (Some n) (Some m) is = ap Some (eqb-true n m is)

written_below : (c : ℕ) → is_written c ≡ true → c < 128
written_below c written = grind (arith, nat_tests)

pub place-page : (c : ℕ) → is_written c ≡ true → byte_of_character c ≡ position (λ known. eqb known c) PAGE
unfolding byte_of_character
place-page c written =
    let all = agree_below_at
    (λ k. not (is_written k) || agree (byte_of_character k) (position (λ known. eqb known k) PAGE)) (λ _. true) 128 c
    refl
    (written_below c written) in
    agree-true _ _ (brings _ _ all written)

not_found : (c : ℕ) (found : Option (ℕ × ℕ)) → find (λ (pair : ℕ × ℕ). eqb pair.1 c) table ≡ found
    → is_written c ≡ false → option_map (λ (pair : ℕ × ℕ). pair.0) found ≡ None
not_found c None is none = refl
not_found c (Some pair) is none =
    let known = found-all (λ pair. eqb pair.1 c) (λ pair. is_written pair.1) table pair is refl in
    absurd (false≢true (sym none ∙ (sym (ap is_written (eqb-true _ c known.0)) ∙ known.1)))

pub unwritten-none : (c : ℕ) → is_written c ≡ false → byte_of_character c ≡ None
unfolding byte_of_character
unwritten-none c none = not_found c (find (λ (pair : ℕ × ℕ). eqb pair.1 c) table) refl none

pub seen-page : (byte : ℕ) → byte < 256 → is_seen (page_character byte) ≡ true
unfolding page_character
seen-page byte small = agree_below_at (λ k. is_seen (page_character k)) (λ _. true) 256 byte refl small

-- the character at a place of the page
character-at : (character place : ℕ) → get_or PAGE place 0 ≡ character → 0 < character
    → page_character place ≡ character
unfolding page_character
character-at character place is some =
    let here : eqb character 0 ≡ false = grind (arith, nat_tests) in
    cond-false (eqb (get_or PAGE place 0) 0) 46 (get_or PAGE place 0) (ap (λ c. eqb c 0) is ∙ here) ∙ is

nothing-at : (place : ℕ) → position (λ known. eqb known 0) PAGE ≡ Some place → place ≡ 0
nothing-at place is = cc

found-back : (character : ℕ) (found : Option ℕ) → position (λ known. eqb known character) PAGE ≡ found
    → 0 < unwrap_or found 0 → page_character (unwrap_or found 0) ≡ character
found-back character None is some = absurd (omega arith)
found-back zero (Some place) is some = absurd (omega (arith, nothing-at place is))
found-back (suc n) (Some place) is some =
    let at = position-Some (λ known. eqb known (suc n)) PAGE place 0 is in
    character-at (suc n) place (eqb-true _ (suc n) at.1) (omega arith)

pub page-back : (character : ℕ) → 0 < page_byte character → page_character (page_byte character) ≡ character
unfolding page_byte
page-back character some = found-back character (position (λ known. eqb known character) PAGE) refl some

-- a text of ASCII alone
at_byte-ascii : (byte : ℕ) (pairs : List (ℕ × ℕ)) → list_all (λ (pair : ℕ × ℕ). ltb pair.1 128) pairs ≡ true
    → unwrap_or (option_map (λ (pair : ℕ × ℕ). pair.1) (find (λ (pair : ℕ × ℕ). eqb pair.0 byte) pairs)) 63 < 128
at_byte-ascii byte [] ascii = omega arith
at_byte-ascii byte (pair ∷ pairs) ascii =
    let parts = and_parts (ltb pair.1 128) (list_all (λ (pair : ℕ × ℕ). ltb pair.1 128) pairs) ascii in
    cond_both (eqb pair.0 byte) (Some pair) (find (λ (pair : ℕ × ℕ). eqb pair.0 byte) pairs)
    (λ found. unwrap_or (option_map (λ (pair : ℕ × ℕ). pair.1) found) 63 < 128)
    (λ here. ltb-true pair.1 128 parts.0) (λ other. at_byte-ascii byte pairs parts.1)

pub shown-ascii : (byte : ℕ) → printed_character byte < 128
unfolding character_of
shown-ascii byte = at_byte-ascii byte table refl

-- one more byte is shown
pub shown_text-more : (bytes : List ℕ) (i d c : ℕ) → i < length bytes → c ≡ printed_character (get_or bytes i d)
    → shown_text (take i bytes) ++ encode_utf8 c ≡ shown_text (take (i + 1) bytes)
shown_text-more bytes i d c within is =
    let ascii : c < 128 = rw is (shown-ascii (get_or bytes i d)) in
    ap (λ text. shown_text (take i bytes) ++ text) (encode_ascii c ascii ∙ ap (λ e. e ∷ []) is)
    ∙ sym (ap shown_text (take_more bytes i d within)
    ∙ map-append printed_character (take i bytes) (get_or bytes i d ∷ []))
