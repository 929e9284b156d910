-- The table read in both directions, and folding by the table.
use Rattle.std.proofs.Common.{◌≡◌, ℕ, ◌-◌, ◌<◌, Bool, true, false, eqb, not, Option, Some, None, List, [], ◌∷◌, ◌||◌}
use Rattle.std.proofs.Common.{refl, sym, ap, ◌∙◌, ⊎_elim, find, arith}
use Rattle.std.specs.List.{list_all}
use Rattle.std.specs.Option.{option_map}
use Rattle.std.proofs.lemmas.Bool.{cases_Bool, eqb-true, and_parts, cond-true, cond-false, agree_below_at, false≢true}
use Rattle.std.proofs.lemmas.Bool.Decides.{nat_tests}
use Rattle.njh_ebcdic.specs.Names.{within, upper, ebcdic_byte, is_name_byte}
use Rattle.njh_ebcdic.specs.Characters.{table, character_of, byte_of_character, byte_or_blank, printed_character}
use Rattle.njh_ebcdic.specs.Characters.{is_plain}

-- whether a value is there and is this one
abbrev is_just : ℕ → Option ℕ → Bool
is_just n None = false
is_just n (Some m) = eqb m n

is_just-true : (n : ℕ) (o : Option ℕ) → is_just n o ≡ true → o ≡ Some n
is_just-true n None is = absurd (false≢true is)
is_just-true n (Some m) is = ap Some (eqb-true m n is)

option_map-some : (f : ℕ × ℕ → ℕ) (o : Option (ℕ × ℕ)) (n : ℕ) → option_map f o ≡ Some n
    → (pair : ℕ × ℕ) × (o ≡ Some pair) × (f pair ≡ n)
option_map-some f None n is = cc
option_map-some f (Some pair) n is = (pair, refl, cc)

-- what holds of each pair holds of one that was found, and it was looked for
pub found-all : (test fact : ℕ × ℕ → Bool) (pairs : List (ℕ × ℕ)) (pair : ℕ × ℕ) → find test pairs ≡ Some pair
    → list_all fact pairs ≡ true → (test pair ≡ true) × (fact pair ≡ true)
found-all test fact [] pair found all = cc
found-all test fact (p ∷ ps) pair found all =
    let parts = and_parts (fact p) (list_all fact ps) all in
    ⊎_elim (λ (yes' : test p ≡ true).
    let same : p ≡ pair = let first : Some p ≡ Some pair =
    sym (cond-true (test p) (Some p) (find test ps) yes') ∙ found in cc in
    (ap test (sym same) ∙ yes', ap fact (sym same) ∙ parts.0))
    (λ (no' : test p ≡ false).
    found-all test fact ps pair (sym (cond-false (test p) (Some p) (find test ps) no') ∙ found) parts.1)
    (cases_Bool (test p))

pub byte_of_character-character : (byte character : ℕ) → character_of byte ≡ Some character
    → byte_of_character character ≡ Some byte
unfolding character_of byte_of_character
byte_of_character-character byte character is =
    let at = option_map-some (λ pair. pair.1) (find (λ (pair : ℕ × ℕ). eqb pair.0 byte) table) character is in
    let known = found-all (λ pair. eqb pair.0 byte)
    (λ pair. is_just pair.0
    (option_map (λ (other : ℕ × ℕ). other.0) (find (λ other. eqb other.1 pair.1) table))) table at.0 at.1 refl in
    ap byte_of_character (sym at.2) ∙ (is_just-true _ _ known.1 ∙ ap Some (eqb-true _ byte known.0))

pub character_of-byte : (byte character : ℕ) → byte_of_character character ≡ Some byte
    → character_of byte ≡ Some character
unfolding character_of byte_of_character
character_of-byte byte character is =
    let at = option_map-some (λ pair. pair.0) (find (λ (pair : ℕ × ℕ). eqb pair.1 character) table) byte is in
    let known = found-all (λ pair. eqb pair.1 character)
    (λ pair. is_just pair.1
    (option_map (λ (other : ℕ × ℕ). other.1) (find (λ other. eqb other.0 pair.0) table))) table at.0 at.1 refl in
    ap character_of (sym at.2) ∙ (is_just-true _ _ known.1 ∙ ap Some (eqb-true _ character known.0))

-- a test that a condition brings about, if both are computed
pub brings : (p q : Bool) → (not p || q) ≡ true → p ≡ true → q ≡ true
brings true q holds is = holds
brings false q holds is = absurd (false≢true is)

plain_below : (c : ℕ) → is_plain c ≡ true → c < 91
plain_below c plain = grind (arith, nat_tests)

pub byte_of_character-plain : (c : ℕ) → is_plain c ≡ true → byte_of_character c ≡ Some (ebcdic_byte c)
unfolding byte_of_character
byte_of_character-plain c plain =
    let all = agree_below_at (λ k. not (is_plain k) || is_just (ebcdic_byte k) (byte_of_character k)) (λ _. true) 91 c
    refl
    (plain_below c plain) in
    is_just-true _ _ (brings _ _ all plain)

pub shown-upper : (byte : ℕ) → byte < 256 → within 97 122 (printed_character byte) ≡ true
    → printed_character (upper byte) ≡ printed_character byte - 32
unfolding character_of
shown-upper byte small letter =
    let all = agree_below_at (λ k. not (within 97 122 (printed_character k)) || eqb (printed_character (upper k))
    (printed_character k - 32)) (λ _. true) 256 byte refl small in
    eqb-true _ _ (brings _ _ all letter)

pub upper-other : (byte : ℕ) → byte < 256 → within 97 122 (printed_character byte) ≡ false → upper byte ≡ byte
unfolding character_of
upper-other byte small other =
    let all = agree_below_at (λ k. not (not (within 97 122 (printed_character k))) || eqb (upper k) k) (λ _. true) 256
    byte refl small in
    eqb-true _ _ (brings _ _ all (ap not other))

name_byte_below : (b : ℕ) → is_name_byte b ≡ true → b < 256
name_byte_below b name = grind (arith, nat_tests)

pub byte_or_blank-shown : (b : ℕ) → is_name_byte b ≡ true → byte_or_blank (printed_character b) ≡ b
unfolding character_of byte_of_character
byte_or_blank-shown b name =
    let all = agree_below_at (λ k. not (is_name_byte k) || eqb (byte_or_blank (printed_character k)) k) (λ _. true) 256
    b refl
    (name_byte_below b name) in
    eqb-true _ _ (brings _ _ all name)
