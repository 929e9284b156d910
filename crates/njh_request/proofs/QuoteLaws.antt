-- What is shown of a request's text.
use Rattle.std.proofs.Common.{◌≡◌, ℕ, ◌+◌, ◌-◌, ◌<◌, ◌≤◌, Bool, true, false, cond, List, [], ◌∷◌, ◌++◌, length, take}
use Rattle.std.proofs.Common.{Option, Some, None, drop, get_or, min, replicate, refl, sym, ap, ◌∙◌, arith, leb}
use Rattle.std.proofs.Common.{unwrap_or}
use Rattle.std.specs.Prelude.{encode_utf8, nat_lt, not, position}
use Rattle.std.specs.List.{position_or_len}
use Rattle.std.proofs.lemmas.Bool.{and_parts, leb-true, ltb-false}
use Rattle.std.proofs.lemmas.List.{drop-replicate, length-take, map-append, take_min, take_more}
use Rattle.std.proofs.lemmas.List.Sums.{prefix_len-le-length}
use Rattle.std.proofs.lemmas.Str.{encode_ascii}
use Rattle.njh_ebcdic.specs.Names.{within}
use Rattle.njh_request.specs.Quotes.{quote_field, shown_byte, shown_bytes}

-- zeros after the first bytes of a text
pub quote-overlay : (text written : List ℕ) (count : ℕ) → count ≡ min (length text) 48 → written ≡ take count text
    → written ++ drop count (replicate 48 0) ≡ quote_field (take 48 text)
quote-overlay text written count is copied =
    let front : take count text ≡ take 48 text = ap (λ n. take n text) is ∙ take-min text in
    let long : length (take 48 text) ≡ count = length-take 48 text ∙ omega (arith, is) in
    ap (λ (s : List ℕ). s ++ drop count (replicate 48 0)) (copied ∙ front)
    ∙ (ap (λ (s : List ℕ). take 48 text ++ s) (drop-replicate count 48 0)
    ∙ ap (λ n. take 48 text ++ replicate (48 - n) 0) (sym long))
  where
    take-min : (xs : List ℕ) → take (min (length xs) 48) xs ≡ take 48 xs
    take-min xs = ap (λ n. take n xs) (omega arith) ∙ take_min 48 xs

end-some-case : (b : Bool) (n place : ℕ) → cond b (Some n) None ≡ Some place → place ≡ n
end-some-case true n place is = sym (ap (λ o. unwrap_or o 0) is)
end-some-case false n place is = cc

-- a place that was found is the first
pub end-some : (p : ℕ → Bool) (xs : List ℕ) (r : Option ℕ) (place : ℕ) → r ≡ position p xs → r ≡ Some place
    → place ≡ position_or_len p xs
end-some p xs r place found some =
    end-some-case (nat_lt (position_or_len p xs) (length xs)) (position_or_len p xs) place (sym found ∙ some)

end-none-case : (b : Bool) (n len : ℕ) → nat_lt n len ≡ b → n ≤ len → cond b (Some n) None ≡ None → len ≡ n
end-none-case true n len below within is = cc
end-none-case false n len below within is = omega (arith, ltb-false n len below, within)

-- if none was it is the end
pub end-none : (p : ℕ → Bool) (xs : List ℕ) (r : Option ℕ) → r ≡ position p xs → r ≡ None
    → length xs ≡ position_or_len p xs
end-none p xs r found none =
    end-none-case (nat_lt (position_or_len p xs) (length xs)) (position_or_len p xs) (length xs) refl
    (prefix_len-le-length (λ x. not (p x)) xs) (sym found ∙ none)

shown-case : (seen : Bool) (b : ℕ) → within 33 126 b ≡ seen → cond seen b 63 < 128
shown-case true b seen =
    let k = and_parts (leb 33 b) (leb b 126) seen in omega (arith, leb-true b 126 k.1)
shown-case false b seen = omega arith

shown-ascii : (b : ℕ) → shown_byte b < 128
shown-ascii b = shown-case (within 33 126 b) b refl

-- one more is shown
pub shown-more : (bytes : List ℕ) (i d c : ℕ) → i < length bytes → c ≡ shown_byte (get_or bytes i d)
    → shown_bytes (take i bytes) ++ encode_utf8 c ≡ shown_bytes (take (i + 1) bytes)
shown-more bytes i d c there is =
    let ascii : c < 128 = rw is (shown-ascii (get_or bytes i d)) in
    ap (λ text. shown_bytes (take i bytes) ++ text) (encode_ascii c ascii ∙ ap (λ e. e ∷ []) is)
    ∙ sym (ap shown_bytes (take_more bytes i d there)
    ∙ map-append shown_byte (take i bytes) (get_or bytes i d ∷ []))
