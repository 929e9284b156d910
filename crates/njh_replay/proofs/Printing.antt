-- Bytes and hex in pieces.
use Rattle.std.proofs.Common.{◌≡◌, ℕ, ◌/◌, ◌%◌, List, [], ◌∷◌, ◌++◌, slice_index, Option, refl, sym, ap, ◌∙◌}
use Rattle.std.proofs.Common.{append_assoc, append-nil}
use Rattle.std.specs.Io.KnownBytes.{Appends}
use Rattle.std.proofs.KnownBytes.{Appends-trans}
use Rattle.njh_io.specs.Written.{AppendsBeginning}
use Rattle.njh_replay.proofs.PrintedParts.{beginning-after}
use Rattle.hex.specs.Hex.{encode_with, encode_lower, lower_digits}

-- hex goes byte by byte
encode_with-append : (digits xs ys : List ℕ)
    → encode_with digits (xs ++ ys) ≡ encode_with digits xs ++ encode_with digits ys
unfolding encode_with
encode_with-append digits [] ys = refl
encode_with-append digits (b ∷ xs) ys = ap (λ (text : List ℕ). slice_index digits (b / 16) ∷ slice_index digits
    (b % 16) ∷ text) (encode_with-append digits xs ys)

encode_lower-append : (xs ys : List ℕ) → encode_lower (xs ++ ys) ≡ encode_lower xs ++ encode_lower ys
encode_lower-append xs ys = encode_with-append lower_digits xs ys

encode_lower-nil : encode_lower [] ≡ []
unfolding encode_with
encode_lower-nil = refl

-- the hex of these bytes was written but for that of the rest
abbrev pub IsWrittenBut : (rest bytes : List ℕ) (first last : Option (List ℕ)) → Type 0
IsWrittenBut rest bytes first last = (text : List ℕ) × Appends first last text
    × (text ++ encode_lower rest ≡ encode_lower bytes)

pub IsWrittenBut-more : (bytes rest piece after digits : List ℕ) (first then last : Option (List ℕ))
    → IsWrittenBut rest bytes first then → rest ≡ piece ++ after → digits ≡ encode_lower piece
    → Appends then last digits
    → IsWrittenBut after bytes first last
IsWrittenBut-more bytes rest piece after digits first then last so_far cut spelled written =
    let front = append_assoc so_far.0 (encode_lower piece) (encode_lower after)
    ∙ ap (λ (text : List ℕ). so_far.0 ++ text) (sym (encode_lower-append piece after)) in (
      so_far.0 ++ digits,
      Appends-trans first then last so_far.0 digits so_far.1 written,
      rw spelled
          (front ∙ ap (λ (xs : List ℕ). so_far.0 ++ encode_lower xs) (sym cut) ∙ so_far.2),
    )

-- a piece was written in part
pub IsWrittenBut-part : (bytes rest piece after digits : List ℕ) (first then last : Option (List ℕ))
    → IsWrittenBut rest bytes first then → rest ≡ piece ++ after → digits ≡ encode_lower piece
    → AppendsBeginning then last digits
    → AppendsBeginning first last (encode_lower bytes)
IsWrittenBut-part bytes rest piece after digits first then last so_far cut spelled begun =
    beginning-after first then last so_far.0 digits (encode_lower after) (encode_lower bytes) so_far.1 begun
    (ap (λ (text : List ℕ). so_far.0 ++ (text ++ encode_lower after)) spelled
    ∙ ap (λ (text : List ℕ). so_far.0 ++ text) (sym (encode_lower-append piece after) ∙ ap encode_lower (sym cut))
    ∙ so_far.2)

pub IsWrittenBut-none : (bytes rest : List ℕ) (first last : Option (List ℕ)) → IsWrittenBut rest bytes first last
    → rest ≡ [] → Appends first last (encode_lower bytes)
IsWrittenBut-none bytes rest first last so_far none =
    let all : so_far.0 ≡ encode_lower bytes = sym (append-nil so_far.0)
    ∙ ap (λ (text : List ℕ). so_far.0 ++ text) (sym encode_lower-nil)
    ∙ ap (λ (xs : List ℕ). so_far.0 ++ encode_lower xs) (sym none) ∙ so_far.2 in
    rw (← all) so_far.1
