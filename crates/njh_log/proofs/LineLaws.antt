-- How many bytes a line of the log takes.
use Rattle.std.proofs.Common.{◌≡◌, ℕ, ◌+◌, ◌<◌, ◌≤◌, List, [], ◌∷◌, ◌++◌, length, arith, ◌∙◌, ap, subst, lit<}
use Rattle.std.proofs.Common.{append-nil}
use Rattle.std.specs.Prelude.{Option, Some, None, IsSome, IfSome, ◌↔◌, encode_utf8}
use Rattle.std.proofs.lemmas.Bool.{false≢true}
use Rattle.std.proofs.lemmas.List.{length-append}
use Rattle.std.proofs.lemmas.Str.{length-le-encodes, encode_ascii}

-- the end of a line is one byte
pub one_byte : length (encode_utf8 10) ≡ 1
one_byte = ap length (encode_ascii 10 (lit< tt))

-- a character has a byte
some_byte : (c : ℕ) → 1 ≤ length (encode_utf8 c)
some_byte c = let P : List ℕ → Type 0 = λ bytes. 1 ≤ length bytes in
    subst P (append-nil (encode_utf8 c)) (length-le-encodes (c ∷ []))

-- without its last character a text is shorter
pub is_shorter : (old new : List ℕ) (popped : Option ℕ) → (IsSome popped ↔ (0 < length old))
    → IfSome popped (λ c. old ≡ new ++ encode_utf8 c) → 0 < length old → length new < length old
is_shorter old new None some bytes longer = absurd (false≢true (some.1 longer))
is_shorter old new (Some c) some bytes longer =
    let whole : length old ≡ length new + length (encode_utf8 c) =
    ap length bytes ∙ length-append new (encode_utf8 c) in
    omega (arith, whole, some_byte c)

-- a backslash is one byte
pub backslash : encode_utf8 92 ≡ 92 ∷ []
backslash = encode_ascii 92 (lit< tt)
