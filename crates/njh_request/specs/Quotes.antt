-- What a refusal says of a request's own text, which may be any.
use Rattle.std.specs.Prelude.{ℕ, ◌-◌, ◌==◌, List, ◌++◌, length, map, take, replicate, cond}
use Rattle.std.specs.List.{before_first}
use Rattle.njh_ebcdic.specs.Names.{within}

-- with zeros behind it, 48 bytes in all
abbrev pub quote_field : List ℕ → List ℕ
quote_field bytes = bytes ++ replicate (48 - length bytes) 0

-- the first 48 bytes of a text
abbrev pub quote_of : List ℕ → List ℕ
quote_of text = quote_field (take 48 text)

-- a character of ASCII that is seen, and ? for any other byte
abbrev pub shown_byte : ℕ → ℕ
shown_byte b = cond (within 33 126 b) b 63

abbrev pub shown_bytes : List ℕ → List ℕ
shown_bytes bytes = map shown_byte bytes

-- as a refusal says it
unfoldable pub shown_quote : List ℕ → List ℕ
shown_quote quote = shown_bytes (before_first (λ b. b == 0) quote)
