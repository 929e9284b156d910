-- What lines of words are made of, in UTF-8.
use Rattle.std.specs.Prelude.{ℕ, ◌+◌, ◌/◌, ◌%◌, ◌==◌, List, [], ◌∷◌, ◌++◌, codes, nat_lt, cond}
use Rattle.std.specs.Prelude.{None, Some}
use Rattle.hex.specs.Hex.{encode_lower}
use Rattle.njh_ebcdic.specs.CodePage.{text_words}
use Rattle.njh_ebcdic.specs.Names.{without_end_blanks}
use Rattle.njh_block.specs.Blocks.{stream_number}

-- words as they are, kept whole
unfoldable pub label : List ℕ → List ℕ
label words = words

-- a field without the blanks after it
unfoldable pub field_words : List ℕ → List ℕ
field_words field = text_words (without_end_blanks field)

-- a node and a user there, each by its field
unfoldable pub user_words : List ℕ → List ℕ → List ℕ
user_words node user = field_words node ++ label (codes " ") ++ field_words user

abbrev pub digit : ℕ → ℕ
digit n = 48 + n % 10

-- a number below 100,000 in decimal digits, with no leading zeros
unfoldable pub number_words : ℕ → List ℕ
number_words n =
    cond (nat_lt n 10) (digit n ∷ [])
    (cond (nat_lt n 100) (digit (n / 10) ∷ digit n ∷ [])
    (cond (nat_lt n 1000) (digit (n / 100) ∷ digit (n / 10) ∷ digit n ∷ [])
    (cond (nat_lt n 10000) (digit (n / 1000) ∷ digit (n / 100) ∷ digit (n / 10) ∷ digit n ∷ [])
    (digit (n / 10000) ∷ digit (n / 1000) ∷ digit (n / 100) ∷ digit (n / 10) ∷ digit n ∷ []))))

-- a byte in hexadecimal
unfoldable pub byte_words : ℕ → List ℕ
byte_words byte = encode_lower (byte ∷ [])

-- the stream whose RCB a byte is, or the byte
unfoldable pub stream_words : ℕ → List ℕ
stream_words rcb =
    elim (stream_number rcb) [
      | None ↦ label (codes "RCB ") ++ byte_words rcb
      | Some n ↦ label (cond (rcb % 16 == 8) (codes "SYSIN ") (codes "SYSOUT ")) ++ number_words (n + 1)
    ]
