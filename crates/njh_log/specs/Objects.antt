-- A string of an object of the log (RFC 8259, "Strings").
use Rattle.std.specs.Prelude.{ℕ, ◌==◌, ◌||◌, if◌then◌else◌, List, ◌∷◌, encode_utf8}

-- a character of it: a quotation mark and a backslash stand behind a backslash
abbrev pub in_string : ℕ → List ℕ
in_string c = if (c == 34) || (c == 92) then 92 ∷ encode_utf8 c else encode_utf8 c
