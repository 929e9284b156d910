-- The lines of a text.
use Rattle.std.specs.Prelude.{ℕ, ◌==◌, Bool, false, List, [], ◌∷◌, ◌++◌, length, nat_lt, if◌then◌else◌}

-- what has come of a line when the text ends, if anything
abbrev pub last_line : List ℕ → List (List ℕ)
last_line [] = []
last_line (b ∷ bs) = (b ∷ bs) ∷ []

-- the lines of a text, each ended by the byte 0A, the last by that or by the text's end; `front` is what has come of
-- the first
abbrev pub lines_from : List ℕ → List ℕ → List (List ℕ)
lines_from front [] = last_line front
lines_from front (b ∷ text) = if b == 10 then front ∷ lines_from [] text else lines_from (front ++ b ∷ []) text

abbrev pub lines_of : List ℕ → List (List ℕ)
lines_of text = lines_from [] text

-- how many bytes a line has at most that comes in pieces: as many as a script
abbrev pub max_line_bytes : ℕ
max_line_bytes = 1048576

abbrev pub is_long_line : List ℕ → Bool
is_long_line line = nat_lt max_line_bytes (length line)

-- whether the first of some lines is too long
abbrev pub is_first_long : List (List ℕ) → Bool
is_first_long [] = false
is_first_long (line ∷ lines) = is_long_line line
