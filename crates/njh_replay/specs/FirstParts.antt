-- What follows the first mark of a text.
use Rattle.std.specs.Prelude.{ℕ, ◌+◌, ◌==◌, List, [], length, Option, Some, None}
use Rattle.std.specs.List.{slice_split}
use Rattle.std.specs.Borrow.{Bor}

-- the parts of what follows a mark, or none if there was no mark
abbrev pub parts_behind : ℕ → Option (Bor (List ℕ)) → List (List ℕ)
parts_behind mark (Some behind) = slice_split (λ b. b == mark) behind.now
parts_behind mark None = []

-- one more than the length of what follows a mark, or 0
abbrev pub length_behind : Option (Bor (List ℕ)) → ℕ
length_behind (Some behind) = length behind.now + 1
length_behind None = 0
