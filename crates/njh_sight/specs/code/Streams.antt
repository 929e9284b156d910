-- Which files a line's streams are about no more, and which customers are near their quotas.
use Rattle.std.specs.Prelude.{ℕ, ◌*◌, Bool, true, false, not, ◌==◌, cond, nat_le, List, Option, Some, None}
use Rattle.std.specs.List.{position, zip}

-- a stream was about a file, and isn't about it any more
abbrev pub is_gone : Option ℕ × Option ℕ → Bool
is_gone (Some file, Some other) = not (file == other)
is_gone (Some file, None) = true
is_gone (None, now) = false

-- the place of the first such stream
abbrev pub first_gone : List (Option ℕ) → List (Option ℕ) → Option ℕ
first_gone was now = position is_gone (zip was now)

-- from nine tenths of the quota on, and then down to eight
abbrev pub near_after : Bool → ℕ → ℕ → Bool
near_after was used quota = nat_le (cond was 8 9 * quota) (10 * used)
