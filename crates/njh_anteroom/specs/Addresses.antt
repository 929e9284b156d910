-- Numbers of addresses: which are of this machine's own, and that each is there once.
use Rattle.std.specs.Prelude.{ℕ, ◌/◌, ◌==◌, ◌||◌, ◌&&◌, Bool, true, not, List, [], ◌∷◌}
use Rattle.std.specs.List.{list_any}

-- the address with this number is ::1, or of 127.0.0.0/8
unfoldable pub is_loopback : ℕ → Bool
is_loopback number = (number == 1) || (number / 0x1000000 == 0xffff7f)

abbrev pub is_among : ℕ → List ℕ → Bool
is_among number numbers = list_any (λ other. other == number) numbers

-- each is there once
abbrev pub are_distinct : List ℕ → Bool
are_distinct [] = true
are_distinct (number ∷ numbers) = not (is_among number numbers) && are_distinct numbers
