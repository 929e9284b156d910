-- Numbers in decimal digits of EBCDIC: F0 to F9, the highest first.
use Rattle.std.specs.Prelude.{◌≡◌, ℕ, ◌+◌, ◌-◌, ◌*◌, ◌<◌, ◌≤◌, List, [], ◌∷◌, length, slice_index}
use Rattle.std.specs.List.{AllByRecursion}

abbrev pub IsDigit : ℕ → Type 0
IsDigit byte = (0xf0 ≤ byte) × (byte < 0xfa)

-- the number that digits say, behind others that say a number
abbrev pub value_behind : ℕ → List ℕ → ℕ
value_behind higher [] = higher
value_behind higher (digit ∷ digits) = value_behind (10 * higher + (digit - 0xf0)) digits

abbrev pub decimal_value : List ℕ → ℕ
decimal_value digits = value_behind 0 digits

-- The digits say the number, and don't begin with a zero but where it is the only one.
pub record IsDecimal (digits : List ℕ) (n : ℕ) : Type 0 where
  pub some : 0 < length digits
  pub each : AllByRecursion IsDigit digits
  pub value : decimal_value digits ≡ n
  pub shortest : slice_index digits 0 ≡ 0xf0 → digits ≡ 0xf0 ∷ []
