-- What files are called.
use Rattle.std.specs.Prelude.{ℕ, List}

-- a file's name: its origin node's field of eight bytes, and its original job number
pub record FileName : Type 0 where
  pub node : List ℕ
  pub number : ℕ
