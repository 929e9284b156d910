-- Users at nodes.
use Rattle.std.specs.Prelude.{ℕ, List}

-- a user at a node, each by its field of eight bytes
pub record User : Type 0 where
  pub node : List ℕ
  pub user : List ℕ
