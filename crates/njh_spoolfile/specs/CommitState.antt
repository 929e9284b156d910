-- A spool as it stands, and as it was committed last.
use Rattle.std.specs.Prelude.{IsTrue}
use Rattle.sqlite.specs.State.{State}
use Rattle.njh_spoolfile.specs.Kept.{SpoolContents, Holds}

pub record CommitState : Type 0 where
  pub now : SpoolContents
  pub kept : SpoolContents

-- the connection shows both
pub record Stands (s : CommitState) (at : State) : Type 0 where
  pub is_open : IsTrue at.is_open
  pub now : Holds s.now at.now.trees
  pub kept : Holds s.kept at.committed.trees
