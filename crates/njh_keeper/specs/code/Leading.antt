-- What the calls of the keeper do to the connection of a spool file.
use Rattle.sqlite.specs.State.{State}
use Rattle.njh_spoolfile.specs.Kept.{SpoolContents}
use Rattle.njh_spoolfile.specs.CommitState.{CommitState, Stands}

-- Another spool stands there, and P holds of both; what was committed stays.
pub record Leads (P : SpoolContents → SpoolContents → Type 0) (old new : State) : Type 0 where
  pub leads : (s : CommitState) → Stands s old → (t : SpoolContents) × Stands (record s { now = t }) new × P s.now t
