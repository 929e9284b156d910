use Rattle.njh_turns.proofs.KeepingLaws as laws
use Rattle.njh_turns.proofs.keeper.kept_is_own.Goals as goal

pub returns : goal.returns
returns c = laws.kept_is_own
