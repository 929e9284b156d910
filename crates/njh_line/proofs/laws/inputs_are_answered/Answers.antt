use Rattle.njh_line.proofs.AnsweringLaws.{acting_is_answered, down_stays_down}
use Rattle.njh_line.proofs.laws.inputs_are_answered.Goals as goal

pub returns-clause-acting : goal.returns-clause-acting
returns-clause-acting c = acting_is_answered

pub returns-clause-down : goal.returns-clause-down
returns-clause-down c = down_stays_down
