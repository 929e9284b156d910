use Rattle.njh_sched.proofs.CarryingLaws.{filled_carries, filled_quiet}
use Rattle.njh_sched.proofs.laws.blocks_carry_files_in_order.Goals as goal

pub returns-clause-carried : goal.returns-clause-carried
returns-clause-carried c goes k n p x few inside sender = filled_carries goes k x few inside n p sender

pub returns-clause-quiet : goal.returns-clause-quiet
returns-clause-quiet c goes k x few inside quiet = filled_quiet goes k x few inside quiet
