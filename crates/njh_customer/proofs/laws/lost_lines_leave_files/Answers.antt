use Rattle.njh_customer.proofs.LossLaws.{losses_leave}
use Rattle.njh_customer.proofs.laws.lost_lines_leave_files.Goals as goal

pub returns : goal.returns
returns c = losses_leave
