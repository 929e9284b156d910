use Rattle.njh_keeper.proofs.LinesLostLaws.{left_as_lines_lost, opened_as_lines_lost}
use Rattle.njh_keeper.proofs.laws.opened_again_as_after_the_loss_of_all_lines.Goals as goal

pub returns-clause-had : goal.returns-clause-had
returns-clause-had c = opened_as_lines_lost

pub returns-clause-left : goal.returns-clause-left
returns-clause-left c = left_as_lines_lost
