use Rattle.njh_keeper.proofs.TriedAlone.{all_put_back, own_tried}
use Rattle.njh_keeper.proofs.laws.each_has_what_can_be_put_back.Goals as goal

pub returns-clause-own : goal.returns-clause-own
returns-clause-own c = own_tried

pub returns-clause-all : goal.returns-clause-all
returns-clause-all c = all_put_back
