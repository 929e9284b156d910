use Rattle.njh_link.proofs.OwedLaws.{one_at_most}
use Rattle.njh_link.proofs.laws.ack0_is_owed.Goals as goal

pub returns : goal.returns
returns c = one_at_most
