use Rattle.njh_link.proofs.GivenLaws.{gives_from}
use Rattle.njh_link.proofs.laws.texts_come_in_order.Goals as goal

pub returns : goal.returns
returns c = gives_from
