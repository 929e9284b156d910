use Rattle.njh_hub.proofs.OrderLaws as laws
use Rattle.njh_hub.proofs.laws.sent_in_order.Goals as goal

pub returns : goal.returns
returns c = laws.sent_in_order
