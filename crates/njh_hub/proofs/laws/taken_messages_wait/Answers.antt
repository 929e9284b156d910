use Rattle.njh_hub.proofs.GivenOrderLaws as laws
use Rattle.njh_hub.proofs.laws.taken_messages_wait.Goals as goal

pub returns : goal.returns
returns c = laws.taken_messages_wait
