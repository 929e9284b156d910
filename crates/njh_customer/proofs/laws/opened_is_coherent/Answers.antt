use Rattle.njh_customer.proofs.CoherenceLaws.{fresh_coherent}
use Rattle.njh_customer.proofs.laws.opened_is_coherent.Goals as goal

pub returns : goal.returns
returns c = fresh_coherent
