use Rattle.njh_record.proofs.ReadBack.{prefix_free}
use Rattle.njh_record.proofs.laws.no_proper_prefix.Goals as goal

pub returns : goal.returns
returns c = prefix_free
