use Rattle.std.proofs.Common.{arith}
use Rattle.std.proofs.lemmas.List.{take-replicate}
use Rattle.njh_record.proofs.Steps.{Takes-same}
use Rattle.njh_record.proofs.item.add_copies.Goals as goal

pub returns : goal.returns
returns c = Takes-same _ _ _ _ _ (take-replicate c.args.count 31 c.args.byte (omega arith)) c.add_bytes.ensures
