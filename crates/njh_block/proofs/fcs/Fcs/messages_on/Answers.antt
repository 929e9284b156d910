use Rattle.std.proofs.Common.{arith}
use Rattle.njh_block.proofs.Bits.{mask_test}
use Rattle.njh_block.proofs.fcs.Fcs.messages_on.Goals as goal

pub returns : goal.returns
returns c = rw (← c.self.view_is) (mask_test c.self.inside.second (omega arith))
