use Rattle.std.proofs.Common.{◌%◌, arith}
use Rattle.njh_block.proofs.Bits.{stream_test}
use Rattle.njh_block.proofs.fcs.Fcs.is_on.Goals as goal

pub returns : goal.returns
returns c = rw (← c.byte_with.ensures, c.bit.ensures) (stream_test (c.args.stream % 4) c.byte_with.result (omega arith))
