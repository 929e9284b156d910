use Rattle.std.proofs.Common.{arith}
use Rattle.njh_block.proofs.BlockLaws.{block_law, fault_law}
use Rattle.njh_block.proofs.block.Block.read.Goals as goal

pub returns-clause-block : goal.returns-clause-block
returns-clause-block c =
    rw c.of_text.ensures (λ block. block_law c.args.text.now block (λ place. omega (arith, c.type_inv.text place)))

pub returns-clause-fault : goal.returns-clause-fault
returns-clause-fault c =
    rw c.of_text.ensures (λ fault. fault_law c.args.text.now fault (λ place. omega (arith, c.type_inv.text place)))
