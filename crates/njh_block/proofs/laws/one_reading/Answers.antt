use Rattle.njh_block.proofs.BlockLaws.{block_law, fault_law, one_block}
use Rattle.njh_block.proofs.laws.one_reading.Goals as goal

pub returns-clause-block : goal.returns-clause-block
returns-clause-block c = block_law

pub returns-clause-fault : goal.returns-clause-fault
returns-clause-fault c = fault_law

pub returns-clause-one : goal.returns-clause-one
returns-clause-one c = one_block
