use Rattle.njh_spool.proofs.BlocksOfFiles.{lies_in_one_file}
use Rattle.njh_spool.proofs.ChainLaws.{lies_in_one, sized_chains}
use Rattle.njh_spool.proofs.store.laws.each_block_lies_once.Goals as goal

pub returns-clause-one : goal.returns-clause-one
returns-clause-one c = lies_in_one

pub returns-clause-file : goal.returns-clause-file
returns-clause-file c = lies_in_one_file

pub returns-clause-sized : goal.returns-clause-sized
returns-clause-sized c = sized_chains
