use Rattle.njh_table.proofs.BaseValue.{base_read, read_gives, read_refuses}
use Rattle.njh_table.proofs.tables.Tables.base.Goals as goal

pub returns-clause-base : goal.returns-clause-base
returns-clause-base c = read_gives _ _ c.read.result base_read c.read.ensures.read

pub returns-clause-memory : goal.returns-clause-memory
returns-clause-memory c = read_refuses _ _ c.read.result base_read c.read.ensures.fault
