use Rattle.njh_bisync.proofs.ReadBack.{control_read_back, control_reads}
use Rattle.njh_bisync.proofs.laws.control_reads_back.Goals as goal

pub returns-clause-fed : goal.returns-clause-fed
returns-clause-fed c = control_read_back

pub returns-clause-reads : goal.returns-clause-reads
returns-clause-reads c = control_reads
