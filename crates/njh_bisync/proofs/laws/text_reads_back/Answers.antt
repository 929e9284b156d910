use Rattle.njh_bisync.proofs.ReadBack.{text_read_back, text_reads}
use Rattle.njh_bisync.proofs.laws.text_reads_back.Goals as goal

pub returns-clause-fed : goal.returns-clause-fed
returns-clause-fed c = text_read_back

pub returns-clause-reads : goal.returns-clause-reads
returns-clause-reads c = text_reads
