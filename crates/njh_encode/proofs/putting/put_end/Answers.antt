use Rattle.njh_encode.proofs.FrameLaws.{eot_reads}
use Rattle.njh_encode.proofs.putting.put_end.Goals as goal

pub returns-clause-reads : goal.returns-clause-reads
returns-clause-reads c = eot_reads
