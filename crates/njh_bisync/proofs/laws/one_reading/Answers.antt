use Rattle.njh_bisync.proofs.FedLaws.{reads_from, reads_frames, reads_rest}
use Rattle.njh_bisync.proofs.laws.one_reading.Goals as goal

pub returns-clause-some : goal.returns-clause-some
returns-clause-some c = reads_from

pub returns-clause-only : goal.returns-clause-only
returns-clause-only c = λ bytes frames rest reads.
    (reads_frames bytes frames rest reads, reads_rest bytes frames rest reads)
