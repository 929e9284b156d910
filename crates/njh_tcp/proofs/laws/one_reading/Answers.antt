use Rattle.njh_tcp.proofs.ReadsLaws.{reads_from, reads_outcomes, reads_rest}
use Rattle.njh_tcp.proofs.laws.one_reading.Goals as goal

pub returns-clause-some : goal.returns-clause-some
returns-clause-some c = reads_from

pub returns-clause-only : goal.returns-clause-only
returns-clause-only c = λ contact bytes outcomes rest reads.
    (reads_outcomes contact bytes outcomes rest reads, reads_rest contact bytes outcomes rest reads)
