use Rattle.njh_bisync.proofs.FedLaws.{reads_more, frames_after-append, rest_after-append}
use Rattle.njh_bisync.proofs.laws.frames_of_both.Goals as goal

pub returns-clause-reads : goal.returns-clause-reads
returns-clause-reads c = λ front back frames rest reads. reads_more front frames rest back reads

pub returns-clause-frames : goal.returns-clause-frames
returns-clause-frames c = frames_after-append

pub returns-clause-left : goal.returns-clause-left
returns-clause-left c = rest_after-append
