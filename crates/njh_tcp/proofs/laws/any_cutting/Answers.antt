use Rattle.njh_tcp.proofs.FedLaws.{outcomes_after-append, rest_after-append, outcomes_pieces, rest_pieces}
use Rattle.njh_tcp.proofs.ReadsLaws.{reads_more}
use Rattle.njh_tcp.proofs.laws.any_cutting.Goals as goal

pub returns-clause-reads : goal.returns-clause-reads
returns-clause-reads c = λ contact front back outcomes rest reads. reads_more contact front outcomes rest back reads

pub returns-clause-outcomes : goal.returns-clause-outcomes
returns-clause-outcomes c = outcomes_after-append

pub returns-clause-left : goal.returns-clause-left
returns-clause-left c = rest_after-append

pub returns-clause-pieces : goal.returns-clause-pieces
returns-clause-pieces c = λ rest pieces. (outcomes_pieces rest pieces, rest_pieces rest pieces)
