use Rattle.njh_spool.proofs.NumberLaws.{next_number-fresh}
use Rattle.njh_stream.proofs.FollowingLaws.{requested_follows}
use Rattle.njh_stream.proofs.laws.streams_end_so.Goals as goal

pub returns-clause-ends : goal.returns-clause-ends
returns-clause-ends c entry l kind s last ms ending srcb outcome =
    requested_follows entry l kind s last ms ending srcb outcome (next_number-fresh s)
