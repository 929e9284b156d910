use Rattle.njh_spool.proofs.NumberLaws.{next_number-fresh}
use Rattle.njh_stream.proofs.TiedLaws.{at_rest, arrival_tied, session_ended, untouched}
use Rattle.njh_stream.proofs.laws.streams_stay_tied.Goals as goal

pub returns-clause-at_rest : goal.returns-clause-at_rest
returns-clause-at_rest c = at_rest

pub returns-clause-arrival : goal.returns-clause-arrival
returns-clause-arrival c entry l k a lines s = arrival_tied entry l k a lines s next_number-fresh

pub returns-clause-ended : goal.returns-clause-ended
returns-clause-ended c = session_ended

pub returns-clause-untouched : goal.returns-clause-untouched
returns-clause-untouched c = untouched
