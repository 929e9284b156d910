use Rattle.njh_bisync.proofs.FedLaws.{goes_on, taken_all, fed-append_none, fed-append_some}
use Rattle.njh_bisync.proofs.laws.fed_in_parts.Goals as goal

pub returns-clause-goes_on : goal.returns-clause-goes_on
returns-clause-goes_on c = goes_on

pub returns-clause-all : goal.returns-clause-all
returns-clause-all c = taken_all

pub returns-clause-on : goal.returns-clause-on
returns-clause-on c = fed-append_none

pub returns-clause-ended : goal.returns-clause-ended
returns-clause-ended c = fed-append_some
