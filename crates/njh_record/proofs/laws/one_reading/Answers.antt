use Rattle.njh_record.proofs.ReadingLaws.{found}
use Rattle.njh_record.proofs.ReadBack.{only}
use Rattle.njh_record.proofs.laws.one_reading.Goals as goal

pub returns-clause-found : goal.returns-clause-found
returns-clause-found c = found

pub returns-clause-only : goal.returns-clause-only
returns-clause-only c = only
