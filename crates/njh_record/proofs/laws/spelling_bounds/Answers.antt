use Rattle.njh_record.proofs.WritingLaws.{some-spelling_of, length-spelling_of, length-spelling_of-record}
use Rattle.njh_record.proofs.laws.spelling_bounds.Goals as goal

pub returns : goal.returns
returns c = record { some = some-spelling_of; growth = length-spelling_of; longest = length-spelling_of-record }
