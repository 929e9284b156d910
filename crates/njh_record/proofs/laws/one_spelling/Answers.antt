use Rattle.njh_record.proofs.WritingLaws.{Spelling-spelling_of}
use Rattle.njh_record.proofs.laws.one_spelling.Goals as goal

pub returns : goal.returns
returns c = Spelling-spelling_of
