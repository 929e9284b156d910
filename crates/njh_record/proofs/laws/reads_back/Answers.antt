use Rattle.njh_record.specs.declared.End.TheVariants.{Record}
use Rattle.njh_record.specs.Writing.{spelling_of}
use Rattle.njh_record.proofs.ReadBack.{unspelled-spelling}
use Rattle.njh_record.proofs.WritingLaws.{Spelling-spelling_of}
use Rattle.njh_record.proofs.laws.reads_back.Goals as goal

pub returns : goal.returns
returns c contents rest = unspelled-spelling (spelling_of contents) contents Record rest (Spelling-spelling_of contents)
