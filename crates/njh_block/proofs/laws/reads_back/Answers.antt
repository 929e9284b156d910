use Rattle.njh_block.proofs.WritingLaws.{text-read}
use Rattle.njh_block.proofs.laws.reads_back.Goals as goal

pub returns : goal.returns
returns c = text-read
