use Rattle.njh_record.proofs.ReadBack.{unspelled-spelling}
use Rattle.njh_record.proofs.laws.reads_spellings.Goals as goal

pub returns : goal.returns
returns c spelling contents rest end spells = unspelled-spelling spelling contents end rest spells
