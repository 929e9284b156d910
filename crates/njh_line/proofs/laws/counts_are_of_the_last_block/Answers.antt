use Rattle.std.proofs.Common.{refl}
use Rattle.njh_line.proofs.CountLaws as counts
use Rattle.njh_line.proofs.TableLaws as laws
use Rattle.njh_line.proofs.laws.counts_are_of_the_last_block.Goals as goal

pub returns : goal.returns
returns c = record { kept = laws.last_acted; at_first = λ k. refl; set = counts.set; checked = counts.checked }
