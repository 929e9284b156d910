use Rattle.njh_line.proofs.TableLaws as laws
use Rattle.njh_line.proofs.laws.tries_stay.Goals as goal

pub returns : goal.returns
returns c = laws.tries_stay
