use Rattle.njh_ebcdic.proofs.TableLaws.{shown-upper, upper-other}
use Rattle.njh_ebcdic.proofs.laws.folding.Goals as goal

pub returns-clause-letters : goal.returns-clause-letters
returns-clause-letters c = shown-upper

pub returns-clause-others : goal.returns-clause-others
returns-clause-others c = upper-other
