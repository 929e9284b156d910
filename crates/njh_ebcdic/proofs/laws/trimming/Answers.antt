use Rattle.njh_ebcdic.proofs.Blanks.{trimmed-blanks, trimmed-trimmed, trimmed-padded}
use Rattle.njh_ebcdic.proofs.laws.trimming.Goals as goal

pub returns-clause-blanks : goal.returns-clause-blanks
returns-clause-blanks c = trimmed-blanks

pub returns-clause-twice : goal.returns-clause-twice
returns-clause-twice c = trimmed-trimmed

pub returns-clause-padding : goal.returns-clause-padding
returns-clause-padding c = trimmed-padded
