use Rattle.std.proofs.Common.{rules}
use Rattle.std.specs.Fmt.{digits}
use Rattle.njh_check.specs.Reasons.{name_words}
use Rattle.njh_check.proofs.reasons.name_words.Goals as goal

pub returns-in-Line : goal.returns-in-Line
unfolding name_words digits
returns-in-Line c = search rules
