use Rattle.std.proofs.Common.{rules}
use Rattle.std.specs.Fmt.{digits}
use Rattle.njh_check.specs.Reasons.{most_words}
use Rattle.njh_check.proofs.reasons.most_words.Goals as goal

pub returns-in-Customer : goal.returns-in-Customer
unfolding most_words digits
returns-in-Customer c = search rules

pub returns-in-Line : goal.returns-in-Line
unfolding most_words digits
returns-in-Line c = search rules

pub returns-in-Route : goal.returns-in-Route
unfolding most_words digits
returns-in-Route c = search rules
