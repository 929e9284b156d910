use Rattle.std.proofs.Common.{rules}
use Rattle.std.specs.Fmt.{digits}
use Rattle.njh_check.specs.Reasons.{wanted_words}
use Rattle.njh_check.proofs.reasons.wanted_words.Goals as goal

pub returns-in-Capacity : goal.returns-in-Capacity
unfolding wanted_words digits
returns-in-Capacity c = search rules

pub returns-in-Quota : goal.returns-in-Quota
unfolding wanted_words digits
returns-in-Quota c = search rules

pub returns-in-Files : goal.returns-in-Files
unfolding wanted_words digits
returns-in-Files c = search rules

pub returns-in-Block : goal.returns-in-Block
unfolding wanted_words digits
returns-in-Block c = search rules

pub returns-in-Streams : goal.returns-in-Streams
unfolding wanted_words digits
returns-in-Streams c = search rules

pub returns-in-From : goal.returns-in-From
unfolding wanted_words digits
returns-in-From c = search rules

pub returns-in-Port : goal.returns-in-Port
unfolding wanted_words digits
returns-in-Port c = search rules
