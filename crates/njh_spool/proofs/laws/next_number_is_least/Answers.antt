use Rattle.std.proofs.Common.{length, ◌+◌, arith}
use Rattle.std.proofs.lemmas.Bool.{ltb-true}
use Rattle.njh_spool.proofs.NumberLaws.{least_from_is, next_number-below, next_number-fresh}
use Rattle.njh_spool.proofs.laws.next_number_is_least.Goals as goal

pub returns-clause-free : goal.returns-clause-free
returns-clause-free c = next_number-fresh

pub returns-clause-least : goal.returns-clause-least
returns-clause-least c = λ s n below. (least_from_is s.limit 0 s).taken n (omega arith) below

pub returns-clause-below : goal.returns-clause-below
returns-clause-below c = λ s room. next_number-below s (ltb-true (length s.whole + length s.partial) s.limit room)
