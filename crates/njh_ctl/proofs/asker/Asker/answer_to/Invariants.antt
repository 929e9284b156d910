use Rattle.njh_ctl.specs.Exchanges.{GoesOn}
use Rattle.njh_ctl.proofs.asker.Asker.answer_to.Given as goal

abbrev pub invariant-loop : goal.invariant-loop
invariant-loop g l = GoesOn l.fn.self l.self
