use Rattle.std.specs.Prelude.{◌≡◌}
use Rattle.njh_service.proofs.opened.tell_opened.Given as goal

-- what is said of the attendant stays
abbrev pub invariant-loop-number : goal.invariant-loop-number
invariant-loop-number g l = l.exchange ≡ l.fn.exchange
