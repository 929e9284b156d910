use Rattle.std.specs.Prelude.{◌≡◌}
use Rattle.njh_service.proofs.revising.tell_changes.Given as goal

-- what is said of the attendant stays
abbrev pub invariant-loop : goal.invariant-loop
invariant-loop g l = l.exchange ≡ l.fn.exchange
