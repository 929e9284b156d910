use Rattle.std.proofs.Common.{◌≡◌, drop, find, map, ◌+◌, ◌%◌}
use Rattle.njh_sched.specs.NextBlock.{next_served, may_send, streams}
use Rattle.njh_sched.proofs.records.next_served.Given as goal

abbrev pub invariant-loop-step : goal.invariant-loop-step
invariant-loop-step g l =
    next_served (g.L.Outgoing.outlet l.line)
    ≡ find (may_send (g.L.Outgoing.outlet l.line)) (map (λ n. (l.served + 1 + n) % 8) (drop l.step streams))
