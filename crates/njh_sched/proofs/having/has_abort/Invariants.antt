use Rattle.std.proofs.Common.{◌≡◌, drop}
use Rattle.std.specs.List.{list_any}
use Rattle.njh_sched.specs.NextBlock.{sender_at, streams}
use Rattle.njh_sched.specs.code.Having.{has_abort, is_aborting}
use Rattle.njh_sched.proofs.having.has_abort.Given as goal

abbrev pub invariant-loop-place : goal.invariant-loop-place
invariant-loop-place g l =
    has_abort (g.L.Outgoing.outlet l.line)
    ≡ list_any (λ k. is_aborting (sender_at k (g.L.Outgoing.outlet l.line))) (drop l.place streams)
