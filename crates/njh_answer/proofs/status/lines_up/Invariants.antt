use Rattle.std.proofs.Common.{◌≡◌, ◌≤◌}
use Rattle.njh_hub.specs.WholeHub.{part}
use Rattle.njh_answer.specs.Status.{up_to}
use Rattle.njh_answer.proofs.status.lines_up.Given as goal

abbrev pub invariant-loop-number : goal.invariant-loop-number
invariant-loop-number l = record {
  counted : l.up ≡ up_to (part l.customer l.hub) l.number;
  small : l.up ≤ l.number;
}
