use Rattle.std.proofs.Common.{◌≡◌, ◌≤◌, ◌*◌}
use Rattle.njh_answer.specs.Status.{up_of, sum_to}
use Rattle.njh_answer.proofs.status.up_of_all.Given as goal

abbrev pub invariant-loop-customer : goal.invariant-loop-customer
invariant-loop-customer l = record {
  summed : l.sum ≡ sum_to (up_of l.tables l.hub) l.customer;
  small : l.sum ≤ 65535 * l.customer;
}
