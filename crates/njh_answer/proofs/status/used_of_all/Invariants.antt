use Rattle.std.proofs.Common.{◌≡◌, ◌≤◌, ◌*◌}
use Rattle.njh_answer.specs.Status.{used_of, sum_to}
use Rattle.njh_answer.proofs.status.used_of_all.Given as goal

abbrev pub invariant-loop-customer : goal.invariant-loop-customer
invariant-loop-customer l = record {
  summed : l.sum ≡ sum_to (used_of l.hub) l.customer;
  small : l.sum ≤ 4294967295 * l.customer;
}
