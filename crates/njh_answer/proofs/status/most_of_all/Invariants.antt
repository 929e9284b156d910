use Rattle.std.proofs.Common.{◌≡◌, ◌≤◌, ◌*◌}
use Rattle.njh_answer.specs.Status.{most_of, sum_to}
use Rattle.njh_answer.proofs.status.most_of_all.Given as goal

abbrev pub invariant-loop-customer : goal.invariant-loop-customer
invariant-loop-customer l = record {
  summed : l.sum ≡ sum_to (most_of l.tables) l.customer;
  small : l.sum ≤ 4294967295 * l.customer;
}
