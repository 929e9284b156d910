use Rattle.std.proofs.Common.{◌≡◌, ◌+◌, ◌≤◌, slice_set}
use Rattle.njh_spool.specs.Spools.{spool_at}
use Rattle.njh_command.specs.code.Changes.{change_by}
use Rattle.njh_command.specs.Commands.{changed_file, is_of_name, is_busy, may_change}
use Rattle.njh_command.proofs.UpTo.{changed_up_to, count_up_to}
use Rattle.njh_command.proofs.changing.change_each.Given as goal

abbrev pub invariant-loop-index : goal.invariant-loop-index
invariant-loop-index l = record {
  idle : l.idle ≡ count_up_to (may_change (is_of_name l.choice.who l.choice.name)) l.index
      (spool_at l.choice.customer l.initial.spool);
  busy : l.busy ≡ count_up_to (is_busy (is_of_name l.choice.who l.choice.name)) l.index
      (spool_at l.choice.customer l.initial.spool);
  few : l.idle + l.busy ≤ l.index;
  spool : l.spool
      ≡ slice_set l.initial.spool l.choice.customer
      (changed_up_to (changed_file (is_of_name l.choice.who l.choice.name) (change_by l.change)) l.index
      (spool_at l.choice.customer l.initial.spool));
}
