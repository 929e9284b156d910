use Rattle.std.proofs.Common.{◌≡◌, ◌≤◌}
use Rattle.njh_spool.specs.Spools.{spool_at}
use Rattle.njh_command.specs.Commands.{is_of_name}
use Rattle.njh_command.proofs.UpTo.{count_up_to}
use Rattle.njh_command.proofs.running.count_files.Given as goal

abbrev pub invariant-loop-index : goal.invariant-loop-index
invariant-loop-index l = record {
  count : l.count ≡ count_up_to (is_of_name l.choice.who l.choice.name) l.index (spool_at l.choice.customer l.spool);
  few : l.count ≤ l.index;
}
