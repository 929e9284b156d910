use Rattle.std.proofs.Common.{◌≡◌, ◌+◌, ◌≤◌, filter, fold, length, map, slice_set, take}
use Rattle.njh_spool.specs.Spools.{spool_at}
use Rattle.njh_command.specs.Commands.{is_of_name, is_busy, without_file}
use Rattle.njh_command.proofs.UpTo.{count_up_to, left_up_to, removed_up_to}
use Rattle.njh_command.proofs.cancelling.cancel_each.Given as goal

abbrev pub invariant-loop : goal.invariant-loop
invariant-loop g l = record {
  index : l.index ≡ length (left_up_to (is_of_name l.choice.who l.choice.name) l.counter
      (spool_at l.choice.customer l.initial.spool));
  count : l.count
      ≡ count_up_to (is_of_name l.choice.who l.choice.name) l.counter (spool_at l.choice.customer l.initial.spool);
  few : l.index + l.count ≤ l.counter;
  spool : l.spool
      ≡ slice_set l.initial.spool l.choice.customer
      (removed_up_to (is_of_name l.choice.who l.choice.name) l.counter (spool_at l.choice.customer
      l.initial.spool));
  senders : l.senders
      ≡ fold (λ x n. g.S.Senders.each x (without_file n)) l.initial.senders
      (map (λ f. f.number) (filter (is_busy (is_of_name l.choice.who l.choice.name))
      (take l.counter (spool_at l.choice.customer l.initial.spool).whole)));
}
