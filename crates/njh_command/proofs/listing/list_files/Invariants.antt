use Rattle.std.proofs.Common.{◌≡◌, ◌≤◌, map, filter, take}
use Rattle.njh_spool.specs.Spools.{spool_at}
use Rattle.njh_command.specs.Commands.{first_replies, is_owned}
use Rattle.njh_command.proofs.UpTo.{count_up_to}
use Rattle.njh_texts.specs.Texts.{file_line}
use Rattle.njh_command.proofs.listing.list_files.Given as goal

abbrev pub invariant-loop-index : goal.invariant-loop-index
invariant-loop-index l = record {
  replies : l.replies ≡ first_replies (map file_line
      (filter (is_owned l.who) (take l.index (spool_at l.customer l.spool).whole)));
  count : l.count ≡ count_up_to (is_owned l.who) l.index (spool_at l.customer l.spool);
  few : l.count ≤ l.index;
}
