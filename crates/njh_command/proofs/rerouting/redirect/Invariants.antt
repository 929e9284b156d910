use Rattle.std.proofs.Common.{◌≡◌, slice_set}
use Rattle.njh_spool.specs.Spools.{spool_at}
use Rattle.njh_command.specs.Files.{file_at, with_file, with_records}
use Rattle.njh_command.proofs.UpTo.{redirected_up_to, srcb_before}
use Rattle.njh_command.proofs.rerouting.redirect.Given as goal

abbrev pub invariant-loop-n : goal.invariant-loop-n
invariant-loop-n l = record {
  before : l.before ≡ srcb_before l.n (file_at l.index (spool_at l.customer l.initial.spool)).records;
  spool : l.spool
      ≡ slice_set l.initial.spool l.customer (with_file l.index
      (with_records (redirected_up_to (file_at l.index (spool_at l.customer l.initial.spool)).kind l.fn.node l.n
      (file_at l.index (spool_at
      l.customer l.initial.spool)).records)
      (file_at l.index (spool_at l.customer l.initial.spool))) (spool_at l.customer l.initial.spool));
}
