use Rattle.std.proofs.Common.{◌≡◌, slice_set}
use Rattle.njh_spool.specs.Spools.{spool_at}
use Rattle.njh_table.specs.TableFile.{entry_of}
use Rattle.njh_spool.specs.declared.State.TheVariants.{Ready}
use Rattle.njh_stream.specs.Sending.{may_go_again}
use Rattle.njh_stream.proofs.RoutingLaws.{restated_up_to}
use Rattle.njh_stream.proofs.routing.retry_refused.Given as goal

abbrev pub invariant-loop-index : goal.invariant-loop-index
invariant-loop-index l =
    l.spool ≡ slice_set l.initial.spool l.customer
    (restated_up_to (may_go_again (entry_of l.entry) l.line) Ready l.index (spool_at l.customer l.initial.spool))
