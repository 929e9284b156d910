use Rattle.std.proofs.Common.{◌≡◌, slice_set}
use Rattle.njh_spool.specs.Spools.{spool_at}
use Rattle.njh_table.specs.TableFile.{entry_of}
use Rattle.njh_spool.specs.declared.State.TheVariants.{Held}
use Rattle.njh_stream.specs.Holding.{has_lost_route}
use Rattle.njh_stream.proofs.RoutingLaws.{restated_up_to}
use Rattle.njh_stream.proofs.holding.hold_unrouted.Given as goal

abbrev pub invariant-loop-index : goal.invariant-loop-index
invariant-loop-index l =
    l.spool ≡ slice_set l.initial.spool l.customer
    (restated_up_to (has_lost_route (entry_of l.entry)) Held l.index (spool_at l.customer l.initial.spool))
