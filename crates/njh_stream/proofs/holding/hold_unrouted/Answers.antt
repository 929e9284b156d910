-- One file more was looked at, or all were.
use Rattle.std.proofs.Common.{◌≡◌, sym, ap, ◌∙◌, subst, slice_set, add-one, IsSomeAnd, slice_get}
use Rattle.std.proofs.lemmas.List.{get_or-set_same}
use Rattle.njh_spool.specs.Spools.{spool_at, no_spool, IsSound}
use Rattle.njh_table.specs.TableFile.{entry_of}
use Rattle.njh_spool.specs.declared.State.TheVariants.{Held}
use Rattle.njh_stream.specs.Holding.{has_lost_route, held_numbered}
use Rattle.njh_stream.proofs.EndingLaws.{moved_twice}
use Rattle.njh_stream.proofs.RoutingLaws.{one_more_at, restated_up_to}
use Rattle.njh_stream.proofs.holding.hold_unrouted.Goals as goal

pub loop-index-preserved : goal.loop-index-preserved
loop-index-preserved c =
    let part_is : spool_at c.args.customer c.loop-index.spool ≡ restated_up_to
    (has_lost_route (entry_of c.args.entry.now)) Held c.loop-index.index (spool_at c.args.customer c.args.spool.now)
    = ap (spool_at c.args.customer) c.loop-index.invariant
    ∙ get_or-set_same c.args.spool.now c.args.customer
    (restated_up_to (has_lost_route (entry_of c.args.entry.now)) Held c.loop-index.index
    (spool_at c.args.customer c.args.spool.now)) no_spool c.requires in
    moved_twice c.args.spool.now c.loop-index.spool c.hold_file.new.spool c.args.customer
    (restated_up_to (has_lost_route (entry_of c.args.entry.now)) Held c.loop-index.index
    (spool_at c.args.customer c.args.spool.now))
    (held_numbered (entry_of c.args.entry.now) c.file_at-file.result)
    c.requires c.loop-index.invariant c.hold_file.ensures
    ∙ ap (slice_set c.args.spool.now c.args.customer)
    (one_more_at (has_lost_route (entry_of c.args.entry.now)) Held (spool_at c.args.customer c.args.spool.now)
    c.loop-index.index c.file_at-file.result
    (subst IsSound part_is c.file_at-file.ensures.sound)
    (subst (λ s. IsSomeAnd (slice_get s.whole c.loop-index.index) (λ f. c.file_at-file.result ≡ f.number)) part_is
    c.file_at-file.ensures.number)
    ∙ ap (λ n. restated_up_to (has_lost_route (entry_of c.args.entry.now)) Held n
    (spool_at c.args.customer c.args.spool.now)) (sym (add-one c.loop-index.index)))
