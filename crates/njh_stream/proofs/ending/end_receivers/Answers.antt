-- One stream more of the line's.
use Rattle.std.proofs.Common.{◌++◌, take, drop, set, get_or, replicate, slice_set, sym, ap, ap₂, ◌∙◌, add-one}
use Rattle.njh_spool.specs.Spools.{spool_at}
use Rattle.njh_stream.specs.declared.receiver.Receiver.TheVariants.{Idle}
use Rattle.njh_stream.specs.Receiving.{without_open, without_all_open}
use Rattle.njh_stream.proofs.EndingLaws.{moved_twice, become, next_is, open_so_far}
use Rattle.njh_stream.proofs.ending.end_receivers.Goals as goal

pub loop-place-preserved : goal.loop-place-preserved
loop-place-preserved c = (
  ap₂ (λ xs x. set xs c.loop-place.place x) c.loop-place.invariant.0 c.end.ensures.receiver
      ∙ become Idle c.loop-place.place c.args.receivers.now c.loop-place-test.true
      ∙ ap (λ n. replicate n Idle ++ drop n c.args.receivers.now) (sym (add-one c.loop-place.place)),
  moved_twice c.args.spool.now c.loop-place.spool c.end.new.spool c.args.customer
      (without_all_open (take c.loop-place.place c.args.receivers.now) (spool_at c.args.customer c.args.spool.now))
      (without_open c.index-receivers-place.result)
      c.requires c.loop-place.invariant.1 c.end.ensures.spool
      ∙ ap (slice_set c.args.spool.now c.args.customer)
      (ap (λ x. without_open x (without_all_open (take c.loop-place.place c.args.receivers.now)
      (spool_at c.args.customer c.args.spool.now)))
      (c.index-receivers-place.is ∙ ap (λ xs. get_or xs c.loop-place.place c.index-receivers-place.result)
      c.loop-place.invariant.0
      ∙ next_is Idle c.index-receivers-place.result c.loop-place.place c.args.receivers.now c.loop-place-test.true)
      ∙ sym (open_so_far c.loop-place.place c.args.receivers.now c.index-receivers-place.result
      (spool_at c.args.customer c.args.spool.now) c.loop-place-test.true)
      ∙ ap (λ n. without_all_open (take n c.args.receivers.now) (spool_at c.args.customer c.args.spool.now))
      (sym (add-one c.loop-place.place))),
)
