-- One stream more of the line's.
use Rattle.std.proofs.Common.{◌++◌, take, drop, set, get_or, replicate, slice_set, sym, ap, ap₂, ◌∙◌, add-one}
use Rattle.njh_spool.specs.Spools.{spool_at}
use Rattle.njh_stream.specs.declared.sender.Sender.TheVariants.{Idle}
use Rattle.njh_stream.specs.Sending.{spool_after_session, all_ended}
use Rattle.njh_stream.proofs.EndingLaws.{moved_twice, become, next_is, ended_so_far}
use Rattle.njh_stream.proofs.ending.end_senders.Goals as goal

pub loop-place-preserved : goal.loop-place-preserved
loop-place-preserved c = (
  ap₂ (λ xs x. set xs c.loop-place.place x) c.loop-place.invariant.0 c.ended.ensures.sender
      ∙ become Idle c.loop-place.place c.args.senders.now c.loop-place-test.true
      ∙ ap (λ n. replicate n Idle ++ drop n c.args.senders.now) (sym (add-one c.loop-place.place)),
  moved_twice c.args.spool.now c.loop-place.spool c.ended.new.spool c.args.customer
      (all_ended (take c.loop-place.place c.args.senders.now) (spool_at c.args.customer c.args.spool.now))
      (spool_after_session c.index-senders-place.result)
      c.requires c.loop-place.invariant.1 c.ended.ensures.spool
      ∙ ap (slice_set c.args.spool.now c.args.customer)
      (ap (λ x. spool_after_session x (all_ended (take c.loop-place.place c.args.senders.now)
      (spool_at c.args.customer c.args.spool.now)))
      (c.index-senders-place.is ∙ ap (λ xs. get_or xs c.loop-place.place c.index-senders-place.result)
      c.loop-place.invariant.0
      ∙ next_is Idle c.index-senders-place.result c.loop-place.place c.args.senders.now c.loop-place-test.true)
      ∙ sym (ended_so_far c.loop-place.place c.args.senders.now c.index-senders-place.result
      (spool_at c.args.customer c.args.spool.now) c.loop-place-test.true)
      ∙ ap (λ n. all_ended (take n c.args.senders.now) (spool_at c.args.customer c.args.spool.now))
      (sym (add-one c.loop-place.place))),
)
