use Rattle.std.proofs.Common.{arith}
use Rattle.njh_lines.proofs.WatchLaws.{first_more, found_more}
use Rattle.njh_lines.proofs.attention.first_moment.Goals as goal

pub loop-place-preserved : goal.loop-place-preserved
loop-place-preserved c = record {
  least = first_more c.args.watches.now c.args.first c.loop-place.place c.loop-place.next c.min-next.result _
      (omega (arith, c.loop-place-test.true, c.min-place-end.ensures)) c.min-next.ensures c.loop-place.invariant.least;
  wanted = found_more c.args.watches.now c.args.first c.loop-place.place c.args.end c.loop-place.next
      c.min-next.result _ (omega (arith, c.loop-place-test.true, c.min-place-end.ensures))
      (omega (arith, c.loop-place.auto.place)) (omega (arith, c.loop-place-test.true, c.min-place-end.ensures))
      c.min-next.ensures c.loop-place.invariant.wanted;
}

pub returns : goal.returns
returns c = record {
  least = λ p from before within. c.loop-place.invariant.least p from
      (omega (arith, before, within, c.loop-place-test.false, c.min-place-end.ensures)) within;
  wanted = c.loop-place.invariant.wanted;
}
