use Rattle.std.proofs.Common.{◌+◌, drop, ap, sym, ◌∙◌, arith}
use Rattle.toml.specs.View.{view, items_view}
use Rattle.njh_table.proofs.Loops.{turn}
use Rattle.njh_table.proofs.RangeLaws.{ranges_after, ranges_after-more, ranges_after-bad}
use Rattle.njh_table.proofs.range_text.ranges_in.Goals as goal

pub returns-in_err-range : goal.returns-in_err-range
returns-in_err-range c =
    let done = c.loop-value.ranges.items in
    let later = items_view (drop (c.loop-value.value-index + 1) c.args.values.now) in
    let here = turn c.args.values.now c.loop-value.value-index c.value-item.result c.loop-value-test.true
    c.value-item.is in
    let bad = sym c.range_in.ensures ∙ c.in_err-range.was in
    c.from_residual.ensures
    ∙ sym (ap (ranges_after done) here ∙ ranges_after-bad done (view c.value-item.result) later bad)
    ∙ c.loop-value.invariant.0

pub loop-value-preserved : goal.loop-value-preserved
loop-value-preserved c =
    let done = c.loop-value.ranges.items in
    let later = items_view (drop (c.loop-value.value-index + 1) c.args.values.now) in
    let here = turn c.args.values.now c.loop-value.value-index c.value-item.result c.loop-value-test.true
    c.value-item.is in
    let one = sym c.range_in.ensures ∙ c.in_ok-range.was in (
      ap (λ ranges. ranges_after ranges later) c.push.ensures.items
          ∙ sym (ranges_after-more done (view c.value-item.result) later c.in_ok-range.range one)
          ∙ sym (ap (ranges_after done) here) ∙ c.loop-value.invariant.0,
      omega (arith, c.push.ensures.len, c.loop-value.invariant.1),
    )
