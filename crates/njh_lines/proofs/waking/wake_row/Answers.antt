use Rattle.std.proofs.Common.{◌∙◌, arith, refl}
use Rattle.njh_lines.proofs.CallLaws.{none_woken, woken_after, woken_more}
use Rattle.njh_lines.proofs.waking.wake_row.Goals as goal

pub loop-place-init : goal.loop-place-init
loop-place-init g c = record {
  lines = refl;
  noted = refl;
  now = refl;
  customers = refl;
  calls = none_woken c.args.exchange.now c.args.hub.now;
  waits = λ first. first;
  woken = λ p from before wanted. let none : ⊥ = omega (arith, from, before) in absurd none;
}

-- one line more was woken if it is to be
pub loop-place-preserved : goal.loop-place-preserved
loop-place-preserved g c = record {
  lines = c.wake_at.ensures.lines ∙ c.loop-place.invariant.lines;
  noted = c.wake_at.ensures.noted ∙ c.loop-place.invariant.noted;
  now = c.wake_at.ensures.now ∙ c.loop-place.invariant.now;
  customers = c.wake_at.ensures.customers ∙ c.loop-place.invariant.customers;
  calls = woken_after c.args.exchange.now c.loop-place.exchange c.args.hub.now c.wake_at.new.exchange.watches
      c.loop-place.invariant.lines c.loop-place.invariant.noted c.loop-place.invariant.now
      c.loop-place.invariant.calls c.wake_at.ensures.calls;
  waits = λ first. c.wake_at.ensures.waits (c.loop-place.invariant.waits first);
  woken = woken_more c.args.exchange.now c.loop-place.exchange c.wake_at.new.exchange c.args.row.customer
      c.args.row.first c.loop-place.place c.args.hub.now c.loop-place.invariant.lines c.loop-place.invariant.noted
      c.loop-place.invariant.now c.wake_at.ensures.calls c.wake_at.ensures.woken c.loop-place.invariant.woken;
}

pub returns-clause-woken : goal.returns-clause-woken
returns-clause-woken g c = λ p from before wanted.
    c.loop-place.invariant.woken p from (omega (arith, before, c.loop-place-test.false)) wanted
