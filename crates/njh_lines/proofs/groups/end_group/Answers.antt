use Rattle.std.proofs.Common.{◌≡◌, ◌≢◌, ◌+◌, ◌*◌, List, get_or, length, min, ap, ◌∙◌, sym, arith, inr, refl}
use Rattle.std.specs.Prelude.{not}
use Rattle.std.proofs.lemmas.Bool.{false≢true}
use Rattle.std.proofs.lemmas.List.{get_or-set_other, length-set}
use Rattle.njh_lines.specs.Watching.{ServedLine, Watched}
use Rattle.njh_lines.specs.Wires.{IsDone}
use Rattle.njh_lines.specs.declared.attention.Watch.{Watch}
use Rattle.njh_lines.proofs.RestLaws.{group_rested, idle_rested, none_rested, one_rested, rested_after}
use Rattle.njh_lines.proofs.StillLaws.{still_more, still_same}
use Rattle.njh_lines.proofs.WireLaws.{done_as, group_made, idle_made, made_after, none_made, one_made}
use Rattle.njh_lines.proofs.groups.end_group.Goals as goal

pub returns-then-not-watch-clause-done : goal.returns-then-not-watch-clause-done
returns-then-not-watch-clause-done g c =
    idle_made _ (length c.args.exchange.now.lines) (16 * c.args.group) (16 * c.args.group + 16)
    c.args.exchange.now.watches c.args.wires.now
    (λ p from before line due. false≢true
    (sym (ap not (c.watch_of-watch.ensures.due p (from, before) line due)) ∙ c.if-not-watch.true))

pub returns-then-not-watch-clause-rested : goal.returns-then-not-watch-clause-rested
returns-then-not-watch-clause-rested g c =
    idle_rested (16 * c.args.group) (16 * c.args.group + 16) c.args.exchange.now c.args.wires.now
    (λ p from before line due. false≢true
    (sym (ap not (c.watch_of-watch.ensures.due p (from, before) line due)) ∙ c.if-not-watch.true))

pub returns-then-not-watch-clause-wanted : goal.returns-then-not-watch-clause-wanted
returns-then-not-watch-clause-wanted g c = c.watch_of-watch.ensures.wanted
    (λ due. false≢true (sym (ap not due) ∙ c.if-not-watch.true))

pub loop-place-init : goal.loop-place-init
loop-place-init g c =
    let first = c.places_of-first.ensures.first in
    let end = c.places_of-first.ensures.end in record {
      still = still_same c.args.wires.now;
      lines = refl;
      done = none_made _ (length c.args.exchange.now.lines) c.places_of-first.result.0 c.args.exchange.now.watches
          c.args.wires.now;
      now = refl;
      rested = none_rested c.places_of-first.result.0 c.args.exchange.now c.args.wires.now;
      before = omega (arith, first, end);
    }

pub loop-place-preserved : goal.loop-place-preserved
loop-place-preserved g c = record {
  still = still_more c.args.wires.now c.loop-place.wires
      c.loop-place.place (get_or c.loop-place.wires c.loop-place.place c.index-wires-place.result) c.end.new.wire
      (omega (arith, c.loop-place-test.true, c.loop-place.auto.wires))
      (ap (get_or c.loop-place.wires c.loop-place.place) c.index-wires-place.is)
      (sym c.end.ensures.tally) c.end.ensures.counts c.loop-place.invariant.still;
  lines = c.end.ensures.lines ∙ c.loop-place.invariant.lines;
  done = made_after _ (λ place s new. IsDone g.N.Connection.Connection.moved c.loop-place.exchange c.args.hub.now place s
      new) (length c.args.exchange.now.lines) _ c.loop-place.place (c.loop-place.place + 1) c.args.exchange.now.watches
      c.args.exchange.now.watches c.args.wires.now c.loop-place.wires _ (omega (arith, c.loop-place.auto.place))
      (omega arith) c.loop-place.auto.wires (λ p from. refl)
      (λ p s new from. done_as _ c.args.exchange.now c.loop-place.exchange c.args.hub.now p s new
      c.loop-place.invariant.lines (c.loop-place.invariant.rested.others p (inr from)).refusals)
      c.loop-place.invariant.done
      (one_made _ (length c.args.exchange.now.lines) c.loop-place.place c.args.exchange.now.watches
      c.loop-place.wires (get_or c.loop-place.wires c.loop-place.place c.index-wires-place.result) c.end.new.wire
      (omega (arith, c.loop-place-test.true, c.loop-place.auto.wires))
      (ap (get_or c.loop-place.wires c.loop-place.place) c.index-wires-place.is)
      (λ due. c.end.ensures.done (ap (λ (watch : Watch). watch.is_due)
      (c.loop-place.invariant.rested.others c.loop-place.place (inr (omega arith))).watch ∙ due)));
  now = c.end.ensures.now ∙ c.loop-place.invariant.now;
  rested = rested_after _ c.loop-place.place (c.loop-place.place + 1) c.args.exchange.now c.loop-place.exchange
      c.end.new.self c.loop-place.wires _ (omega (arith, c.loop-place.auto.place)) (omega arith)
      (ap (λ (lines : List ServedLine). length lines) c.loop-place.invariant.lines) c.end.ensures.now
      (length-set c.loop-place.wires c.loop-place.place c.end.new.wire)
      (λ p d before.
      let apart : p ≢ c.loop-place.place = λ here. omega (arith, here, before) in
      get_or-set_other c.loop-place.wires c.loop-place.place p c.end.new.wire d apart)
      c.loop-place.invariant.rested
      (one_rested c.loop-place.place c.loop-place.exchange c.end.new.self c.loop-place.wires c.end.new.wire
      (omega (arith, c.loop-place-test.true, c.loop-place.auto.wires)) c.end.ensures.rests c.end.ensures.idle
      c.end.ensures.others);
  before = omega (arith, c.loop-place-test.true);
}

-- those of its lines that were looked at rest
pub returns-clause-rested : goal.returns-clause-rested
returns-clause-rested g c =
    let last : c.loop-place.place ≡ min (16 * c.args.group + 16) (length c.loop-place.wires) =
    omega (
      arith,
      c.loop-place-test.false,
      c.loop-place.invariant.before,
      c.places_of-first.ensures.end,
      c.loop-place.auto.wires,
    ) in
    group_rested c.args.group c.places_of-first.result.0 c.loop-place.place c.args.exchange.now c.loop-place.exchange
    _ c.loop-place.wires c.rest_group.ensures.same
    (omega (arith, c.places_of-first.ensures.first, c.loop-place.auto.wires)) last c.loop-place.invariant.rested

pub returns-clause-now : goal.returns-clause-now
returns-clause-now g c =
    ap (λ (seen : Watched). seen.now) c.rest_group.ensures.same ∙ c.loop-place.invariant.now

pub returns-clause-done : goal.returns-clause-done
returns-clause-done g c =
    let last : c.loop-place.place ≡ min (16 * c.args.group + 16) (length c.args.wires.now) =
    omega (
      arith,
      c.loop-place-test.false,
      c.loop-place.invariant.before,
      c.places_of-first.ensures.end,
      c.loop-place.auto.wires,
    ) in
    group_made _ (length c.args.exchange.now.lines) c.args.group c.places_of-first.result.0 c.loop-place.place
    c.args.exchange.now.watches c.args.wires.now c.loop-place.wires c.places_of-first.ensures.first last
    c.loop-place.auto.wires c.loop-place.invariant.done
