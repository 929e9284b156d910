use Rattle.std.proofs.Common.{◌≡◌, ℕ, ◌+◌, ◌*◌, List, get_or, length, min, ap, ◌∙◌, sym, subst, arith, refl, inl}
use Rattle.std.specs.Prelude.{slice_get, IsTrue}
use Rattle.std.proofs.lemmas.Bool.{false≢true}
use Rattle.njh_lines.specs.Watching.{HaveBegun, ServedLine}
use Rattle.njh_lines.proofs.RoundLaws.{begun_after, none_begun}
use Rattle.njh_lines.proofs.StillLaws.{still_same, still_more}
use Rattle.njh_lines.proofs.WireLaws.{group_held, held_after, idle_held, none_held, one_held}
use Rattle.njh_lines.proofs.groups.begin_group.Goals as goal

pub returns-then-not-wakes-clause-still : goal.returns-then-not-wakes-clause-still
returns-then-not-wakes-clause-still g c =
    still_same c.args.wires.now

-- nothing was to be done
pub returns-then-not-wakes-clause-begun : goal.returns-then-not-wakes-clause-begun
returns-then-not-wakes-clause-begun g c = record {
  each = λ p from before. c.wakes.ensures.idle
      (λ (wakes : IsTrue c.wakes.result). false≢true (sym c.if-not-wakes.true ∙ wakes)) p
      (omega (arith, from, before), omega (arith, from, before));
  same_mark = λ p other. refl;
  same_watch = λ p other. refl;
}

pub returns-then-not-wakes-clause-held : goal.returns-then-not-wakes-clause-held
returns-then-not-wakes-clause-held g c =
    idle_held (16 * c.args.group) (16 * c.args.group + 16) c.args.exchange.now.lines c.args.exchange.now.watches
    c.args.wires.now
    (λ p from before line. c.wakes.ensures.none
    (λ (wakes : IsTrue c.wakes.result). false≢true (sym c.if-not-wakes.true ∙ wakes)) p (from, before) line)

pub loop-place-init : goal.loop-place-init
loop-place-init g c =
    let first = c.places_of-first.ensures.first in
    let end = c.places_of-first.ensures.end in record {
      still = still_same c.args.wires.now;
      lines = refl;
      now = refl;
      customers = refl;
      begun = none_begun c.args.exchange.now.now c.places_of-first.result.0 c.args.exchange.now.ready
          c.args.exchange.now.watches;
      before = omega (arith, first, end);
      held = none_held c.places_of-first.result.0 c.args.exchange.now.lines c.args.exchange.now.watches
          c.args.wires.now;
    }

pub loop-place-preserved : goal.loop-place-preserved
loop-place-preserved g c =
    let now = c.loop-place.invariant.now in
    let P : ℕ → Type 0 = λ moment. HaveBegun moment c.loop-place.place (c.loop-place.place + 1) c.loop-place.exchange.ready
    c.begin.new.self.ready c.loop-place.exchange.watches c.begin.new.self.watches in record {
      still = still_more c.args.wires.now c.loop-place.wires
          c.loop-place.place (get_or c.loop-place.wires c.loop-place.place c.index-wires-place.result)
          c.begin.new.wire
          (omega (arith, c.loop-place-test.true, c.loop-place.auto.wires))
          (ap (get_or c.loop-place.wires c.loop-place.place) c.index-wires-place.is)
          (sym c.begin.ensures.tally) c.begin.ensures.counts c.loop-place.invariant.still;
      lines = c.begin.ensures.lines ∙ c.loop-place.invariant.lines;
      now = c.begin.ensures.now ∙ now;
      customers = c.begin.ensures.customers ∙ c.loop-place.invariant.customers;
      begun = begun_after c.args.exchange.now.now _ c.loop-place.place _ _ _ _ _ _ _
          (omega (arith, c.loop-place.auto.place)) (omega arith) c.loop-place.invariant.begun
          (subst P now c.begin.ensures.begun);
      before = omega (arith, c.loop-place-test.true);
      held = held_after _ c.loop-place.place (c.loop-place.place + 1)
          c.args.exchange.now.lines c.args.exchange.now.lines c.loop-place.exchange.watches
          c.begin.new.self.watches c.args.wires.now c.loop-place.wires _
          (omega (arith, c.loop-place.auto.place)) (omega arith) refl c.loop-place.auto.wires
          (λ p earlier. c.begin.ensures.begun.same_watch p (inl earlier)) c.loop-place.invariant.held
          (one_held c.loop-place.place c.args.exchange.now.lines c.begin.new.self.watches c.loop-place.wires
          c.begin.new.wire (omega (arith, c.loop-place-test.true, c.loop-place.auto.wires))
          (λ line found stopped due. c.begin.ensures.stopped line
          (ap (λ (lines : List ServedLine). slice_get lines c.loop-place.place) c.loop-place.invariant.lines ∙ found)
          stopped
          ((c.begin.ensures.begun.each c.loop-place.place (omega arith) (omega arith)).only due)));
    }

pub returns-clause-held : goal.returns-clause-held
returns-clause-held g c =
    let last : c.loop-place.place ≡ min (16 * c.args.group + 16) (length c.args.wires.now) =
    omega (
      arith,
      c.loop-place-test.false,
      c.loop-place.invariant.before,
      c.places_of-first.ensures.end,
      c.loop-place.auto.wires,
    ) in
    group_held c.args.group c.places_of-first.result.0 c.loop-place.place c.args.exchange.now.lines
    c.loop-place.exchange.watches c.args.wires.now c.loop-place.wires c.places_of-first.ensures.first last
    c.loop-place.auto.wires c.loop-place.invariant.held

-- all lines of the group have begun
pub returns-clause-begun : goal.returns-clause-begun
returns-clause-begun g c =
    let many = length c.args.wires.now in
    let first = c.places_of-first.ensures.first in
    let end : c.loop-place.place ≡ min (16 * c.args.group + 16) many =
    omega (
      arith,
      c.loop-place-test.false,
      c.loop-place.invariant.before,
      c.places_of-first.ensures.end,
      c.loop-place.auto.wires,
    ) in
    let P : ℕ → ℕ → Type 0 = λ from to. HaveBegun c.args.exchange.now.now from to c.args.exchange.now.ready
    c.loop-place.exchange.ready c.args.exchange.now.watches c.loop-place.exchange.watches in
    let From : ℕ → Type 0 = λ from. P from (min (16 * c.args.group + 16) many) in
    subst From first (subst (P c.places_of-first.result.0) end c.loop-place.invariant.begun)
