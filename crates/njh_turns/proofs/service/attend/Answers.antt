use Rattle.std.proofs.Common.{◌≡◌, List, [], ◌∷◌, ◌++◌, ◌+◌, length, get_or, refl, ap, sym, subst, ◌∙◌, arith}
use Rattle.std.proofs.Common.{inl, inr}
use Rattle.std.specs.Prelude.{All}
use Rattle.std.proofs.lemmas.List.{length-append}
use Rattle.njh_table.specs.declared.LineId.{LineId}
use Rattle.njh_hub.specs.WholeHub.{HasLine}
use Rattle.njh_hub.proofs.RunningLaws.{counted_from}
use Rattle.njh_turns.specs.Breaks.{RoundBreaks}
use Rattle.njh_turns.specs.Service.{Round, service_rounds}
use Rattle.njh_turns.specs.Turns.{Turn, IsRound, hub_wires, moment}
use Rattle.njh_turns.proofs.ServiceLaws.{at_first, at_still, at_given, at_round, rounds-with_given, rounds-with_round}
use Rattle.njh_turns.proofs.ServiceLaws.{with_given, attended_at, attended_in}
use Rattle.njh_turns.proofs.KeepingLaws.{keeps_refused, keeps_well, on_err}
use Rattle.njh_turns.proofs.service.attend.Goals as goal

pub loop-turn-init : goal.loop-turn-init
loop-turn-init g c =
    let rounds = c.args.rounds.now in
    record {
      story = (
        [],
        refl,
        at_first g.W.Wire.says g.A.Attendant.steers rounds.lines
            (moment c.args.hub.now rounds.quiets c.args.wires.now) g.met.W.Wire.none,
      );
      lines = refl;
      same = λ d. refl;
      rests = c.requires.rests;
      settled = c.requires.settled;
      kept = refl;
    }

pub loop-turn-preserved : goal.loop-turn-preserved
loop-turn-preserved g c =
    let more = g.met.W.Wire.more in
    let lines_is : c.loop-turn.rounds.lines ≡ c.args.rounds.now.lines = c.loop-turn.invariant.lines in
    let story = c.loop-turn.invariant.story.0 in
    let routes = c.in_ok-give_routes.ensures.given in
    let order = c.in_ok-give_order.ensures.given in
    let round = c.in_ok-take_due.ensures.round in
    let routed = with_given story routes.0 in
    let told = with_given routed order.0 in
    let before = at_still c.before-in-loop-turn.new.wires c.loop-turn.invariant.story.2 more
    (omega (arith, c.requires.same)) c.before-in-loop-turn.ensures.still in
    let with_routes = at_given routes.0 c.give_routes.new.hub before routes.1 routes.2 in
    let with_order = at_given order.0 c.give_order.new.hub with_routes order.1 order.2 in
    let P : List LineId → Type 0 = λ ls. IsRound g.W.Wire.says ls
    (moment c.give_order.new.hub c.loop-turn.rounds.quiets c.before-in-loop-turn.new.wires) round.0
    (moment c.take_due.new.hub c.take_due.new.self.quiets c.take_due.new.wires) in
    let taken = at_round with_order more (round.1 ∙ ap (λ (ls : List LineId). length ls) lines_is)
    (subst P lines_is round.2) in
    let next = told ++ Round round.0 ∷ [] in
    let one_more : length (service_rounds next) ≡ length (service_rounds story) + 1 =
    ap (λ (rs : List (List Turn)). length rs) (rounds-with_round told round.0)
    ∙ length-append (service_rounds told) (round.0 ∷ [])
    ∙ ap (λ (rs : List (List Turn)). length rs + 1)
    (rounds-with_given routed order.0 ∙ rounds-with_given story routes.0) in
    record {
      story = (
        next,
        omega (arith, c.loop-turn.invariant.story.1, one_more),
        at_still c.after.new.wires taken more (omega (arith, c.requires.same)) c.after.ensures.still,
      );
      lines = c.take_due.ensures.same ∙ lines_is;
      same = λ d. c.take_due.ensures.lines d ∙ c.give_order.ensures.lines d ∙ c.give_routes.ensures.lines d
          ∙ c.loop-turn.invariant.same d;
      rests = c.after.ensures.rests;
      settled = c.in_ok-take_due.ensures.keeps.settled;
      kept = c.in_ok-take_due.ensures.keeps.faultless ∙ c.in_ok-give_order.ensures.keeps.faultless
          ∙ c.in_ok-give_routes.ensures.keeps.faultless ∙ c.loop-turn.invariant.kept;
    }

-- ---- the keeper failed where a customer was given new routes

pub returns-in_err-give_routes-clause-breaks : goal.returns-in_err-give_routes-clause-breaks
returns-in_err-give_routes-clause-breaks g c =
    let so_far = c.loop-turn.invariant.story in
    let broke = c.in_err-give_routes.ensures.breaks in
    on_err c.from_residual.result (record {
      rounds = c.loop-turn.turn;
      fewer = c.loop-turn-test.true;
      mid = moment c.loop-turn.hub c.loop-turn.rounds.quiets c.before-in-loop-turn.new.wires;
      attended = attended_at (at_still c.before-in-loop-turn.new.wires so_far.2 g.met.W.Wire.more
          (omega (arith, c.requires.same)) c.before-in-loop-turn.ensures.still) so_far.1;
      breaks = inl (broke.0, broke.1, broke.2, refl);
    })

pub returns-in_err-give_routes-clause-keeps : goal.returns-in_err-give_routes-clause-keeps
returns-in_err-give_routes-clause-keeps g c =
    keeps_refused g.K.Keeper.says c.args.keeper.now c.give_routes.new.keeper
    c.from_residual.result c.from_residual.ensures.0 c.give_routes.new.hub
    (omega (arith, c.loop-turn.invariant.kept, c.in_err-give_routes.ensures.keeps.counts))
    (counted_from _ _ _ (omega (arith, c.loop-turn.invariant.kept)) c.in_err-give_routes.ensures.keeps.counted)

pub returns-in_err-give_routes-clause-lines : goal.returns-in_err-give_routes-clause-lines
returns-in_err-give_routes-clause-lines g c = λ d. c.in_err-give_routes.ensures.lines d ∙ c.loop-turn.invariant.same d

-- ---- it failed where a customer was given an order

pub returns-in_err-give_order-clause-breaks : goal.returns-in_err-give_order-clause-breaks
returns-in_err-give_order-clause-breaks g c =
    let so_far = c.loop-turn.invariant.story in
    let routes = c.in_ok-give_routes.ensures.given in
    let broke = c.in_err-give_order.ensures.breaks in
    let before = at_still c.before-in-loop-turn.new.wires so_far.2 g.met.W.Wire.more (omega (arith, c.requires.same))
    c.before-in-loop-turn.ensures.still in
    on_err c.from_residual-in_err-give_order.result (record {
      rounds = c.loop-turn.turn;
      fewer = c.loop-turn-test.true;
      mid = moment c.give_routes.new.hub c.loop-turn.rounds.quiets c.before-in-loop-turn.new.wires;
      attended = attended_at (at_given routes.0 c.give_routes.new.hub before routes.1 routes.2)
          (ap (λ (rs : List (List Turn)). length rs) (rounds-with_given so_far.0 routes.0) ∙ so_far.1);
      breaks = inl (broke.0, broke.1, broke.2, refl);
    })

pub returns-in_err-give_order-clause-keeps : goal.returns-in_err-give_order-clause-keeps
returns-in_err-give_order-clause-keeps g c =
    keeps_refused g.K.Keeper.says c.args.keeper.now c.give_order.new.keeper
    c.from_residual-in_err-give_order.result c.from_residual-in_err-give_order.ensures.0 c.give_order.new.hub
    (omega (
      arith,
      c.loop-turn.invariant.kept,
      c.in_ok-give_routes.ensures.keeps.counts,
      c.in_err-give_order.ensures.keeps.counts,
    ))
    (counted_from _ _ _ (omega (arith, c.loop-turn.invariant.kept, c.in_ok-give_routes.ensures.keeps.faultless))
    c.in_err-give_order.ensures.keeps.counted)

pub returns-in_err-give_order-clause-lines : goal.returns-in_err-give_order-clause-lines
returns-in_err-give_order-clause-lines g c = λ d.
    c.in_err-give_order.ensures.lines d ∙ c.give_routes.ensures.lines d ∙ c.loop-turn.invariant.same d

-- ---- it failed in a round

pub returns-in_err-take_due-clause-breaks : goal.returns-in_err-take_due-clause-breaks
returns-in_err-take_due-clause-breaks g c =
    let so_far = c.loop-turn.invariant.story in
    let routes = c.in_ok-give_routes.ensures.given in
    let order = c.in_ok-give_order.ensures.given in
    let routed = with_given so_far.0 routes.0 in
    let mid = moment c.give_order.new.hub c.loop-turn.rounds.quiets c.before-in-loop-turn.new.wires in
    let before = at_still c.before-in-loop-turn.new.wires so_far.2 g.met.W.Wire.more (omega (arith, c.requires.same))
    c.before-in-loop-turn.ensures.still in
    let with_routes = at_given routes.0 c.give_routes.new.hub before routes.1 routes.2 in
    let P : List LineId → Type 0 = λ ls. RoundBreaks g.W.Wire.says (g.K.Keeper.says.may_leave c.take_due.new.keeper) ls
    mid (hub_wires c.take_due.new.hub c.take_due.new.wires) in
    on_err c.from_residual-in_err-take_due.result (record {
      rounds = c.loop-turn.turn;
      fewer = c.loop-turn-test.true;
      mid = mid;
      attended = attended_at (at_given order.0 c.give_order.new.hub with_routes order.1 order.2)
          (ap (λ (rs : List (List Turn)). length rs)
          (rounds-with_given routed order.0 ∙ rounds-with_given so_far.0 routes.0) ∙ so_far.1);
      breaks = inr (subst P c.loop-turn.invariant.lines c.in_err-take_due.ensures.breaks);
    })

pub returns-in_err-take_due-clause-keeps : goal.returns-in_err-take_due-clause-keeps
returns-in_err-take_due-clause-keeps g c =
    keeps_refused g.K.Keeper.says c.args.keeper.now c.take_due.new.keeper
    c.from_residual-in_err-take_due.result c.from_residual-in_err-take_due.ensures.0 c.take_due.new.hub
    (omega (
      arith,
      c.loop-turn.invariant.kept,
      c.in_ok-give_routes.ensures.keeps.counts,
      c.in_ok-give_order.ensures.keeps.counts,
      c.in_err-take_due.ensures.keeps.counts,
    ))
    (counted_from _ _ _ (omega (
      arith,
      c.loop-turn.invariant.kept,
      c.in_ok-give_routes.ensures.keeps.faultless,
      c.in_ok-give_order.ensures.keeps.faultless,
    ))
    c.in_err-take_due.ensures.keeps.counted)

pub returns-in_err-take_due-clause-same : goal.returns-in_err-take_due-clause-same
returns-in_err-take_due-clause-same g c = c.in_err-take_due.ensures.same ∙ c.loop-turn.invariant.lines

pub returns-in_err-take_due-clause-lines : goal.returns-in_err-take_due-clause-lines
returns-in_err-take_due-clause-lines g c = λ d.
    c.in_err-take_due.ensures.lines d ∙ c.give_order.ensures.lines d ∙ c.give_routes.ensures.lines d
    ∙ c.loop-turn.invariant.same d

-- ---- the attendant ends it

pub returns-then-is_over-clause-attended : goal.returns-then-is_over-clause-attended
returns-then-is_over-clause-attended g c =
    let so_far = c.loop-turn.invariant.story in
    attended_in so_far.2 (inr (c.is_over.ensures.0 c.if-is_over.true, omega (arith, so_far.1, c.loop-turn-test.true)))

pub returns-then-is_over-clause-rests : goal.returns-then-is_over-clause-rests
returns-then-is_over-clause-rests g c = c.loop-turn.invariant.rests

pub returns-then-is_over-clause-keeps : goal.returns-then-is_over-clause-keeps
returns-then-is_over-clause-keeps g c =
    keeps_well g.K.Keeper.says c.args.keeper.now c.loop-turn.keeper tt c.loop-turn.hub c.loop-turn.invariant.settled
    c.loop-turn.invariant.kept

pub returns-then-is_over-clause-lines : goal.returns-then-is_over-clause-lines
returns-then-is_over-clause-lines g c = c.loop-turn.invariant.same

pub returns-then-is_over-clause-same : goal.returns-then-is_over-clause-same
returns-then-is_over-clause-same g c = c.loop-turn.invariant.lines

-- ---- all rounds are over

pub returns-clause-keeps : goal.returns-clause-keeps
returns-clause-keeps g c =
    keeps_well g.K.Keeper.says c.args.keeper.now c.loop-turn.keeper tt
    c.loop-turn.hub
    c.loop-turn.invariant.settled c.loop-turn.invariant.kept

pub take_due-requires-clause-same : goal.take_due-requires-clause-same
take_due-requires-clause-same g c = omega (
  arith,
  c.requires.same,
  ap (λ (ls : List LineId). length ls)
      c.loop-turn.invariant.lines,
)

pub take_due-requires-clause-known : goal.take_due-requires-clause-known
take_due-requires-clause-known g c =
    subst (λ (ls : List LineId). All (HasLine c.give_order.new.hub) ls) (sym c.loop-turn.invariant.lines)
    (λ k d within.
    omega (
      arith,
      c.requires.known k d within,
      c.loop-turn.invariant.same (get_or c.args.rounds.now.lines k d).customer,
      c.give_routes.ensures.lines (get_or c.args.rounds.now.lines k d).customer,
      c.give_order.ensures.lines (get_or c.args.rounds.now.lines k d).customer,
    ))

pub returns-clause-attended : goal.returns-clause-attended
returns-clause-attended g c =
    let so_far = c.loop-turn.invariant.story in
    attended_at so_far.2 (omega (arith, so_far.1))

pub returns-clause-rests : goal.returns-clause-rests
returns-clause-rests g c = c.loop-turn.invariant.rests

pub returns-clause-lines : goal.returns-clause-lines
returns-clause-lines g c = c.loop-turn.invariant.same

pub returns-clause-same : goal.returns-clause-same
returns-clause-same g c = c.loop-turn.invariant.lines
