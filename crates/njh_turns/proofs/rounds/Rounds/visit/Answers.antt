use Rattle.std.proofs.Common.{◌≡◌, ◌<◌, ℕ, List, [], ◌∷◌, ◌++◌, length, get_or, set, refl, ap, sym, subst, ◌∙◌, arith}
use Rattle.std.proofs.lemmas.List.{length-append}
use Rattle.njh_table.specs.declared.LineId.{LineId}
use Rattle.njh_hub.specs.WholeHub.{HasLine}
use Rattle.njh_hub.proofs.RunningLaws.{counted_from}
use Rattle.njh_turns.specs.Breaks.{TurnBreaks}
use Rattle.njh_turns.specs.Turns.{LineQuiets, IsRound, no_line_id, moment}
use Rattle.njh_turns.specs.Wires.{hub_wire}
use Rattle.njh_turns.proofs.BreakLaws.{round_stops, withheld_on}
use Rattle.njh_turns.proofs.KeepingLaws.{follows_refused, follows_well, no_more_then, on_err}
use Rattle.njh_turns.proofs.RoundLaws.{GoesRound, round_more, round_none, round_over, passed_over}
use Rattle.njh_turns.proofs.rounds.Rounds.visit.Goals as goal

pub loop-i-init : goal.loop-i-init
loop-i-init g c =
    let rounds = c.args.self.now in
    record {
      turns = (
        [],
        refl,
        round_none g.W.Wire.says rounds.lines (moment c.args.hub.now rounds.quiets c.args.wires.now),
      );
      lines = refl;
      same = λ d. refl;
      asked = c.requires.asked;
      withheld = λ k d. g.met.W.Wire.withheld_none (get_or c.args.wires.now k d);
      knows = c.requires.follows;
      leaves = λ left now. now;
      kept = refl;
    }

pub take_turn-requires-clause-within : goal.take_turn-requires-clause-within
take_turn-requires-clause-within g c =
    omega (
      arith,
      c.loop-i-test.true,
      c.len-i-end.ensures,
      ap (λ (r : LineQuiets). length r.lines) c.self.view_is,
      ap (λ (ls : List LineId). length ls) c.loop-i.invariant.lines,
    )

pub take_turn-requires-clause-known : goal.take_turn-requires-clause-known
take_turn-requires-clause-known g c =
    let i = c.loop-i.i in
    let line = get_or c.args.self.now.lines i no_line_id in
    let within : i < length c.args.self.now.lines = omega (
      arith,
      c.loop-i-test.true,
      c.len-i-end.ensures,
      ap (λ (r : LineQuiets). length r.lines) c.self.view_is,
    ) in
    let there : HasLine c.loop-i.hub line =
    omega (arith, c.requires.known i no_line_id within, c.loop-i.invariant.same line.customer) in
    subst (λ (ls : List LineId). HasLine c.loop-i.hub (get_or ls i no_line_id)) (sym c.loop-i.invariant.lines) there

pub loop-i-preserved : goal.loop-i-preserved
loop-i-preserved g c =
    let says = g.W.Wire.says in
    let i = c.loop-i.i in
    let start = c.args.self.now in
    let rounds = c.loop-i.self in
    let wires = c.loop-i.wires in
    let wire = get_or wires i c.index-wires-i.result in
    let new = c.take_turn.new in
    let so_far = c.loop-i.invariant.turns in
    let did = c.in_ok-take_turn.ensures.turn in
    let whole : length start.quiets ≡ length start.lines = omega (
      arith,
      c.self.invariant.0,
      ap (λ (r : LineQuiets). length r.quiets) c.self.view_is,
      ap (λ (r : LineQuiets). length r.lines) c.self.view_is,
    ) in
    let within : c.loop-i.i < length c.args.self.now.lines = omega (
      arith,
      c.loop-i-test.true,
      c.len-i-end.ensures,
      ap (λ (r : LineQuiets). length r.lines) c.self.view_is,
    ) in
    let wire_is = ap (get_or wires i) c.index-wires-i.is in
    let first = moment c.args.hub.now start.quiets c.args.wires.now in
    let goes : GoesRound says start.lines first so_far.0 (moment c.loop-i.hub rounds.quiets wires) i
    (get_or rounds.lines i no_line_id) (get_or rounds.quiets i 0) did.0 wire (hub_wire new.hub new.wire) = record {
      so_far = so_far.2;
      at = so_far.1;
      lines_left = within;
      quiets_left = omega (arith, whole, within);
      wires_left = omega (arith, c.requires.same, within);
      line_is = ap (λ (ls : List LineId). get_or ls i no_line_id) c.loop-i.invariant.lines;
      quiet_is = refl;
      wire_is = wire_is;
      did = did.1;
    } in
    let P : List ℕ → Type 0 = λ qs. IsRound says start.lines first (so_far.0 ++ did.0 ∷ [])
    (moment new.hub qs (set wires i new.wire)) in
    record {
      turns = (
        so_far.0 ++ did.0 ∷ [],
        omega (arith, so_far.1, length-append so_far.0 (did.0 ∷ [])),
        subst P (sym did.2) (round_more goes),
      );
      lines = c.take_turn.ensures.same ∙ c.loop-i.invariant.lines;
      same = λ d. c.in_ok-take_turn.ensures.lines d ∙ c.loop-i.invariant.same d;
      asked = c.in_ok-take_turn.ensures.asked;
      withheld = withheld_on g.W.Wire.says g.met.W.Wire.withheld_more c.args.wires.now wires i wire new.wire
          (omega (arith, c.requires.same, within)) wire_is c.loop-i.invariant.withheld
          c.in_ok-take_turn.ensures.withheld;
      knows = c.in_ok-take_turn.ensures.follows.known;
      leaves = no_more_then g.K.Keeper.says c.args.keeper.now c.loop-i.keeper new.keeper c.loop-i.invariant.leaves
          c.in_ok-take_turn.ensures.follows.leaves;
      kept = c.in_ok-take_turn.ensures.follows.faultless ∙ c.loop-i.invariant.kept;
    }

pub loop-i-preserved-then-not-is_due : goal.loop-i-preserved-then-not-is_due
loop-i-preserved-then-not-is_due g c =
    let start = c.args.self.now in
    let so_far = c.loop-i.invariant.turns in
    let whole : length start.quiets ≡ length start.lines = omega (
      arith,
      c.self.invariant.0,
      ap (λ (r : LineQuiets). length r.quiets) c.self.view_is,
      ap (λ (r : LineQuiets). length r.lines) c.self.view_is,
    ) in
    let within : c.loop-i.i < length c.args.self.now.lines = omega (
      arith,
      c.loop-i-test.true,
      c.len-i-end.ensures,
      ap (λ (r : LineQuiets). length r.lines) c.self.view_is,
    ) in
    record {
      turns = (
        so_far.0 ++ passed_over ∷ [],
        omega (arith, so_far.1, length-append so_far.0 (passed_over ∷ [])),
        round_over c.loop-i.wires g.met.W.Wire.none so_far.2 so_far.1 within
            (omega (arith, whole, within)) (omega (arith, c.requires.same, within)),
      );
      lines = c.loop-i.invariant.lines;
      same = c.loop-i.invariant.same;
      asked = c.loop-i.invariant.asked;
      withheld = c.loop-i.invariant.withheld;
      knows = c.loop-i.invariant.knows;
      leaves = c.loop-i.invariant.leaves;
      kept = c.loop-i.invariant.kept;
    }

-- ---- the keeper failed in a turn

pub returns-in_err-take_turn-clause-stops : goal.returns-in_err-take_turn-clause-stops
returns-in_err-take_turn-clause-stops g c =
    let i = c.loop-i.i in
    let so_far = c.loop-i.invariant.turns in
    let broke = c.in_err-take_turn.ensures.breaks in
    let wire = get_or c.loop-i.wires i c.index-wires-i.result in
    let P : List LineId → Type 0 = λ ls. TurnBreaks g.W.Wire.says (get_or ls i no_line_id)
    (get_or c.loop-i.self.quiets i 0) (hub_wire c.loop-i.hub wire) broke.0
    (hub_wire c.take_turn.new.hub c.take_turn.new.wire) in
    let within : c.loop-i.i < length c.args.self.now.lines = omega (
      arith,
      c.loop-i-test.true,
      c.len-i-end.ensures,
      ap (λ (r : LineQuiets). length r.lines) c.self.view_is,
    ) in
    on_err c.from_residual.result (round_stops i wire broke.0 so_far.2 so_far.1 within
    (omega (arith, c.requires.same, within)) (ap (get_or c.loop-i.wires i) c.index-wires-i.is)
    (subst P c.loop-i.invariant.lines broke.1))

pub returns-in_err-take_turn-clause-follows : goal.returns-in_err-take_turn-clause-follows
returns-in_err-take_turn-clause-follows g c =
    follows_refused g.K.Keeper.says c.args.keeper.now c.take_turn.new.keeper
    c.from_residual.result c.from_residual.ensures.0 c.take_turn.new.hub
    (no_more_then g.K.Keeper.says c.args.keeper.now c.loop-i.keeper c.take_turn.new.keeper c.loop-i.invariant.leaves
    c.in_err-take_turn.ensures.follows.leaves)
    (omega (arith, c.loop-i.invariant.kept, c.in_err-take_turn.ensures.follows.counts))
    (counted_from _ _ _ (omega (arith, c.loop-i.invariant.kept)) c.in_err-take_turn.ensures.follows.counted)

pub returns-in_err-take_turn-clause-withheld : goal.returns-in_err-take_turn-clause-withheld
returns-in_err-take_turn-clause-withheld g c =
    let i = c.loop-i.i in
    let wires = c.loop-i.wires in
    let within : c.loop-i.i < length c.args.self.now.lines = omega (
      arith,
      c.loop-i-test.true,
      c.len-i-end.ensures,
      ap (λ (r : LineQuiets). length r.lines) c.self.view_is,
    ) in
    withheld_on g.W.Wire.says g.met.W.Wire.withheld_more c.args.wires.now wires i
    (get_or wires i c.index-wires-i.result)
    c.take_turn.new.wire (omega (arith, c.requires.same, within)) (ap (get_or wires i) c.index-wires-i.is)
    c.loop-i.invariant.withheld c.in_err-take_turn.ensures.withheld

pub returns-in_err-take_turn-clause-same : goal.returns-in_err-take_turn-clause-same
returns-in_err-take_turn-clause-same g c = c.take_turn.ensures.same ∙ c.loop-i.invariant.lines

pub returns-in_err-take_turn-clause-lines : goal.returns-in_err-take_turn-clause-lines
returns-in_err-take_turn-clause-lines g c = λ d. c.in_err-take_turn.ensures.lines d ∙ c.loop-i.invariant.same d

-- ---- all wires had their turns

pub returns-clause-round : goal.returns-clause-round
returns-clause-round g c =
    let turns = c.loop-i.invariant.turns in
    let all : c.len-i-end.result ≡ length c.args.self.now.lines =
    omega (arith, c.len-i-end.ensures, ap (λ (r : LineQuiets). length r.lines) c.self.view_is) in
    (turns.0, omega (arith, turns.1, all), turns.2)

pub returns-clause-follows : goal.returns-clause-follows
returns-clause-follows g c =
    follows_well g.K.Keeper.says c.args.keeper.now c.loop-i.keeper tt
    c.loop-i.hub
    c.loop-i.invariant.knows c.loop-i.invariant.leaves c.loop-i.invariant.kept

pub returns-clause-withheld : goal.returns-clause-withheld
returns-clause-withheld g c = c.loop-i.invariant.withheld

pub returns-clause-same : goal.returns-clause-same
returns-clause-same g c = c.loop-i.invariant.lines

pub returns-clause-lines : goal.returns-clause-lines
returns-clause-lines g c = c.loop-i.invariant.same
