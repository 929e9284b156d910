use Rattle.std.proofs.Common.{◌≡◌, ◌∙◌, Bool, ℕ, Some, cond, eqb, ap, sym}
use Rattle.std.proofs.lemmas.Bool.{eq-eqb, ne_eqb}
use Rattle.std.proofs.lemmas.List.{take_all}
use Rattle.njh_anteroom.specs.Next.{has_rank, last_place}
use Rattle.njh_anteroom.specs.Remembered.{rank_of}
use Rattle.njh_anteroom.proofs.QueueLaws.{if_some_is, last_step, last_within}
use Rattle.njh_anteroom.proofs.order.last_of_rank.Goals as goal
use Rattle.njh_anteroom.proofs.order.last_of_rank.Goals.{then-rank, else-rank}

pub loop-place-preserved : goal.loop-place-preserved
loop-place-preserved g c =
    let place = c.loop-place.place in
    let last = c.loop-place.last in
    let here = c.rank.result in
    let step : c.if-rank.last ≡ cond (eqb here c.args.rank) (Some place) last =
    elim c.if-rank.branch [
      | then-rank w ↦
          w.last-is ∙ sym (ap (λ (b : Bool). cond b (Some place) last) (eq-eqb here c.args.rank w.if-rank.true))
      | else-rank w ↦
          w.last-is ∙ sym (ap (λ (b : Bool). cond b (Some place) last) (ne_eqb here c.args.rank w.if-rank.false))
    ] in
    last_step (has_rank {C = g.row.C.Denot} c.args.rank c.args.now c.args.memory.now) c.args.guests.now place
    c.index-guests-place.result last c.if-rank.last (eqb here c.args.rank) c.loop-place-test.true
    c.index-guests-place.is c.loop-place.invariant
    (ap (λ (r : ℕ). eqb r c.args.rank)
    (c.rank.ensures ∙ ap (rank_of c.args.now c.args.memory.now) c.number.ensures)) step

pub returns-clause-last : goal.returns-clause-last
returns-clause-last g c =
    c.loop-place.invariant
    ∙ ap (last_place (has_rank {C = g.row.C.Denot} c.args.rank c.args.now c.args.memory.now))
    (take_all c.loop-place.place c.args.guests.now c.loop-place-test.false)

pub returns-clause-within : goal.returns-clause-within
returns-clause-within g c =
    if_some_is c.loop-place.last
    (λ i is. last_within (has_rank {C = g.row.C.Denot} c.args.rank c.args.now c.args.memory.now) c.args.guests.now i
    (sym (returns-clause-last g c) ∙ is))
