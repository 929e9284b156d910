use Rattle.std.proofs.Common.{◌≡◌, ◌∙◌, sym, ap, arith}
use Rattle.njh_sched.specs.NextBlock.{sender_at}
use Rattle.njh_sched.specs.code.Having.{is_aborting}
use Rattle.njh_sched.proofs.HavingLaws.{found_stream, passed_stream, no_stream}
use Rattle.njh_sched.proofs.having.has_abort.Goals as goal

pub returns-then-is_aborting : goal.returns-then-is_aborting
returns-then-is_aborting g c =
    sym (c.loop-place.invariant
    ∙ found_stream (λ k. is_aborting (sender_at k (g.L.Outgoing.outlet c.args.line.now))) c.loop-place.place c.at.result
    c.loop-place-test.true c.at.ensures
    (ap is_aborting (sym c.sender.ensures) ∙ sym c.is_aborting.ensures ∙ c.if-is_aborting.true))

pub loop-place-preserved : goal.loop-place-preserved
loop-place-preserved g c =
    c.loop-place.invariant
    ∙ passed_stream (λ k. is_aborting (sender_at k (g.L.Outgoing.outlet c.args.line.now))) c.loop-place.place
    c.at.result c.loop-place-test.true c.at.ensures
    (ap is_aborting (sym c.sender.ensures) ∙ sym c.is_aborting.ensures ∙ c.if-is_aborting.false)

pub returns : goal.returns
returns g c =
    let done : c.loop-place.place ≡ 8 = omega arith in
    sym (c.loop-place.invariant
    ∙ no_stream (λ k. is_aborting (sender_at k (g.L.Outgoing.outlet c.args.line.now))) c.loop-place.place done)
