use Rattle.std.proofs.Common.{◌≡◌, ◌∙◌, ◌+◌, ◌%◌, sym, arith}
use Rattle.njh_sched.specs.NextBlock.{may_send}
use Rattle.njh_sched.proofs.SourceLists.{turn_found, turn_passed, no_turn}
use Rattle.njh_sched.proofs.records.next_served.Goals as goal

pub returns-then-may_send : goal.returns-then-may_send
returns-then-may_send g c =
    sym (c.loop-step.invariant
    ∙ turn_found (may_send (g.L.Outgoing.outlet c.args.line.now)) (λ n.
    (c.place-served.result + 1 + n) % 8) c.loop-step.step c.at-stream.result
    c.loop-step-test.true c.at-stream.ensures (sym c.may_send.ensures ∙ c.if-may_send.true))

pub loop-step-preserved : goal.loop-step-preserved
loop-step-preserved g c =
    c.loop-step.invariant
    ∙ turn_passed (may_send (g.L.Outgoing.outlet c.args.line.now)) (λ n.
    (c.place-served.result + 1 + n) % 8) c.loop-step.step c.at-stream.result
    c.loop-step-test.true c.at-stream.ensures (sym c.may_send.ensures ∙ c.if-may_send.false)

pub returns : goal.returns
returns g c =
    let done : c.loop-step.step ≡ 8 = omega arith in
    sym (c.loop-step.invariant
    ∙ no_turn (may_send (g.L.Outgoing.outlet c.args.line.now)) (λ n. (c.place-served.result + 1 + n) % 8)
    c.loop-step.step done)
