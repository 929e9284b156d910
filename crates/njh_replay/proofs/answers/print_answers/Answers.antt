use Rattle.std.proofs.Common.{List, ℕ, subst, ◌∙◌}
use Rattle.std.specs.Io.KnownBytes.{Appends}
use Rattle.njh_io.specs.Written.{AppendsBeginning}
use Rattle.njh_replay.specs.Printed.{replies_text}
use Rattle.njh_replay.proofs.PrintSteps.{order_stopped, prints_stopped}
use Rattle.njh_replay.proofs.answers.print_answers.Goals as goal

-- an order that the hub refused
pub returns-in_err-order-clause-printed : goal.returns-in_err-order-clause-printed
returns-in_err-order-clause-printed g c =
    order_stopped c.from_residual.result c.args.hub.now c.order.new.self c.args.customer c.args.order.now
    c.order.result _ (g.W.Write.contents c.args.out.now) _ c.requires c.from_residual.ensures.1
    c.order.ensures.step c.in_err-order.was

pub returns-in_err-order-clause-lines : goal.returns-in_err-order-clause-lines
returns-in_err-order-clause-lines g c = c.order.ensures.step.stays.lines

-- replies of which a beginning was printed
pub returns-in_err-print_replies-clause-printed : goal.returns-in_err-print_replies-clause-printed
returns-in_err-print_replies-clause-printed g c =
    let old = g.W.Write.contents c.args.out.now in
    let new = g.W.Write.contents c.print_replies.new.out in
    prints_stopped c.from_residual-in_err-print_replies.result _ old new _ _
    c.from_residual-in_err-print_replies.ensures.1
    (subst (λ (rs : List (List ℕ)). AppendsBeginning old new (replies_text c.args.name rs))
    (c.texts.ensures ∙ c.in_ok-order.ensures.replies) c.in_err-print_replies.ensures.err)
    (tt, λ refusal. refusal) tt

pub returns-in_err-print_replies-clause-lines : goal.returns-in_err-print_replies-clause-lines
returns-in_err-print_replies-clause-lines g c = c.order.ensures.step.stays.lines

pub returns-clause-printed : goal.returns-clause-printed
returns-clause-printed g c =
    let old = g.W.Write.contents c.args.out.now in
    let new = g.W.Write.contents c.print_replies.new.out in
    subst (λ (rs : List (List ℕ)). Appends old new (replies_text c.args.name rs))
    (c.texts.ensures ∙ c.in_ok-order.ensures.replies) c.in_ok-print_replies.ensures.ok

pub returns-clause-taken : goal.returns-clause-taken
returns-clause-taken g c = c.in_ok-order.ensures.step.taken

pub returns-clause-hub : goal.returns-clause-hub
returns-clause-hub g c = c.in_ok-order.ensures.step.hub

pub returns-clause-lines : goal.returns-clause-lines
returns-clause-lines g c = c.order.ensures.step.stays.lines
