use Rattle.std.proofs.Common.{ℕ, Option, None, Some, subst}
use Rattle.njh_ctl.specs.Lists.{list_view}
use Rattle.njh_ctl.specs.Talks.{PartListed, list_begins, list_goes_on}
use Rattle.njh_ctl.proofs.talk.Talk.list.Goals as goal

pub loop-init : goal.loop-init
loop-init g c = list_begins

pub returns-in-None-clause-done : goal.returns-in-None-clause-done
returns-in-None-clause-done g c =
    let list = list_view c.args.list in
    let new = c.list_from.new.self in
    list_goes_on c.loop.self new c.loop.from None c.loop.invariant
    (subst (λ (next : Option ℕ). PartListed list c.loop.from c.loop.self new next) c.in-None.is
    c.in_ok-next.ensures.done)

pub loop-preserved : goal.loop-preserved
loop-preserved g c =
    let list = list_view c.args.list in
    let new = c.list_from.new.self in
    list_goes_on c.loop.self new c.loop.from (Some c.in-Some.next) c.loop.invariant
    (subst (λ (next : Option ℕ). PartListed list c.loop.from c.loop.self new next) c.in-Some.is
    c.in_ok-next.ensures.done)
