use Rattle.std.proofs.Common.{List, ℕ, subst}
use Rattle.njh_ctl.proofs.NameLaws.{each_more}
use Rattle.njh_ctl.specs.Talks.{MessagesOf, each_begins}
use Rattle.njh_ctl.proofs.talk.Talk.messages_of_all.Goals as goal

pub loop-name-init : goal.loop-name-init
loop-name-init g c = each_begins

pub loop-name-preserved : goal.loop-name-preserved
loop-name-preserved g c =
    let this = MessagesOf c.args.line.now in
    let mid = c.loop-name.self in
    let new = c.list.new.self in
    each_more this c.args.self.now mid new c.args.names.now c.loop-name.name-index c.name-item.result
    c.loop-name-test.true c.name-item.is c.loop-name.invariant
    (subst (λ (name : List ℕ). this name mid new) c.as_str.ensures.value c.in_ok-list.ensures.done)
