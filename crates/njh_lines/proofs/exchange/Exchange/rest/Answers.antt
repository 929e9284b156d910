use Rattle.std.proofs.Common.{◌≡◌, ◌∙◌, ap, arith, subst, sym}
use Rattle.std.specs.Prelude.{IsTrue}
use Rattle.std.proofs.lemmas.Bool.{false≢true}
use Rattle.njh_lines.specs.declared.attention.Watch.{Watch}
use Rattle.njh_lines.specs.Attention.{watch_at}
use Rattle.njh_lines.specs.Watching.{Watched}
use Rattle.njh_lines.proofs.GroupLaws.{line_more}
use Rattle.njh_lines.proofs.MomentLaws.{group_looked}
use Rattle.njh_lines.proofs.exchange.Exchange.rest.Goals as goal

-- the group doesn't want to be looked at later than the line
pub invariant_of-self : goal.invariant_of-self
invariant_of-self g c =
    let Due : Watched → Type 0 = λ seen. IsTrue (watch_at seen.watches c.args.place).is_due in
    let due = subst Due (sym c.self.view_is) c.requires in
    let moment : c.until.result.moment ≡ c.args.moment = ap (λ (w : Watch). w.moment) c.until.ensures in
    let calls = c.call_group.ensures.calls in
    line_more _ c.self.inside.ready.items c.self.inside.watches.items c.self.inside.groups.items _ c.self.inside.next _
    c.args.place c.until.result (omega (arith, c.if-len-place.false, c.self.invariant.many_watches))
    c.call_group.ensures.many (omega (arith, c.min-self-inside.ensures))
    (omega (arith, c.min-self-inside.ensures, moment)) c.call_group.ensures.lowers
    (λ group within. let called = calls group within in omega (arith, called, moment)) c.call_group.ensures.stays
    (λ group within due. absurd (false≢true (sym (ap (λ (w : Watch). w.is_due) c.until.ensures) ∙ due)))
    (group_looked _ c.self.inside.watches.items c.self.inside.groups.items c.call_group.new.groups.items c.args.place
    c.until.result
    (λ group within. c.call_group.ensures.stays group (c.self.invariant.due group c.args.place within
    (omega (arith, c.if-len-place.false, c.self.invariant.many_watches)) due))
    c.call_group.ensures.others c.call_group.ensures.stays)
    c.self.invariant
