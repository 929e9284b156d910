-- By what the next block tells, and by what it has.
use Rattle.njh_customer.proofs.Words
use Words.{ap, sym, refl, subst, all_suspended, same_fcs, spool_at, customer_at, entry_of, own_fcs, CustomerLine}
use Words.{own_block}
use Rattle.{std.proofs.Common.{◌∙◌, ◌≤◌, ◌||◌}, njh_customer.proofs.HavingLaws.{sent_by_fcs, sent_by_records}}
use Rattle.njh_customer.proofs.customer_line.CustomerLine.has_next.Goals as goal

pub returns-then-not-tells_nothing : goal.returns-then-not-tells_nothing
returns-then-not-tells_nothing c =
    let id = c.args.id in
    let s = spool_at id.customer c.args.shared.now.spool in
    let fcs = c.own_fcs-fcs.result in
    sym (sent_by_fcs (entry_of (customer_at c.args.shared.now.tables id.customer)) id.number s c.args.self.now
    fcs c.own_fcs-fcs.ensures
    (ap (λ (x : CustomerLine). all_suspended x.state.session.peer_fcs || same_fcs fcs x.state.session.own_fcs)
    (sym c.self.view_is)
    ∙ sym c.tells_nothing.ensures.tells ∙ c.if-not-tells_nothing.true))

pub returns : goal.returns
returns c =
    let id = c.args.id in
    let s = spool_at id.customer c.args.shared.now.spool in
    let fcs = c.own_fcs-fcs.result in
    sym (sent_by_records (entry_of (customer_at c.args.shared.now.tables id.customer)) id.number s c.args.self.now
    fcs c.has_next.result c.own_fcs-fcs.ensures
    (ap (λ (x : CustomerLine). all_suspended x.state.session.peer_fcs || same_fcs fcs x.state.session.own_fcs)
    (sym c.self.view_is)
    ∙ sym c.tells_nothing.ensures.tells ∙ c.if-not-tells_nothing.false)
    (c.has_next.ensures.block (own_block (own_fcs s) c.args.self.now.state) refl
    (subst (λ (x : CustomerLine). 300 ≤ x.state.session.size) c.self.view_is c.tells_nothing.ensures.room)))
