use Rattle.std.proofs.Common.{◌≡◌, ◌∙◌, get_or, ap, subst, sym, rules, arith}
use Rattle.njh_customer.specs.Customer.{line_at}
use Rattle.njh_customer.specs.Having.{has_next}
use Rattle.njh_hub.specs.Resting.{HasNext, has_next_on}
use Rattle.njh_hub.specs.WholeHub.{Part, HasLine}
use Rattle.njh_hub.proofs.PartsLaws.{found, line-there}
use Rattle.njh_hub.proofs.hub.Hub.has_next.Goals as goal

pub index-requires : goal.index-requires
index-requires c =
    let s = c.self.inside in
    let here : HasLine c.args.self.now c.args.id = search rules in
    let known = subst (λ ps. HasLine ps c.args.id) (sym c.self.view_is) here in
    omega (
      arith,
      line-there s.shared.tables s.shared.spool s.lines.items c.args.id known,
      c.self.invariant.lined,
      s.lines.ok.0,
    )

pub has_next-requires : goal.has_next-requires
has_next-requires c =
    let s = c.self.inside in
    let x = c.index.result.now in
    let here : x ≡ get_or s.lines.items c.args.id.customer x = search rules in
    let known : HasLine c.args.self.now c.args.id = search rules in
    let f = found s.shared s.lines.items c.args.self.now c.args.id x c.self.invariant c.self.view_is known here in
    record { ready = f.ready }

pub returns : goal.returns
returns c =
    let s = c.self.inside in
    let id = c.args.id in
    let x = c.index.result.now in
    let here : x ≡ get_or s.lines.items id.customer x = search rules in
    let known : HasLine c.args.self.now id = search rules in
    let f = found s.shared s.lines.items c.args.self.now id x c.self.invariant c.self.view_is known here in
    let same : c.has_next.result ≡ has_next_on id c.args.self.now =
    c.has_next.ensures
    ∙ ap (λ (p : Part). has_next p.customer.entry id.number p.customer.spool (line_at id.number p.customer.lines))
    f.part_is in
    (λ e. record { there = known; next = sym same ∙ e }, λ (h : HasNext c.args.self.now id). same ∙ h.next)
