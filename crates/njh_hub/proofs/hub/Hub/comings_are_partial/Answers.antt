use Rattle.std.proofs.Common.{List, subst, sym, arith}
use Rattle.std.specs.List.{AllByRecursion}
use Rattle.njh_customer.specs.Customer.{line_at}
use Rattle.njh_hub.specs.Parts.{part_held}
use Rattle.njh_hub.specs.Views.{IsPartialOn, hub_line}
use Rattle.njh_hub.specs.WholeHub.{HasLine, Part, part}
use Rattle.njh_hub.proofs.ComingLaws.{all_are_partial}
use Rattle.njh_hub.proofs.PartsLaws.{line-there, part-there}
use Rattle.njh_hub.proofs.hub.Hub.comings_are_partial.Goals as goal

pub quota_holds-requires : goal.quota_holds-requires
quota_holds-requires c =
    let s = c.self.inside in
    let there =
    line-there s.shared.tables s.shared.spool s.lines.items c.args.id
    (subst (λ (ps : List Part). HasLine ps c.args.id) (sym c.self.view_is) c.requires) in
    omega (arith, there, c.self.invariant.spooled)

pub returns : goal.returns
returns c =
    let s = c.self.inside in
    let id = c.args.id in
    let there =
    line-there s.shared.tables s.shared.spool s.lines.items id
    (subst (λ (ps : List Part). HasLine ps id) (sym c.self.view_is) c.requires) in
    subst (λ (ps : List Part). AllByRecursion (IsPartialOn (part id.customer ps).customer.spool)
    (hub_line id ps).receivers) c.self.view_is
    (subst (λ (p : Part). AllByRecursion (IsPartialOn p.customer.spool) (line_at id.number p.customer.lines).receivers)
    (sym (part-there s.shared.tables s.shared.spool s.lines.items id.customer there))
    (let customer = (part_held s.shared.tables s.shared.spool s.lines.items id.customer).customer in
    all_are_partial customer.lines customer.spool id.number _ c.quota_holds.ensures.sound
    (λ k. (c.self.invariant.coherent id.customer there).tied.agree id.number k)))
