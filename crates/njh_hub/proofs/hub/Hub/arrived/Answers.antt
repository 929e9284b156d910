use Rattle.std.proofs.Common.{◌<◌, ◌≤◌, List, length, ap, sym, ◌∙◌, arith}
use Rattle.std.proofs.lemmas.List.{get_or_past}
use Rattle.njh_hub.specs.WholeHub.{Part, no_part, part}
use Rattle.njh_hub.proofs.PartsLaws.{length-parts_of, part-there}
use Rattle.njh_hub.proofs.hub.Hub.arrived.Goals as goal

pub returns-then-from-len : goal.returns-then-from-len
returns-then-from-len c =
    let s = c.self.inside in
    let count = length-parts_of s.shared.tables s.shared.spool s.lines.items in
    let past : length c.args.self.now ≤ c.args.customer =
    omega (arith, count, ap (λ (ps : List Part). length ps) c.self.view_is, s.lines.ok.0, c.self.invariant.lined) in
    sym (ap (λ (p : Part). p.customer.spool.arrived) (get_or_past c.args.self.now c.args.customer no_part past))

pub returns : goal.returns
returns c =
    let s = c.self.inside in
    let there : c.args.customer < length s.shared.tables.customers =
    omega (arith, s.lines.ok.0, c.self.invariant.lined) in
    c.arrived.ensures
    ∙ ap (λ (p : Part). p.customer.spool.arrived)
    (sym (part-there s.shared.tables s.shared.spool s.lines.items c.args.customer there))
    ∙ ap (λ (ps : List Part). (part c.args.customer ps).customer.spool.arrived) c.self.view_is
