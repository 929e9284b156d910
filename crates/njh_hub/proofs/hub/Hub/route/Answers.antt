use Rattle.std.proofs.Common.{◌<◌, List, length, ap, sym, ◌∙◌, refl, arith}
use Rattle.std.proofs.lemmas.Bool.{false≢true}
use Rattle.njh_hub.specs.WholeHub.{Part}
use Rattle.njh_hub.proofs.PartsLaws.{entry-there, length-parts_of}
use Rattle.njh_table.specs.Entries.{CustomerEntry, route_of}
use Rattle.njh_hub.proofs.hub.Hub.route.Goals as goal

pub returns-clause-route : goal.returns-clause-route
returns-clause-route c =
    let s = c.self.inside in
    let there : c.args.customer < length s.shared.tables.customers =
    omega (arith, s.lines.ok.0, c.self.invariant.lined) in
    c.route.ensures ∙ sym (ap (λ (e : CustomerEntry). route_of e c.args.node)
    (entry-there s.shared.tables s.shared.spool s.lines.items c.args.self.now c.args.customer c.self.view_is there))

pub returns-then-from-len-clause-known : goal.returns-then-from-len-clause-known
returns-then-from-len-clause-known c =
    let s = c.self.inside in
    let count = length-parts_of s.shared.tables s.shared.spool s.lines.items in (
      λ e. absurd (false≢true e),
      λ here. absurd (omega (
        arith,
        here,
        count,
        ap (λ (ps : List Part). length ps) c.self.view_is,
        s.lines.ok.0,
        c.self.invariant.lined,
      )),
    )

pub returns-clause-known : goal.returns-clause-known
returns-clause-known c =
    let s = c.self.inside in
    let count = length-parts_of s.shared.tables s.shared.spool s.lines.items in (
      λ _. omega (
        arith,
        count,
        ap (λ (ps : List Part). length ps) c.self.view_is,
        s.lines.ok.0,
        c.self.invariant.lined,
      ),
      λ _. refl,
    )
