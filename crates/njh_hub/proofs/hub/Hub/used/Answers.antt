use Rattle.std.proofs.Common.{◌≡◌, ◌<◌, List, length, ap, sym, ◌∙◌, refl, arith}
use Rattle.std.proofs.lemmas.Bool.{false≢true}
use Rattle.njh_spool.specs.CustomerSpool.{used_blocks, CustomerSpool}
use Rattle.njh_spool.specs.Spools as spools
use Rattle.njh_hub.specs.WholeHub.{Part, part}
use Rattle.njh_hub.proofs.PartsLaws.{length-parts_of, part-there}
use Rattle.njh_hub.proofs.hub.Hub.used.Goals as goal

pub returns-clause-used : goal.returns-clause-used
returns-clause-used c =
    let s = c.self.inside in
    let there : c.args.customer < length s.shared.tables.customers =
    omega (arith, s.lines.ok.0, c.self.invariant.lined) in
    c.used.ensures ∙ ap (λ (p : Part). used_blocks p.customer.spool)
    (sym (part-there s.shared.tables s.shared.spool s.lines.items c.args.customer there))
    ∙ ap (λ (ps : List Part). used_blocks (part c.args.customer ps).customer.spool) c.self.view_is

pub returns-clause-quota : goal.returns-clause-quota
returns-clause-quota c =
    let s = c.self.inside in
    let n = c.args.customer in
    let there : n < length s.shared.tables.customers = omega (arith, s.lines.ok.0, c.self.invariant.lined) in
    let entry_quota : (spools.spool_at n s.shared.spool).quota ≡ (part n c.args.self.now).customer.entry.quota =
    (c.self.invariant.coherent n there).quota
    ∙ ap (λ (p : Part). p.customer.entry.quota) (sym (part-there s.shared.tables s.shared.spool s.lines.items n there))
    ∙ ap (λ (ps : List Part). (part n ps).customer.entry.quota) c.self.view_is in
    omega (arith, c.used.ensures, c.quota_holds.ensures.blocks, entry_quota)

pub returns-clause-files : goal.returns-clause-files
returns-clause-files c =
    let s = c.self.inside in
    let n = c.args.customer in
    let there : n < length s.shared.tables.customers = omega (arith, s.lines.ok.0, c.self.invariant.lined) in
    let held = part-there s.shared.tables s.shared.spool s.lines.items n there in
    let limit : (spools.spool_at n s.shared.spool).limit ≡ (part n c.args.self.now).customer.entry.files =
    (c.self.invariant.coherent n there).limit ∙ ap (λ (p : Part). p.customer.entry.files) (sym held)
    ∙ ap (λ (ps : List Part). (part n ps).customer.entry.files) c.self.view_is in
    let spool : spools.spool_at n s.shared.spool ≡ (part n c.args.self.now).customer.spool =
    ap (λ (p : Part). p.customer.spool) (sym held) ∙ ap (λ (ps : List Part). (part n ps).customer.spool) c.self.view_is
    in
    let whole = ap (λ (x : CustomerSpool). length x.whole) spool in
    let partial = ap (λ (x : CustomerSpool). length x.partial) spool in
    omega (arith, c.quota_holds.ensures.files, limit, whole, partial)

pub returns-then-from-len-clause-known : goal.returns-then-from-len-clause-known
returns-then-from-len-clause-known c =
    let s = c.self.inside in
    let count = length-parts_of s.shared.tables s.shared.spool s.lines.items in (
      λ e. absurd (false≢true e),
      λ here. absurd (omega (
        arith,
        here,
        count,
        ap (λ (ps : List Part). length ps) c.self.view_is,
        s.lines.ok.0,
        c.self.invariant.lined,
      )),
    )

pub returns-clause-known : goal.returns-clause-known
returns-clause-known c =
    let s = c.self.inside in
    let count = length-parts_of s.shared.tables s.shared.spool s.lines.items in (
      λ _. omega (
        arith,
        count,
        ap (λ (ps : List Part). length ps) c.self.view_is,
        s.lines.ok.0,
        c.self.invariant.lined,
      ),
      λ _. refl,
    )
