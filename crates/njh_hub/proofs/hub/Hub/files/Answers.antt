use Rattle.std.proofs.Common.{◌<◌, List, length, ap, subst, sym, ◌∙◌, arith}
use Rattle.njh_stream.specs.WholeFiles.{HaveHeaders}
use Rattle.njh_hub.specs.Files.{files_at, files_of}
use Rattle.njh_hub.specs.WholeHub.{Part, part}
use Rattle.njh_hub.proofs.PartsLaws.{headers-there, length-parts_of, part-there}
use Rattle.njh_hub.proofs.hub.Hub.files.Goals as goal

pub returns-then-from-len-clause-memory : goal.returns-then-from-len-clause-memory
returns-then-from-len-clause-memory c =
    let s = c.self.inside in
    let count = length-parts_of s.shared.tables s.shared.spool s.lines.items in
    λ here. absurd (omega (
      arith,
      here,
      count,
      ap (λ (ps : List Part). length ps) c.self.view_is,
      s.lines.ok.0,
      c.self.invariant.lined,
    ))

pub files_of-requires-clause-headers : goal.files_of-requires-clause-headers
files_of-requires-clause-headers c =
    let s = c.self.inside in
    let there : c.args.customer < length s.shared.tables.customers =
    omega (arith, s.lines.ok.0, c.self.invariant.lined) in
    (c.self.invariant.coherent c.args.customer there).headers

pub returns-clause-headers : goal.returns-clause-headers
returns-clause-headers c =
    let s = c.self.inside in
    let there : c.args.customer < length s.shared.tables.customers =
    omega (arith, s.lines.ok.0, c.self.invariant.lined) in
    subst (λ (ps : List Part). HaveHeaders (part c.args.customer ps).customer.spool.whole) c.self.view_is
    (headers-there s.shared.tables s.shared.spool s.lines.items c.args.customer c.self.invariant there)

pub returns-clause-files : goal.returns-clause-files
returns-clause-files c =
    let s = c.self.inside in
    let there : c.args.customer < length s.shared.tables.customers =
    omega (arith, s.lines.ok.0, c.self.invariant.lined) in
    c.in_ok-files.ensures.files
    ∙ ap (λ (p : Part). files_of p.customer.spool)
    (sym (part-there s.shared.tables s.shared.spool s.lines.items c.args.customer there))
    ∙ ap (files_at c.args.customer) c.self.view_is

pub returns-clause-known : goal.returns-clause-known
returns-clause-known c =
    let s = c.self.inside in
    let count = length-parts_of s.shared.tables s.shared.spool s.lines.items in
    omega (arith, count, ap (λ (ps : List Part). length ps) c.self.view_is, s.lines.ok.0, c.self.invariant.lined)

pub returns-in_err-files-clause-unknown : goal.returns-in_err-files-clause-unknown
returns-in_err-files-clause-unknown c =
    let s = c.self.inside in
    let count = length-parts_of s.shared.tables s.shared.spool s.lines.items in
    λ nowhere. absurd (nowhere (omega (
      arith,
      count,
      ap (λ (ps : List Part). length ps) c.self.view_is,
      s.lines.ok.0,
      c.self.invariant.lined,
    )))

pub returns-clause-unknown : goal.returns-clause-unknown
returns-clause-unknown c =
    let s = c.self.inside in
    let count = length-parts_of s.shared.tables s.shared.spool s.lines.items in
    λ nowhere. absurd (nowhere (omega (
      arith,
      count,
      ap (λ (ps : List Part). length ps) c.self.view_is,
      s.lines.ok.0,
      c.self.invariant.lined,
    )))
