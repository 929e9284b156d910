use Rattle.std.proofs.Common.{◌<◌, List, length, ap, subst, sym, ◌∙◌, arith}
use Rattle.njh_command.specs.Files.{file_at}
use Rattle.njh_stream.specs.WholeFiles.{HaveHeaders}
use Rattle.njh_hub.specs.Views.{file_summary}
use Rattle.njh_hub.specs.WholeHub.{Part, part}
use Rattle.njh_hub.proofs.PartsLaws.{headers-there, length-parts_of, part-there, whole-there}
use Rattle.njh_hub.proofs.hub.Hub.summary_at.Goals as goal

pub summary_at-requires-clause-range : goal.summary_at-requires-clause-range
summary_at-requires-clause-range c =
    let s = c.self.inside in
    let count = length-parts_of s.shared.tables s.shared.spool s.lines.items in
    omega (
      arith,
      whole-there c.args.self.now c.args.customer c.args.index c.requires,
      count,
      ap
          (λ (ps : List Part). length ps) c.self.view_is,
      s.lines.ok.0,
      c.self.invariant.lined,
    )

pub summary_at-requires-clause-within : goal.summary_at-requires-clause-within
summary_at-requires-clause-within c =
    let s = c.self.inside in
    let count = length-parts_of s.shared.tables s.shared.spool s.lines.items in
    let there : c.args.customer < length s.shared.tables.customers =
    omega (
      arith,
      whole-there c.args.self.now c.args.customer c.args.index c.requires,
      count,
      ap
          (λ (ps : List Part). length ps) c.self.view_is,
    ) in
    let same = ap (λ (p : Part). length p.customer.spool.whole)
    (part-there s.shared.tables s.shared.spool s.lines.items c.args.customer there) in
    let seen = ap (λ (ps : List Part). length (part c.args.customer ps).customer.spool.whole) c.self.view_is in
    omega (arith, c.requires, same, seen)

pub summary_at-requires-clause-headers : goal.summary_at-requires-clause-headers
summary_at-requires-clause-headers c =
    let s = c.self.inside in
    let count = length-parts_of s.shared.tables s.shared.spool s.lines.items in
    let there : c.args.customer < length s.shared.tables.customers =
    omega (
      arith,
      whole-there c.args.self.now c.args.customer c.args.index c.requires,
      count,
      ap
          (λ (ps : List Part). length ps) c.self.view_is,
    ) in
    (c.self.invariant.coherent c.args.customer there).headers

pub returns-clause-headers : goal.returns-clause-headers
returns-clause-headers c =
    let s = c.self.inside in
    let count = length-parts_of s.shared.tables s.shared.spool s.lines.items in
    let there : c.args.customer < length s.shared.tables.customers =
    omega (
      arith,
      whole-there c.args.self.now c.args.customer c.args.index c.requires,
      count,
      ap
          (λ (ps : List Part). length ps) c.self.view_is,
    ) in
    subst (λ (ps : List Part). HaveHeaders (part c.args.customer ps).customer.spool.whole) c.self.view_is
    (headers-there s.shared.tables s.shared.spool s.lines.items c.args.customer c.self.invariant there)

pub returns-clause-summary : goal.returns-clause-summary
returns-clause-summary c =
    let s = c.self.inside in
    let count = length-parts_of s.shared.tables s.shared.spool s.lines.items in
    let there : c.args.customer < length s.shared.tables.customers =
    omega (
      arith,
      whole-there c.args.self.now c.args.customer c.args.index c.requires,
      count,
      ap
          (λ (ps : List Part). length ps) c.self.view_is,
    ) in
    c.summary_at.ensures
    ∙ ap (λ (p : Part). file_summary (file_at c.args.index p.customer.spool))
    (sym (part-there s.shared.tables s.shared.spool s.lines.items c.args.customer there))
    ∙ ap (λ (ps : List Part). file_summary (file_at c.args.index (part c.args.customer ps).customer.spool))
    c.self.view_is
