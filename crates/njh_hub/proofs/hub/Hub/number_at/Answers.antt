use Rattle.std.proofs.Common.{◌<◌, List, length, ap, sym, ◌∙◌, arith}
use Rattle.njh_command.specs.Files.{file_at}
use Rattle.njh_hub.specs.WholeHub.{Part, part}
use Rattle.njh_hub.proofs.PartsLaws.{length-parts_of, part-there, whole-there}
use Rattle.njh_hub.proofs.hub.Hub.number_at.Goals as goal

pub number_of-requires-clause-range : goal.number_of-requires-clause-range
number_of-requires-clause-range c =
    let s = c.self.inside in
    let count = length-parts_of s.shared.tables s.shared.spool s.lines.items in
    omega (
      arith,
      whole-there c.args.self.now c.args.customer c.args.index c.requires,
      count,
      ap
          (λ (ps : List Part). length ps) c.self.view_is,
      s.lines.ok.0,
      c.self.invariant.lined,
    )

pub number_of-requires-clause-within : goal.number_of-requires-clause-within
number_of-requires-clause-within c =
    let s = c.self.inside in
    let count = length-parts_of s.shared.tables s.shared.spool s.lines.items in
    let there : c.args.customer < length s.shared.tables.customers =
    omega (
      arith,
      whole-there c.args.self.now c.args.customer c.args.index c.requires,
      count,
      ap
          (λ (ps : List Part). length ps) c.self.view_is,
    ) in
    let same = ap (λ (p : Part). length p.customer.spool.whole)
    (part-there s.shared.tables s.shared.spool s.lines.items c.args.customer there) in
    let seen = ap (λ (ps : List Part). length (part c.args.customer ps).customer.spool.whole) c.self.view_is in
    omega (arith, c.requires, same, seen)

pub returns : goal.returns
returns c =
    let s = c.self.inside in
    let count = length-parts_of s.shared.tables s.shared.spool s.lines.items in
    let there : c.args.customer < length s.shared.tables.customers =
    omega (
      arith,
      whole-there c.args.self.now c.args.customer c.args.index c.requires,
      count,
      ap
          (λ (ps : List Part). length ps) c.self.view_is,
    ) in
    c.number_of.ensures.number
    ∙ ap (λ (p : Part). (file_at c.args.index p.customer.spool).number)
    (sym (part-there s.shared.tables s.shared.spool s.lines.items c.args.customer there))
    ∙ ap (λ (ps : List Part). (file_at c.args.index (part c.args.customer ps).customer.spool).number) c.self.view_is
