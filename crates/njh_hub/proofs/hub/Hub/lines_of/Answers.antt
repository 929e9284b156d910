use Rattle.std.proofs.Common.{◌≡◌, ◌<◌, List, length, ap, subst, sym, ◌∙◌, rules, arith}
use Rattle.std.proofs.lemmas.List.{get_or_read}
use Rattle.njh_customer.specs.Customer.{IsMarked}
use Rattle.njh_customer.specs.Part.{Lines}
use Rattle.njh_hub.specs.Parts.{lines_at, no_lines}
use Rattle.njh_hub.specs.WholeHub.{Part, HasLine, part}
use Rattle.njh_hub.proofs.PartsLaws.{line-there, part-there}
use Rattle.njh_hub.proofs.hub.Hub.lines_of.Goals as goal

pub index-requires : goal.index-requires
index-requires c =
    let s = c.self.inside in
    let here : HasLine c.args.self.now c.args.id = search rules in
    let known = subst (λ ps. HasLine ps c.args.id) (sym c.self.view_is) here in
    omega (
      arith,
      line-there s.shared.tables s.shared.spool s.lines.items c.args.id known,
      c.self.invariant.lined,
      s.lines.ok.0,
    )

pub returns-clause-lines : goal.returns-clause-lines
returns-clause-lines c =
    let s = c.self.inside in
    let n = c.args.id.customer in
    let here : HasLine c.args.self.now c.args.id = search rules in
    let known = subst (λ ps. HasLine ps c.args.id) (sym c.self.view_is) here in
    let there = line-there s.shared.tables s.shared.spool s.lines.items c.args.id known in
    let within : n < length s.lines.items = omega (arith, there, c.self.invariant.lined) in
    let is : c.index.result.now ≡ lines_at n s.lines.items =
    get_or_read s.lines.items n c.index.result.now within (search rules) no_lines in
    ap (λ (x : Lines). x.lines) is
    ∙ sym (ap (λ (p : Part). p.customer.lines) (part-there s.shared.tables s.shared.spool s.lines.items n there))
    ∙ ap (λ (ps : List Part). (part n ps).customer.lines) c.self.view_is

pub returns-clause-rests : goal.returns-clause-rests
returns-clause-rests c =
    let s = c.self.inside in
    let n = c.args.id.customer in
    let here : HasLine c.args.self.now c.args.id = search rules in
    let known = subst (λ ps. HasLine ps c.args.id) (sym c.self.view_is) here in
    let there = line-there s.shared.tables s.shared.spool s.lines.items c.args.id known in
    let within : n < length s.lines.items = omega (arith, there, c.self.invariant.lined) in
    let is : c.index.result.now ≡ lines_at n s.lines.items =
    get_or_read s.lines.items n c.index.result.now within (search rules) no_lines in
    ap (λ (x : Lines). x.rests) is
    ∙ sym (ap (λ (p : Part). p.rests) (part-there s.shared.tables s.shared.spool s.lines.items n there))
    ∙ ap (λ (ps : List Part). (part n ps).rests) c.self.view_is

pub returns-clause-marked : goal.returns-clause-marked
returns-clause-marked c =
    let s = c.self.inside in
    let n = c.args.id.customer in
    let here : HasLine c.args.self.now c.args.id = search rules in
    let known = subst (λ ps. HasLine ps c.args.id) (sym c.self.view_is) here in
    let there = line-there s.shared.tables s.shared.spool s.lines.items c.args.id known in
    subst (λ (ps : List Part). IsMarked (part n ps).customer) c.self.view_is
    (subst (λ (p : Part). IsMarked p.customer) (sym (part-there s.shared.tables s.shared.spool s.lines.items n there))
    (c.self.invariant.marked n there))
