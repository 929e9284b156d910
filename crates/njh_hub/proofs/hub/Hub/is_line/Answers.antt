use Rattle.std.proofs.Common.{◌≡◌, ◌<◌, length, subst, sym, ap, ◌∙◌, rules, arith}
use Rattle.std.proofs.lemmas.Bool.{false≢true}
use Rattle.std.proofs.lemmas.List.{get_or_read}
use Rattle.njh_customer.specs.Part.{Lines}
use Rattle.njh_hub.specs.Parts.{lines_at, no_lines}
use Rattle.njh_hub.specs.WholeHub.{Part, HasLine, part}
use Rattle.njh_hub.proofs.PartsLaws.{line-there, part-there}
use Rattle.njh_hub.proofs.hub.Hub.is_line.Goals as goal

pub returns-then-customer-len-clause-line : goal.returns-then-customer-len-clause-line
returns-then-customer-len-clause-line c =
    let s = c.self.inside in (
      λ e. absurd (false≢true e),
      λ here.
          absurd (omega (
            arith,
            c.self.inside.lines.ok.0,
            c.self.invariant.lined,
            line-there s.shared.tables s.shared.spool s.lines.items c.args.id
                (subst (λ ps. HasLine ps c.args.id) (sym c.self.view_is) here),
          )),
    )

pub returns-clause-line : goal.returns-clause-line
returns-clause-line c =
    let s = c.self.inside in
    let n = c.args.id.customer in
    let within : n < length s.lines.items = omega (arith, c.self.inside.lines.ok.0) in
    let is : c.index.result.now ≡ lines_at n s.lines.items =
    get_or_read s.lines.items n c.index.result.now within (search rules) no_lines in
    let count : length c.index.result.now.lines ≡ length (part n c.args.self.now).customer.lines =
    ap (λ (x : Lines). length x.lines) is
    ∙ sym (ap (λ (p : Part). length p.customer.lines)
    (part-there s.shared.tables s.shared.spool s.lines.items n (omega (arith, within, c.self.invariant.lined))))
    ∙ ap (λ ps. length (part n ps).customer.lines) c.self.view_is in
    search (rules, count)

pub returns-clause-rests : goal.returns-clause-rests
returns-clause-rests c =
    let s = c.self.inside in
    let n = c.args.id.customer in
    let within : n < length s.lines.items = omega (arith, c.self.inside.lines.ok.0) in
    let is : c.index.result.now ≡ lines_at n s.lines.items =
    get_or_read s.lines.items n c.index.result.now within (search rules) no_lines in
    let count : length c.index.result.now.rests ≡ length (part n c.args.self.now).rests =
    ap (λ (x : Lines). length x.rests) is
    ∙ sym (ap (λ (p : Part). length p.rests)
    (part-there s.shared.tables s.shared.spool s.lines.items n (omega (arith, within, c.self.invariant.lined))))
    ∙ ap (λ ps. length (part n ps).rests) c.self.view_is in
    search (rules, count)
