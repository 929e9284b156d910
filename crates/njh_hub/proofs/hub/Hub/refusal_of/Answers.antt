use Rattle.std.proofs.Common.{◌≡◌, ◌<◌, ℕ, List, length, true, false, ap, sym, subst, ◌∙◌, rules, arith}
use Rattle.std.proofs.lemmas.List.{get_or_read}
use Rattle.njh_spool.specs.CustomerSpool.{CustomerSpool}
use Rattle.njh_table.specs.TableFile.{TableFile}
use Rattle.njh_customer.specs.Orders.{has_room}
use Rattle.njh_customer.specs.Part.{Lines}
use Rattle.njh_hub.specs.Parts.{lines_at, no_lines, part_held, parts_of}
use Rattle.njh_hub.specs.WholeHub.{Part, part, refusal_of}
use Rattle.njh_hub.proofs.PartsLaws.{length-parts_of, part-there}
use Rattle.njh_hub.proofs.GivenOrderLaws.{with_both, without_room, without_way}
use Rattle.njh_hub.proofs.hub.Hub.refusal_of.Goals as goal

-- what the hub has of the customer, as it is kept
held : (table : TableFile) (files : List CustomerSpool) (lines : List Lines) (parts : List Part) (n : ℕ)
    → parts_of table files lines ≡ parts → n < length table.customers → part n parts ≡ part_held table files lines n
held table files lines parts n are there = sym (ap (part n) are) ∙ part-there table files lines n there

-- it is one of the tables'
in_tables : (table : TableFile) (files : List CustomerSpool) (lines : List Lines) (parts : List Part) (n : ℕ)
    → parts_of table files lines ≡ parts → n < length parts → n < length table.customers
in_tables table files lines parts n are here =
    omega (arith, here, length-parts_of table files lines, ap (λ (ps : List Part). length ps) are)

pub has_way-requires : goal.has_way-requires
has_way-requires c =
    let s = c.self.inside in
    in_tables s.shared.tables s.shared.spool s.lines.items c.args.self.now c.args.customer c.self.view_is c.requires

pub index-lines-requires : goal.index-lines-requires
index-lines-requires c =
    let s = c.self.inside in
    omega (
      arith,
      in_tables s.shared.tables s.shared.spool s.lines.items c.args.self.now c.args.customer c.self.view_is c.requires,
      c.self.invariant.lined,
      s.lines.ok.0,
      c.from.ensures,
    )

pub has_room-requires : goal.has_room-requires
has_room-requires c =
    let s = c.self.inside in
    in_tables s.shared.tables s.shared.spool s.lines.items c.args.self.now c.args.customer c.self.view_is c.requires

pub returns-then-not-has_way : goal.returns-then-not-has_way
returns-then-not-has_way c =
    let s = c.self.inside in
    let n = c.args.customer in
    let there = in_tables s.shared.tables s.shared.spool s.lines.items c.args.self.now n c.self.view_is c.requires in
    let p = part_held s.shared.tables s.shared.spool s.lines.items n in
    sym (ap (refusal_of c.args.order.now)
    (held s.shared.tables s.shared.spool s.lines.items c.args.self.now n c.self.view_is there)
    ∙ without_way c.args.order.now p (search rules))

pub returns-then-not-has_room : goal.returns-then-not-has_room
returns-then-not-has_room c =
    let s = c.self.inside in
    let n = c.args.customer in
    let order = c.args.order.now in
    let there = in_tables s.shared.tables s.shared.spool s.lines.items c.args.self.now n c.self.view_is c.requires in
    let p = part_held s.shared.tables s.shared.spool s.lines.items n in
    let same : c.index-lines.result.now ≡ lines_at n s.lines.items =
    get_or_read s.lines.items n c.index-lines.result.now
    (omega (arith, there, c.self.invariant.lined, s.lines.ok.0)) (search rules) no_lines in
    let none : has_room p.customer.entry c.index-lines.result.now.lines order ≡ false = search rules in
    sym (ap (refusal_of order)
    (held s.shared.tables s.shared.spool s.lines.items c.args.self.now n c.self.view_is there)
    ∙ without_room order p (search rules)
    (subst (λ (y : Lines). has_room p.customer.entry y.lines order ≡ false) same none))

pub returns : goal.returns
returns c =
    let s = c.self.inside in
    let n = c.args.customer in
    let order = c.args.order.now in
    let there = in_tables s.shared.tables s.shared.spool s.lines.items c.args.self.now n c.self.view_is c.requires in
    let p = part_held s.shared.tables s.shared.spool s.lines.items n in
    let same : c.index-lines.result.now ≡ lines_at n s.lines.items =
    get_or_read s.lines.items n c.index-lines.result.now
    (omega (arith, there, c.self.invariant.lined, s.lines.ok.0)) (search rules) no_lines in
    let some : has_room p.customer.entry c.index-lines.result.now.lines order ≡ true = search rules in
    sym (ap (refusal_of order)
    (held s.shared.tables s.shared.spool s.lines.items c.args.self.now n c.self.view_is there)
    ∙ with_both order p (search rules)
    (subst (λ (y : Lines). has_room p.customer.entry y.lines order ≡ true) same some))
