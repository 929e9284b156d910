use Rattle.std.proofs.Common.{◌<◌, ◌≤◌, List, length, Option, Some, None, OnSome, ap, subst, sym, ◌∙◌, arith}
use Rattle.std.specs.Option.{option_map}
use Rattle.std.proofs.lemmas.List.{get_or_past}
use Rattle.njh_spool.specs.CustomerSpool.{whole_numbered}
use Rattle.njh_stream.specs.WholeFiles.{HaveHeaders}
use Rattle.njh_hub.specs.Views.{whole_file_on, file_summary}
use Rattle.njh_hub.specs.WholeHub.{Part, no_part, part}
use Rattle.njh_hub.proofs.PartsLaws.{headers-there, length-parts_of, part-there}
use Rattle.njh_hub.proofs.hub.Hub.file_summary.Goals as goal

where_some : {A : Type 0} {P : Type 0} (o : Option A) → P → OnSome o P
where_some None p = tt
where_some (Some x) p = p

pub returns-then-from-len-clause-summary : goal.returns-then-from-len-clause-summary
returns-then-from-len-clause-summary c =
    let s = c.self.inside in
    let count = length-parts_of s.shared.tables s.shared.spool s.lines.items in
    let past : length c.args.self.now ≤ c.args.customer =
    omega (arith, count, ap (λ (ps : List Part). length ps) c.self.view_is, s.lines.ok.0, c.self.invariant.lined) in
    sym (ap (λ (p : Part). option_map file_summary (whole_numbered c.args.file p.customer.spool))
    (get_or_past c.args.self.now c.args.customer no_part past))

pub file_summary-requires-clause-headers : goal.file_summary-requires-clause-headers
file_summary-requires-clause-headers c =
    let s = c.self.inside in
    let there : c.args.customer < length s.shared.tables.customers =
    omega (arith, s.lines.ok.0, c.self.invariant.lined) in
    (c.self.invariant.coherent c.args.customer there).headers

pub returns-clause-headers : goal.returns-clause-headers
returns-clause-headers c =
    let s = c.self.inside in
    let there : c.args.customer < length s.shared.tables.customers =
    omega (arith, s.lines.ok.0, c.self.invariant.lined) in
    where_some c.file_summary.result
    (subst (λ (ps : List Part). HaveHeaders (part c.args.customer ps).customer.spool.whole) c.self.view_is
    (headers-there s.shared.tables s.shared.spool s.lines.items c.args.customer c.self.invariant there))

pub returns-clause-summary : goal.returns-clause-summary
returns-clause-summary c =
    let s = c.self.inside in
    let there : c.args.customer < length s.shared.tables.customers =
    omega (arith, s.lines.ok.0, c.self.invariant.lined) in
    c.file_summary.ensures
    ∙ ap (λ (p : Part). option_map file_summary (whole_numbered c.args.file p.customer.spool))
    (sym (part-there s.shared.tables s.shared.spool s.lines.items c.args.customer there))
    ∙ ap (λ (ps : List Part). option_map file_summary (whole_file_on c.args.customer c.args.file ps)) c.self.view_is
