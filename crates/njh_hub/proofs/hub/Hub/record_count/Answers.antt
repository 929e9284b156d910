use Rattle.std.proofs.Common.{◌≡◌, ℕ, ◌<◌, ◌≤◌, List, [], length, Option, Some, None, Ok, Err, ap, sym, ◌∙◌, refl}
use Rattle.std.proofs.Common.{arith}
use Rattle.std.proofs.lemmas.List.{get_or_past}
use Rattle.std.specs.Option.{option_map}
use Rattle.njh_record.specs.Stored.{Stored}
use Rattle.njh_spool.specs.Spools.{or_no_file}
use Rattle.njh_spool.specs.declared.SpoolFault.{SpoolFault}
use Rattle.njh_stream.specs.SpoolFiles.{records_in}
use Rattle.njh_hub.specs.WholeHub.{Part, no_part, part}
use Rattle.njh_hub.proofs.PartsLaws.{length-parts_of, part-there}
use Rattle.njh_hub.proofs.hub.Hub.record_count.Goals as goal

abbrev or_none : Option (List Stored) → List Stored
or_none o = elim o [ Some records ↦ records | None ↦ [] ]

there_are : (o : Option (List Stored)) (n : ℕ) → Ok n ≡ or_no_file (option_map (λ records. length records) o)
    → n ≡ length (or_none o)
there_are None n e = absurd (cc e)
there_are (Some x) n e = cc e

no_file : (o : Option (List Stored)) (fault : SpoolFault)
    → Err fault ≡ or_no_file (option_map (λ records. length records) o)
    → 0 ≡ length (or_none o)
no_file None fault e = refl
no_file (Some x) fault e = absurd (cc e)

pub returns-then-from-len : goal.returns-then-from-len
returns-then-from-len c =
    let s = c.self.inside in
    let count = length-parts_of s.shared.tables s.shared.spool s.lines.items in
    let past : length c.args.self.now ≤ c.args.customer =
    omega (arith, count, ap (λ (ps : List Part). length ps) c.self.view_is, s.lines.ok.0, c.self.invariant.lined) in
    sym (ap (λ (p : Part). length (records_in c.args.file p.customer.spool))
    (get_or_past c.args.self.now c.args.customer no_part past))

pub returns-in-Ok : goal.returns-in-Ok
returns-in-Ok c =
    let s = c.self.inside in
    let there : c.args.customer < length s.shared.tables.customers =
    omega (arith, s.lines.ok.0, c.self.invariant.lined) in
    there_are _ c.in-Ok.count (sym c.in-Ok.is ∙ c.records.ensures)
    ∙ ap (λ (p : Part). length (records_in c.args.file p.customer.spool))
    (sym (part-there s.shared.tables s.shared.spool s.lines.items c.args.customer there))
    ∙ ap (λ (ps : List Part). length (records_in c.args.file (part c.args.customer ps).customer.spool)) c.self.view_is

pub returns-in-Err : goal.returns-in-Err
returns-in-Err c =
    let s = c.self.inside in
    let there : c.args.customer < length s.shared.tables.customers =
    omega (arith, s.lines.ok.0, c.self.invariant.lined) in
    no_file _ c.in-Err.field-0 (sym c.in-Err.is ∙ c.records.ensures)
    ∙ ap (λ (p : Part). length (records_in c.args.file p.customer.spool))
    (sym (part-there s.shared.tables s.shared.spool s.lines.items c.args.customer there))
    ∙ ap (λ (ps : List Part). length (records_in c.args.file (part c.args.customer ps).customer.spool)) c.self.view_is
