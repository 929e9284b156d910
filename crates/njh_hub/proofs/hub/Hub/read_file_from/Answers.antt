use Rattle.std.proofs.Common.{◌≡◌, ℕ, ◌<◌, ◌≤◌, drop, List, [], length, Option, Some, None, Ok, Err, ap, subst, sym}
use Rattle.std.proofs.Common.{◌∙◌, refl, arith}
use Rattle.std.proofs.lemmas.List.{get_or_past}
use Rattle.std.specs.Option.{option_map, ForSome}
use Rattle.njh_record.specs.Stored.{Stored}
use Rattle.njh_spool.specs.Spools.{or_no_file, records_numbered}
use Rattle.njh_spool.specs.declared.SpoolFault.{SpoolFault}
use Rattle.njh_stream.specs.SpoolFiles.{records_in}
use Rattle.njh_hub.specs.WholeHub.{Part, no_part, part}
use Rattle.njh_hub.proofs.PartsLaws.{length-parts_of, part-there}
use Rattle.njh_hub.proofs.hub.Hub.read_file_from.Goals as goal

abbrev rest_of : ℕ → Option (List Stored) → Option (List Stored)
rest_of n = option_map (λ records. drop n records)

abbrev or_none : Option (List Stored) → List Stored
or_none o = elim o [ Some records ↦ records | None ↦ [] ]

file_there : (o : Option (List Stored)) (records : List Stored) → Ok records ≡ or_no_file o → Some records ≡ o
file_there None records e = absurd (cc e)
file_there (Some x) records e = cc e

no_file : (o : Option (List Stored)) (fault : SpoolFault) → Err fault ≡ or_no_file o → None ≡ o
no_file None fault e = refl
no_file (Some x) fault e = absurd (cc e)

pub returns-then-from-len : goal.returns-then-from-len
returns-then-from-len c =
    let s = c.self.inside in
    let count = length-parts_of s.shared.tables s.shared.spool s.lines.items in
    let past : length c.args.self.now ≤ c.args.customer =
    omega (arith, count, ap (λ (ps : List Part). length ps) c.self.view_is, s.lines.ok.0, c.self.invariant.lined) in
    sym (ap (λ (p : Part). rest_of c.args.n (records_numbered c.args.file p.customer.spool))
    (get_or_past c.args.self.now c.args.customer no_part past))

pub returns-in-Ok : goal.returns-in-Ok
returns-in-Ok c =
    let s = c.self.inside in
    let there : c.args.customer < length s.shared.tables.customers =
    omega (arith, s.lines.ok.0, c.self.invariant.lined) in
    file_there _ c.in-Ok.reader (sym c.in-Ok.is ∙ c.read_from.ensures)
    ∙ ap (λ (p : Part). rest_of c.args.n (records_numbered c.args.file p.customer.spool))
    (sym (part-there s.shared.tables s.shared.spool s.lines.items c.args.customer there))
    ∙ ap (λ (ps : List Part). rest_of c.args.n
    (records_numbered c.args.file (part c.args.customer ps).customer.spool)) c.self.view_is

pub returns-in-Err : goal.returns-in-Err
returns-in-Err c =
    let s = c.self.inside in
    let there : c.args.customer < length s.shared.tables.customers =
    omega (arith, s.lines.ok.0, c.self.invariant.lined) in
    no_file _ c.in-Err.field-0 (sym c.in-Err.is ∙ c.read_from.ensures)
    ∙ ap (λ (p : Part). rest_of c.args.n (records_numbered c.args.file p.customer.spool))
    (sym (part-there s.shared.tables s.shared.spool s.lines.items c.args.customer there))
    ∙ ap (λ (ps : List Part). rest_of c.args.n
    (records_numbered c.args.file (part c.args.customer ps).customer.spool)) c.self.view_is

numbered : (n : ℕ) (o : Option (List Stored)) → n < length (or_none o) → ForSome o (λ records. n < length records)
numbered n None more = λ records is. absurd (cc is)
numbered n (Some x) more = λ records is. subst (λ (xs : List Stored). n < length xs) (cc is) more

pub read_from-requires-clause-within : goal.read_from-requires-clause-within
read_from-requires-clause-within c =
    let s = c.self.inside in
    let there : c.args.customer < length s.shared.tables.customers =
    omega (arith, s.lines.ok.0, c.self.invariant.lined) in
    let count =
    ap (λ (p : Part). length (records_in c.args.file p.customer.spool))
    (sym (part-there s.shared.tables s.shared.spool s.lines.items c.args.customer there))
    ∙ ap (λ (ps : List Part). length (records_in c.args.file (part c.args.customer ps).customer.spool))
    c.self.view_is in
    numbered c.args.n _ (omega (arith, c.requires, count))
