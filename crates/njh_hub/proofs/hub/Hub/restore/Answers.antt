use Rattle.std.proofs.Common.{◌≡◌, ◌<◌, ◌∙◌, true, false, List, MatchOption, Result, Ok, Err, length, ap, slice_set}
use Rattle.std.proofs.Common.{subst, sym, arith}
use Rattle.njh_spool.specs.Restoring.{kept, restore_fault}
use Rattle.njh_spool.specs.declared.restoring.fault.RestoreFault.{RestoreFault}
use Rattle.njh_spool.specs.CustomerSpool.{CustomerSpool}
use Rattle.njh_spool.specs.Spools as spools
use Rattle.njh_hub.specs.Restored.{part_with_file}
use Rattle.njh_hub.specs.WholeHub.{Part, part}
use Rattle.njh_hub.proofs.PartsLaws.{hub-moved, length-parts_of}
use Rattle.njh_hub.proofs.RestoredLaws.{Restores, parts-restored, restored-headers, restored-range, restores}
use Rattle.njh_hub.proofs.RestoredLaws.{spool-there}
use Rattle.njh_hub.proofs.hub.Hub.restore.Given.{Over}
use Rattle.njh_hub.proofs.hub.Hub.restore.Goals.{After-hold_unrouted}
use Rattle.njh_hub.proofs.hub.Hub.restore.Goals as goal

pub restore-requires : goal.restore-requires
restore-requires g c =
    let s = c.self.inside in
    let count = length-parts_of s.shared.tables s.shared.spool s.lines.items in
    omega (arith, c.requires, count, ap (λ (ps : List Part). length ps) c.self.view_is, c.self.invariant.spooled)

pub customer-requires : goal.customer-requires
customer-requires g c =
    let s = c.self.inside in
    let count = length-parts_of s.shared.tables s.shared.spool s.lines.items in
    omega (arith, c.requires, count, ap (λ (ps : List Part). length ps) c.self.view_is)

pub hold_unrouted-requires : goal.hold_unrouted-requires
hold_unrouted-requires g c =
    let s = c.self.inside in
    let count = length-parts_of s.shared.tables s.shared.spool s.lines.items in
    restored-range s.shared.spool c.restore.new.spool c.args.customer
    (kept c.args.kind c.args.held (g.F.FileRecords.records c.args.file.now))
    c.in-Ok.ensures.ok
    (omega (arith, c.requires, count, ap (λ (ps : List Part). length ps) c.self.view_is, c.self.invariant.spooled))

pub returns-in-Err-clause-fault : goal.returns-in-Err-clause-fault
returns-in-Err-clause-fault g c =
    let s = c.self.inside in
    let f = kept c.args.kind c.args.held (g.F.FileRecords.records c.args.file.now) in
    let count = length-parts_of s.shared.tables s.shared.spool s.lines.items in
    let there : c.args.customer < length s.shared.tables.customers =
    omega (arith, c.requires, count, ap (λ (ps : List Part). length ps) c.self.view_is) in
    let seen : (part c.args.customer c.args.self.now).customer.spool ≡ spools.spool_at c.args.customer s.shared.spool =
    sym (ap (λ (ps : List Part). (part c.args.customer ps).customer.spool) c.self.view_is)
    ∙ spool-there s.shared.tables s.shared.spool s.lines.items c.args.customer there in
    let E : Result (Unit {0}) RestoreFault = Err c.in-Err.fault in
    subst (λ (x : CustomerSpool). MatchOption (restore_fault f x) (false ≡ true) (λ fault. E ≡ Err fault)) (sym seen)
    c.in-Err.ensures.fault

-- ---- where it is put back

abbrev restored : (g : Over) (c : After-hold_unrouted g)
    → Restores c.self.inside.shared.tables c.self.inside.shared.spool c.self.inside.lines.items
    c.args.customer (kept c.args.kind c.args.held (g.F.FileRecords.records c.args.file.now)) c.restore.new.spool
    c.hold_unrouted.new.spool
    c.customer.result.now
restored g c =
    let s = c.self.inside in
    let f = kept c.args.kind c.args.held (g.F.FileRecords.records c.args.file.now) in
    let count = length-parts_of s.shared.tables s.shared.spool s.lines.items in
    record {
      hub = c.self.invariant;
      there = omega (arith, c.requires, count, ap (λ (ps : List Part). length ps) c.self.view_is);
      is_entry = c.customer.ensures;
      restored = c.in-Ok.ensures.ok;
      held = c.hold_unrouted.ensures;
      reads = restored-headers f (spools.spool_at c.args.customer s.shared.spool) c.restore.result c.in-Ok.field-0
          c.restore.ensures.fault c.in-Ok.is;
    }

pub invariant_of-self-2 : goal.invariant_of-self-2
invariant_of-self-2 g c = hub-moved (restores (restored g c))

pub returns-clause-hub : goal.returns-clause-hub
returns-clause-hub g c =
    let f = kept c.args.kind c.args.held (g.F.FileRecords.records c.args.file.now) in
    parts-restored (restored g c)
    ∙ ap (λ (ps : List Part). slice_set ps c.args.customer (part_with_file f (part c.args.customer ps))) c.self.view_is

pub returns-clause-fault : goal.returns-clause-fault
returns-clause-fault g c =
    let s = c.self.inside in
    let f = kept c.args.kind c.args.held (g.F.FileRecords.records c.args.file.now) in
    let count = length-parts_of s.shared.tables s.shared.spool s.lines.items in
    let there : c.args.customer < length s.shared.tables.customers =
    omega (arith, c.requires, count, ap (λ (ps : List Part). length ps) c.self.view_is) in
    let seen : (part c.args.customer c.args.self.now).customer.spool ≡ spools.spool_at c.args.customer s.shared.spool =
    sym (ap (λ (ps : List Part). (part c.args.customer ps).customer.spool) c.self.view_is)
    ∙ spool-there s.shared.tables s.shared.spool s.lines.items c.args.customer there in
    let D : Result (Unit {0}) RestoreFault = Ok tt in
    subst (λ (x : CustomerSpool). MatchOption (restore_fault f x) (true ≡ true) (λ fault. D ≡ Err fault)) (sym seen)
    c.in-Ok.ensures.fault
