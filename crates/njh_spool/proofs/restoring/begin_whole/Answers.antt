use Rattle.std.proofs.Common.{refl, ap, Err}
use Rattle.njh_spool.specs.Spools.{spool_at}
use Rattle.njh_spool.specs.declared.restoring.fault.RestoreFault.TheVariants.{QuotaOver}
use Rattle.njh_spool.specs.Restoring.{limits_fault}
use Rattle.njh_spool.specs.code.Growing.{limit_of}
use Rattle.njh_spool.proofs.RestoringLaws.{begin_refused, dropped, fits, has_room, is_whole, match_none, match_some}
use Rattle.njh_spool.proofs.RestoringLaws.{over, there}
use Rattle.njh_spool.proofs.restoring.begin_whole.Goals as goal

pub returns-in-Err-clause-fault : goal.returns-in-Err-clause-fault
returns-in-Err-clause-fault g c =
    let rs = g.F.FileRecords.records c.args.file.now in
    let s = spool_at c.args.customer c.args.spool.now in
    match_some _ _ (limits_fault rs s) (limit_of c.in-Err.fault)
    (begin_refused rs s c.begin.result c.in-Err.fault c.requires.some c.begin.ensures.fault c.in-Err.is)
    (ap Err c.limit_of.ensures)

pub append_all-requires-clause-there : goal.append_all-requires-clause-there
append_all-requires-clause-there g c =
    let s = spool_at c.args.customer c.args.spool.now in
    let room = has_room s c.begin.result c.in-Ok.id c.begin.ensures.fault c.in-Ok.is in
    there c.args.customer c.args.kind (g.F.FileRecords.records c.args.file.now) c.args.spool.now c.requires.range room
    c.in-Ok.id c.in-Ok.ensures.number c.begin.new.self c.in-Ok.ensures.ok

pub returns-then-append_all-clause-fault : goal.returns-then-append_all-clause-fault
returns-then-append_all-clause-fault g c =
    let rs = g.F.FileRecords.records c.args.file.now in
    let s = spool_at c.args.customer c.args.spool.now in
    let room = has_room s c.begin.result c.in-Ok.id c.begin.ensures.fault c.in-Ok.is in
    match_none _ _ (limits_fault rs s)
    (fits c.args.customer c.args.kind rs c.args.spool.now c.requires.range room
    c.in-Ok.id c.in-Ok.ensures.number c.begin.new.self c.in-Ok.ensures.ok c.if-append_all.ensures.within)
    refl

pub returns-then-append_all-clause-ok : goal.returns-then-append_all-clause-ok
returns-then-append_all-clause-ok g c =
    let rs = g.F.FileRecords.records c.args.file.now in
    let s = spool_at c.args.customer c.args.spool.now in
    let room = has_room s c.begin.result c.in-Ok.id c.begin.ensures.fault c.in-Ok.is in
    is_whole c.args.customer c.args.kind rs c.args.spool.now c.requires.range room
    c.in-Ok.id c.in-Ok.ensures.number c.begin.new.self c.in-Ok.ensures.ok c.append_all.new.spool
    c.if-append_all.ensures.all

pub returns-clause-fault : goal.returns-clause-fault
returns-clause-fault g c =
    let rs = g.F.FileRecords.records c.args.file.now in
    let s = spool_at c.args.customer c.args.spool.now in
    let room = has_room s c.begin.result c.in-Ok.id c.begin.ensures.fault c.in-Ok.is in
    match_some _ _ (limits_fault rs s) QuotaOver
    (over c.args.customer c.args.kind rs c.args.spool.now c.requires.range room
    c.in-Ok.id c.in-Ok.ensures.number c.begin.new.self c.in-Ok.ensures.ok c.append_all.new.spool
    c.if-append_all.ensures.part)
    refl

pub returns-clause-err : goal.returns-clause-err
returns-clause-err g c =
    let rs = g.F.FileRecords.records c.args.file.now in
    let s = spool_at c.args.customer c.args.spool.now in
    let room = has_room s c.begin.result c.in-Ok.id c.begin.ensures.fault c.in-Ok.is in
    dropped c.args.customer c.args.kind rs c.args.spool.now c.requires.range room
    c.in-Ok.id c.in-Ok.ensures.number c.begin.new.self c.in-Ok.ensures.ok c.append_all.new.spool c.abandon.new.self
    c.if-append_all.ensures.part c.abandon.ensures.after
