use Rattle.std.proofs.Common.{Bool, slice_set, sym, ap, ◌∙◌}
use Rattle.njh_spool.specs.Spools.{spool_at}
use Rattle.njh_spool.specs.Restoring.{kept, with_restored}
use Rattle.njh_spool.proofs.RestoringLaws.{finished, had_room, held_back}
use Rattle.njh_spool.proofs.restoring.restore.Goals as goal

pub returns-then-held-clause-ok : goal.returns-then-held-clause-ok
returns-then-held-clause-ok g c =
    let rs = g.F.FileRecords.records c.args.file.now in
    let s = spool_at c.args.customer c.args.spool.now in
    let room = had_room rs s c.begin_whole.result c.in_ok-id.id c.begin_whole.ensures.fault c.in_ok-id.was in
    let whole =
    finished c.args.customer c.args.kind rs c.args.spool.now c.requires room c.in_ok-id.id c.in_ok-id.ensures.number
    c.begin_whole.new.spool c.finish.new.self c.in_ok-id.ensures.ok c.finish.ensures.after in
    held_back c.args.customer c.args.kind rs c.args.spool.now c.requires room c.in_ok-id.id c.in_ok-id.ensures.number
    c.finish.new.self
    c.set_state.new.self whole c.set_state.ensures.after
    ∙ ap (λ (held : Bool). slice_set c.args.spool.now c.args.customer (with_restored (kept c.args.kind held rs) s))
    (sym c.if-held.true)

pub returns-else-held-clause-ok : goal.returns-else-held-clause-ok
returns-else-held-clause-ok g c =
    let rs = g.F.FileRecords.records c.args.file.now in
    let s = spool_at c.args.customer c.args.spool.now in
    let room = had_room rs s c.begin_whole.result c.in_ok-id.id c.begin_whole.ensures.fault c.in_ok-id.was in
    finished c.args.customer c.args.kind rs c.args.spool.now c.requires room c.in_ok-id.id c.in_ok-id.ensures.number
    c.begin_whole.new.spool c.finish.new.self c.in_ok-id.ensures.ok c.finish.ensures.after
    ∙ ap (λ (held : Bool). slice_set c.args.spool.now c.args.customer (with_restored (kept c.args.kind held rs) s))
    (sym c.if-held.false)
