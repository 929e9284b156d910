use Rattle.std.proofs.Common.{◌≡◌, Some, sym, ap, ◌∙◌, arith}
use Rattle.std.specs.Prelude.{slice_get}
use Rattle.njh_record.specs.Stored.{Stored}
use Rattle.njh_spool.proofs.AppendAllLaws.{at_start, at_end, within_at_end, still_range, one_more, refused, on_err}
use Rattle.njh_spool.proofs.AppendAllLaws.{on_ok}
use Rattle.njh_spool.proofs.restoring.append_all.Goals as goal

pub loop-n-init : goal.loop-n-init
loop-n-init g c = at_start c.args.customer c.args.id (g.F.FileRecords.records c.args.file.now) c.args.spool.now

pub append-requires-clause-range : goal.append-requires-clause-range
append-requires-clause-range g c =
    still_range c.args.customer c.args.id (g.F.FileRecords.records c.args.file.now) c.args.spool.now c.loop-n.n
    c.loop-n.spool
    c.requires.range c.loop-n.invariant

pub returns-then-is_err-clause-part : goal.returns-then-is_err-clause-part
returns-then-is_err-clause-part g c =
    let rs = g.F.FileRecords.records c.args.file.now in
    let r : Stored = record { srcb = c.copy_to-srcb.result; bytes = c.deref.result.now } in
    let at : slice_get rs c.loop-n.n ≡ Some r =
    c.copy_to-srcb.ensures
    ∙ ap (λ bytes. Some (record { srcb = c.copy_to-srcb.result; bytes = bytes })) (sym c.deref.ensures.0) in
    let failed = sym c.is_err.ensures.value ∙ c.if-is_err.true in (
      c.loop-n.n,
      on_err c.append.result failed c.append.ensures.err ∙ c.loop-n.invariant,
      refused c.args.customer c.args.id rs c.args.spool.now c.loop-n.n c.loop-n.spool c.requires.range
          c.loop-n.invariant r at
          c.append.result c.requires.there c.append.ensures.fault failed,
    )

pub loop-n-preserved : goal.loop-n-preserved
loop-n-preserved g c =
    let rs = g.F.FileRecords.records c.args.file.now in
    let r : Stored = record { srcb = c.copy_to-srcb.result; bytes = c.deref.result.now } in
    let at : slice_get rs c.loop-n.n ≡ Some r =
    c.copy_to-srcb.ensures
    ∙ ap (λ bytes. Some (record { srcb = c.copy_to-srcb.result; bytes = bytes })) (sym c.deref.ensures.0) in
    one_more c.args.customer c.args.id rs c.args.spool.now c.loop-n.n c.loop-n.spool c.requires.range c.loop-n.invariant
    r at
    c.append.new.self (on_ok c.append.result (sym c.is_err.ensures.value ∙ c.if-is_err.false) c.append.ensures.ok)

pub quota_holds-requires : goal.quota_holds-requires
quota_holds-requires g c =
    still_range c.args.customer c.args.id (g.F.FileRecords.records c.args.file.now) c.args.spool.now c.loop-n.n
    c.loop-n.spool
    c.requires.range c.loop-n.invariant

pub returns-clause-all : goal.returns-clause-all
returns-clause-all g c =
    at_end c.args.customer c.args.id (g.F.FileRecords.records c.args.file.now) c.args.spool.now c.loop-n.n
    c.loop-n.spool
    (omega (arith, c.loop-n.auto.n-end, c.loop-n-test.false, c.count-n-end.ensures)) c.loop-n.invariant

pub returns-clause-within : goal.returns-clause-within
returns-clause-within g c =
    within_at_end c.args.customer c.args.id (g.F.FileRecords.records c.args.file.now) c.args.spool.now c.loop-n.n
    c.loop-n.spool
    c.requires.range (omega (arith, c.loop-n.auto.n-end, c.loop-n-test.false, c.count-n-end.ensures)) c.loop-n.invariant
    c.quota_holds.ensures.blocks
