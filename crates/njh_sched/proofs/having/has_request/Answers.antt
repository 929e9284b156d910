use Rattle.std.proofs.Common.{◌≡◌, ◌∙◌, refl, sym, subst, length, arith}
use Rattle.njh_spool.specs.Spools.{spool_at}
use Rattle.njh_stream.specs.Sending.{goes_by}
use Rattle.njh_table.specs.TableFile.{entry_of}
use Rattle.njh_sched.specs.code.FileCursor.{FileCursor, GoesOn, first_file}
use Rattle.njh_sched.specs.code.Having.{has_file_for}
use Rattle.njh_sched.proofs.CursorLaws.{again, from_first, stays}
use Rattle.njh_sched.proofs.HavingLaws.{file_for_is, found_stream, no_request, no_stream, passed_stream}
use Rattle.njh_sched.proofs.having.has_request.Goals as goal

pub returns-then-files-eq0 : goal.returns-then-files-eq0
returns-then-files-eq0 g c =
    let none : length (spool_at c.args.id.customer c.args.spool.now).whole ≡ 0 = omega (arith, c.files.ensures) in
    sym (no_request (goes_by (entry_of c.args.entry.now) c.args.id.number) (g.L.Outgoing.outlet c.args.line.now)
    (spool_at c.args.id.customer c.args.spool.now) none)

pub loop-place-init : goal.loop-place-init
loop-place-init g c = record {
  none = refl;
  cursor = subst (λ (x : FileCursor). GoesOn (first_file c.args.entry.now c.args.id) x c.args.spool.now)
      (sym c.new-cursor.ensures)
      (stays (first_file c.args.entry.now c.args.id) c.args.spool.now
      (from_first c.args.entry.now c.args.id c.args.spool.now c.requires));
}

pub returns-then-has_file_for : goal.returns-then-has_file_for
returns-then-has_file_for g c =
    sym (c.loop-place.invariant.none
    ∙ found_stream (has_file_for (goes_by (entry_of c.args.entry.now) c.args.id.number)
    (g.L.Outgoing.outlet c.args.line.now) (spool_at c.args.id.customer c.args.spool.now)) c.loop-place.place c.at.result
    c.loop-place-test.true c.at.ensures
    (sym (file_for_is c.args.entry.now c.args.id c.loop-place.cursor c.loop-place.invariant.cursor.line
    (g.L.Outgoing.outlet c.args.line.now) c.at.result c.has_file_for.result c.args.spool.now
    c.has_file_for.ensures.has) ∙ c.if-has_file_for.true))

pub loop-place-preserved : goal.loop-place-preserved
loop-place-preserved g c = record {
  none = c.loop-place.invariant.none
      ∙ passed_stream (has_file_for (goes_by (entry_of c.args.entry.now) c.args.id.number)
      (g.L.Outgoing.outlet c.args.line.now) (spool_at c.args.id.customer c.args.spool.now)) c.loop-place.place
      c.at.result c.loop-place-test.true c.at.ensures
      (sym (file_for_is c.args.entry.now c.args.id c.loop-place.cursor c.loop-place.invariant.cursor.line
      (g.L.Outgoing.outlet c.args.line.now) c.at.result c.has_file_for.result c.args.spool.now
      c.has_file_for.ensures.has) ∙ c.if-has_file_for.false);
  cursor = again (first_file c.args.entry.now c.args.id) c.loop-place.cursor c.loop-place.invariant.cursor.line
      c.has_file_for.new.cursor c.args.spool.now c.has_file_for.ensures.cursor;
}

pub returns : goal.returns
returns g c =
    let done : c.loop-place.place ≡ 8 = omega arith in
    sym (c.loop-place.invariant.none
    ∙ no_stream (has_file_for (goes_by (entry_of c.args.entry.now) c.args.id.number)
    (g.L.Outgoing.outlet c.args.line.now) (spool_at c.args.id.customer c.args.spool.now)) c.loop-place.place done)
