use Rattle.std.proofs.Common.{◌≡◌, ◌∙◌, refl, sym, ap, subst, Some, false, true, length, arith}
use Rattle.njh_spool.specs.Spools.{spool_at}
use Rattle.njh_stream.specs.Sending.{goes_by}
use Rattle.njh_table.specs.TableFile.{entry_of}
use Rattle.njh_sched.specs.NextBlock.{StreamRequest, filling, streams}
use Rattle.njh_sched.specs.code.FileCursor.{FileCursor, GoesOn, first_file}
use Rattle.njh_sched.proofs.CursorLaws.{again, from_first, stays}
use Rattle.njh_sched.proofs.RequestLaws.{no_files, source_is, spool_is}
use Rattle.njh_sched.proofs.SourceLists.{no_streams, stream_at, stream_stopped, stream_went_on, streams_done}
use Rattle.njh_sched.proofs.SpoolLaws.{moved_on, unmoved}
use Rattle.njh_sched.proofs.requests.add_requests.Goals as goal

pub returns-then-files-eq0-clause-source : goal.returns-then-files-eq0-clause-source
returns-then-files-eq0-clause-source g c =
    let none : length (spool_at c.args.id.customer c.args.spool.now).whole ≡ 0 = omega (arith, c.files.ensures) in
    no_files (goes_by (entry_of c.args.entry.now) c.args.id.number) c.args.writer.now
    (g.L.Outgoing.outlet c.args.line.now)
    (spool_at c.args.id.customer c.args.spool.now) streams none

pub loop-place-init : goal.loop-place-init
loop-place-init g c = record {
  source = refl;
  rest = refl;
  spool = unmoved c.args.id.customer c.args.spool.now;
  cursor = subst (λ (x : FileCursor). GoesOn (first_file c.args.entry.now c.args.id) x c.args.spool.now)
      (sym c.new-cursor.ensures)
      (stays (first_file c.args.entry.now c.args.id) c.args.spool.now
      (from_first c.args.entry.now c.args.id c.args.spool.now c.requires));
}

pub returns-then-not-add_request-clause-source : goal.returns-then-not-add_request-clause-source
returns-then-not-add_request-clause-source g c =
    let no_room : c.add_request.result ≡ false = grind arith in
    c.loop-place.invariant.source
    ∙ stream_stopped (goes_by (entry_of c.args.entry.now) c.args.id.number) StreamRequest streams c.loop-place.place
    c.at.result
    c.add_request.result
    (filling c.loop-place.writer (g.L.Outgoing.outlet c.loop-place.line)
    (spool_at c.args.id.customer c.loop-place.spool))
    c.add_request.new.writer (g.L.Outgoing.outlet c.add_request.new.line)
    (spool_at c.args.id.customer c.add_request.new.spool)
    (stream_at c.loop-place.place c.loop-place-test.true ∙ ap Some (sym c.at.ensures)) no_room
    (source_is c.args.entry.now c.args.id c.loop-place.cursor c.loop-place.invariant.cursor.line
    (StreamRequest c.at.result)
    c.add_request.result c.loop-place.writer c.add_request.new.writer (g.L.Outgoing.outlet c.loop-place.line)
    (g.L.Outgoing.outlet c.add_request.new.line) c.loop-place.spool c.add_request.new.spool
    c.add_request.ensures.source)

pub returns-then-not-add_request-clause-spool : goal.returns-then-not-add_request-clause-spool
returns-then-not-add_request-clause-spool g c =
    moved_on c.args.id.customer c.args.spool.now c.loop-place.spool c.add_request.new.spool c.loop-place.invariant.spool
    (spool_is c.args.entry.now c.args.id c.loop-place.cursor c.loop-place.invariant.cursor.line c.loop-place.spool
    c.add_request.new.spool c.add_request.ensures.spool)

pub loop-place-preserved : goal.loop-place-preserved
loop-place-preserved g c =
    let room : c.add_request.result ≡ true = grind arith in
    record {
      source = c.loop-place.invariant.source
          ∙ stream_went_on (goes_by (entry_of c.args.entry.now) c.args.id.number) StreamRequest streams
          c.loop-place.place c.at.result
          c.add_request.result
          (filling c.loop-place.writer (g.L.Outgoing.outlet c.loop-place.line)
          (spool_at c.args.id.customer c.loop-place.spool))
          c.add_request.new.writer (g.L.Outgoing.outlet c.add_request.new.line)
          (spool_at c.args.id.customer c.add_request.new.spool)
          (stream_at c.loop-place.place c.loop-place-test.true ∙ ap Some (sym c.at.ensures)) room
          (source_is c.args.entry.now c.args.id c.loop-place.cursor c.loop-place.invariant.cursor.line
          (StreamRequest c.at.result)
          c.add_request.result c.loop-place.writer c.add_request.new.writer (g.L.Outgoing.outlet c.loop-place.line)
          (g.L.Outgoing.outlet c.add_request.new.line) c.loop-place.spool c.add_request.new.spool
          c.add_request.ensures.source);
      rest = c.add_request.ensures.rest ∙ c.loop-place.invariant.rest;
      spool = moved_on c.args.id.customer c.args.spool.now c.loop-place.spool c.add_request.new.spool
          c.loop-place.invariant.spool
          (spool_is c.args.entry.now c.args.id c.loop-place.cursor c.loop-place.invariant.cursor.line c.loop-place.spool
          c.add_request.new.spool c.add_request.ensures.spool);
      cursor = again (first_file c.args.entry.now c.args.id) c.loop-place.cursor c.loop-place.invariant.cursor.line
          c.add_request.new.cursor c.add_request.new.spool (c.add_request.ensures.cursor room);
    }

pub returns-clause-source : goal.returns-clause-source
returns-clause-source g c =
    let done : c.loop-place.place ≡ 8 = omega arith in
    c.loop-place.invariant.source
    ∙ streams_done (goes_by (entry_of c.args.entry.now) c.args.id.number) StreamRequest streams c.loop-place.place
    (filling c.loop-place.writer (g.L.Outgoing.outlet c.loop-place.line)
    (spool_at c.args.id.customer c.loop-place.spool))
    (no_streams c.loop-place.place done)
