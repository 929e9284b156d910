use Rattle.std.proofs.Common.{◌≡◌, ◌∙◌, sym, ap, Some, false, true, arith}
use Rattle.njh_sched.specs.NextBlock.{StreamAbort, filling, streams}
use Rattle.njh_sched.proofs.SourceLists.{stream_at, no_streams, stream_went_on, stream_stopped, streams_done}
use Rattle.njh_sched.proofs.aborts.add_aborts.Goals as goal

pub returns-then-not-add_abort-clause-source : goal.returns-then-not-add_abort-clause-source
returns-then-not-add_abort-clause-source g c goes s =
    let no_room : c.add_abort.result ≡ false = grind arith in
    c.loop-place.invariant.source goes s
    ∙ stream_stopped goes StreamAbort streams c.loop-place.place c.at.result c.add_abort.result
    (filling c.loop-place.writer (g.L.Outgoing.outlet c.loop-place.line) s) c.add_abort.new.writer
    (g.L.Outgoing.outlet c.add_abort.new.line) s
    (stream_at c.loop-place.place c.loop-place-test.true ∙ ap Some (sym c.at.ensures)) no_room
    (c.add_abort.ensures.source goes s)

pub loop-place-preserved : goal.loop-place-preserved
loop-place-preserved g c =
    let room : c.add_abort.result ≡ true = grind arith in
    record {
      source = λ goes s. c.loop-place.invariant.source goes s
          ∙ stream_went_on goes StreamAbort streams c.loop-place.place c.at.result c.add_abort.result
          (filling c.loop-place.writer (g.L.Outgoing.outlet c.loop-place.line) s) c.add_abort.new.writer
          (g.L.Outgoing.outlet c.add_abort.new.line) s
          (stream_at c.loop-place.place c.loop-place-test.true ∙ ap Some (sym c.at.ensures)) room
          (c.add_abort.ensures.source goes s);
      rest = c.add_abort.ensures.rest ∙ c.loop-place.invariant.rest;
    }

pub returns-clause-source : goal.returns-clause-source
returns-clause-source g c goes s =
    let done : c.loop-place.place ≡ 8 = omega arith in
    c.loop-place.invariant.source goes s
    ∙ streams_done goes StreamAbort streams c.loop-place.place
    (filling c.loop-place.writer (g.L.Outgoing.outlet c.loop-place.line) s)
    (no_streams c.loop-place.place done)
