use Rattle.std.proofs.Common.{◌≡◌, ◌∙◌, ◌<◌, ◌+◌, sym, ap, false, true, None, length, arith, rules}
use Rattle.njh_spool.specs.Spools.{spool_at}
use Rattle.njh_sched.specs.NextBlock.{next_served}
use Rattle.njh_sched.specs.code.Filling.{room_of}
use Rattle.njh_sched.proofs.TurnLaws.{enough, no_turns, turn_went_on, turn_stopped}
use Rattle.njh_sched.proofs.records.add_all_turns.Goals as goal

pub returns-then-not-add_turn-clause-source : goal.returns-then-not-add_turn-clause-source
returns-then-not-add_turn-clause-source g c goes =
    let no_room : c.add_turn.result ≡ false = grind arith in
    let less : room_of c.args.writer.now < c.args.writer.now.limit
    = omega (arith, c.text-some_room.ensures.within, ap length c.text-some_room.ensures.text) in
    enough goes c.args.writer.now.limit (room_of c.args.writer.now + 1) c.args.writer.now
    (g.L.Outgoing.outlet c.args.line.now)
    (spool_at c.args.customer c.args.spool.now) less (omega arith)
    ∙ c.loop-stream.invariant.source goes
    ∙ turn_stopped goes c.in-Some.stream c.add_turn.result c.loop-stream.writer c.add_turn.new.writer
    (g.L.Outgoing.outlet c.loop-stream.line) (g.L.Outgoing.outlet c.add_turn.new.line)
    (spool_at c.args.customer c.args.spool.now)
    (sym c.in-Some.ensures) no_room (rw c.loop-stream.invariant.spool at c.add_turn.ensures.candidate)

pub loop-stream-preserved : goal.loop-stream-preserved
loop-stream-preserved g c =
    let room : c.add_turn.result ≡ true = grind arith in
    record {
      source = λ goes. c.loop-stream.invariant.source goes
          ∙ turn_went_on goes c.in-Some.stream c.add_turn.result c.loop-stream.writer c.add_turn.new.writer
          (g.L.Outgoing.outlet c.loop-stream.line) (g.L.Outgoing.outlet c.add_turn.new.line)
          (spool_at c.args.customer c.args.spool.now)
          (sym c.in-Some.ensures) room (rw c.loop-stream.invariant.spool at c.add_turn.ensures.candidate)
          (c.add_turn.ensures.room room);
      rest = c.add_turn.ensures.rest ∙ c.loop-stream.invariant.rest;
      spool = c.add_turn.ensures.spool ∙ c.loop-stream.invariant.spool;
    }

pub returns-clause-source : goal.returns-clause-source
returns-clause-source g c goes =
    let none : next_served (g.L.Outgoing.outlet c.loop-stream.line) ≡ None = search rules in
    let less : room_of c.args.writer.now < c.args.writer.now.limit
    = omega (arith, c.text-some_room.ensures.within, ap length c.text-some_room.ensures.text) in
    enough goes c.args.writer.now.limit (room_of c.args.writer.now + 1) c.args.writer.now
    (g.L.Outgoing.outlet c.args.line.now)
    (spool_at c.args.customer c.args.spool.now) less (omega arith)
    ∙ c.loop-stream.invariant.source goes
    ∙ no_turns goes (room_of c.loop-stream.writer + 1) c.loop-stream.writer (g.L.Outgoing.outlet c.loop-stream.line)
    (spool_at c.args.customer c.args.spool.now) none
