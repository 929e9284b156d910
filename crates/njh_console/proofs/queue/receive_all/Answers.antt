use Rattle.std.proofs.Common.{refl, rules}
use Rattle.njh_console.specs.Seats.{IsReadFrom}
use Rattle.njh_console.proofs.SeatLaws.{each_to_more, each_to_none, nothing_came}
use Rattle.njh_console.proofs.queue.receive_all.Goals as goal

pub loop-place-init : goal.loop-place-init
loop-place-init g c = record {
  to = each_to_none (IsReadFrom {V = g.row.V.Denot} g.V.Read.remaining) c.args.seats.now.items (nothing_came {V = g.row.V.Denot} g.V.Read.remaining);
  capacity = refl;
}

pub loop-place-preserved : goal.loop-place-preserved
loop-place-preserved g c = record {
  to = each_to_more (IsReadFrom {V = g.row.V.Denot} g.V.Read.remaining) c.loop-place.place c.args.seats.now.items
      c.loop-place.seats.items c.index_mut.result.now c.receive.new.self (search rules) c.index_mut.ensures.value
      c.receive.ensures c.loop-place.invariant.to;
  capacity = search rules;
}

pub returns-clause-read : goal.returns-clause-read
returns-clause-read g c = c.loop-place.invariant.to.are
