use Rattle.std.proofs.Common.{refl, rules}
use Rattle.njh_console.specs.Seats.{IsSentTo}
use Rattle.njh_console.proofs.SeatLaws.{each_to_more, each_to_none, nothing_went}
use Rattle.njh_console.proofs.queue.send_all.Goals as goal

pub loop-place-init : goal.loop-place-init
loop-place-init g c = record {
  to = each_to_none (IsSentTo {V = g.row.V.Denot}) c.args.seats.now.items (nothing_went {V = g.row.V.Denot});
  capacity = refl;
}

pub loop-place-preserved : goal.loop-place-preserved
loop-place-preserved g c = record {
  to = each_to_more (IsSentTo {V = g.row.V.Denot}) c.loop-place.place c.args.seats.now.items
      c.loop-place.seats.items c.index_mut.result.now c.send.new.self (search rules) c.index_mut.ensures.value
      c.send.ensures c.loop-place.invariant.to;
  capacity = search rules;
}

pub returns-clause-sent : goal.returns-clause-sent
returns-clause-sent g c = c.loop-place.invariant.to.are
