use Rattle.std.specs.Prelude.{◌≡◌, vec_capacity}
use Rattle.njh_console.specs.Seats.{IsSentTo}
use Rattle.njh_console.proofs.SeatLaws.{EachTo}
use Rattle.njh_console.proofs.queue.send_all.Given as goal

-- those so far are done
abbrev pub invariant-loop-place : goal.invariant-loop-place
invariant-loop-place g l = record {
  to : EachTo (IsSentTo {V = g.row.V.Denot}) l.place l.fn.seats.items l.seats.items;
  capacity : vec_capacity l.seats ≡ vec_capacity l.fn.seats;
}
