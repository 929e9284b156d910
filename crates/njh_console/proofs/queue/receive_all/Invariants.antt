use Rattle.std.specs.Prelude.{◌≡◌, vec_capacity}
use Rattle.njh_console.specs.Seats.{IsReadFrom}
use Rattle.njh_console.proofs.SeatLaws.{EachTo}
use Rattle.njh_console.proofs.queue.receive_all.Given as goal

-- those so far are done
abbrev pub invariant-loop-place : goal.invariant-loop-place
invariant-loop-place g l = record {
  to : EachTo (IsReadFrom {V = g.row.V.Denot} g.V.Read.remaining) l.place l.fn.seats.items l.seats.items;
  capacity : vec_capacity l.seats ≡ vec_capacity l.fn.seats;
}
