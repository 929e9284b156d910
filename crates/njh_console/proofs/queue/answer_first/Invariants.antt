use Rattle.std.proofs.Common.{◌≡◌, length, vec_capacity}
use Rattle.njh_console.proofs.TurnLaws.{LookedTo}
use Rattle.njh_console.proofs.queue.answer_first.Given as goal

-- those so far were looked at, and nobody was answered
abbrev pub invariant-loop-place : goal.invariant-loop-place
invariant-loop-place g l = record {
  to : LookedTo l.place l.fn.seats.items l.seats.items;
  desk : l.desk ≡ l.fn.desk;
  many : length l.seats.items ≡ length l.fn.seats.items;
  capacity : vec_capacity l.seats ≡ vec_capacity l.fn.seats;
}
