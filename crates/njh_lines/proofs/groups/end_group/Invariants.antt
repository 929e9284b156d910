use Rattle.std.specs.Prelude.{◌≡◌, ◌≤◌, length}
use Rattle.njh_turns.specs.Service.{AreStill}
use Rattle.njh_wire.specs.Tally.{IsTallied}
use Rattle.njh_lines.specs.Resting.{HaveRested}
use Rattle.njh_lines.specs.Wires.{AreMadeSo, IsDone}
use Rattle.njh_lines.proofs.groups.end_group.Given as goal

-- nothing passed on a wire, none failed less often, the lines are the same, what waited on those so far went out, and
-- those that were looked at rest
abbrev pub invariant-loop-place : goal.invariant-loop-place
invariant-loop-place g l = record {
  still : AreStill IsTallied (λ wire. wire.failures) l.fn.wires l.wires;
  lines : l.exchange.lines ≡ l.fn.exchange.lines;
  done : AreMadeSo (λ place s new. IsDone g.N.Connection.Connection.moved l.fn.exchange l.fn.hub place s new)
      (length l.fn.exchange.lines) l.initial.place l.place l.fn.exchange.watches l.fn.wires l.wires;
  now : l.exchange.now ≡ l.fn.exchange.now;
  rested : HaveRested l.initial.place l.place l.fn.exchange l.exchange l.wires;
  before : l.place ≤ l.end;
}
