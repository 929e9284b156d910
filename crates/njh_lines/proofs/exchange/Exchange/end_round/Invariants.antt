use Rattle.std.specs.Prelude.{◌≡◌, ℕ, ◌*◌, ◌<◌, ◌≤◌, length}
use Rattle.njh_turns.specs.Service.{AreStill}
use Rattle.njh_wire.specs.Tally.{IsTallied}
use Rattle.njh_lines.specs.Attention.{watch_at, IsMomentOf}
use Rattle.njh_lines.specs.Resting.{HaveRested}
use Rattle.njh_lines.specs.Wires.{AreMadeSo, IsDone}
use Rattle.njh_lines.proofs.exchange.Exchange.end_round.Given as goal

-- nothing passed on a wire, none failed less often, the lines are the same, of those so far none wants to be looked at
-- before the next moment and one then, what waited on them went out, and those that were looked at rest
abbrev pub invariant-loop-group : goal.invariant-loop-group
invariant-loop-group g l = record {
  still : AreStill IsTallied (λ wire. wire.failures) l.fn.wires l.wires;
  lines : l.self.lines ≡ l.fn.self.lines;
  waits : (p : ℕ) → p < 16 * l.group → p < length l.self.lines → l.next ≤ (watch_at l.self.watches p).moment;
  done : AreMadeSo (λ place s new. IsDone g.N.Connection.Connection.moved l.fn.self l.fn.hub place s new)
      (length l.fn.self.lines) 0 (16 * l.group) l.fn.self.watches l.fn.wires l.wires;
  now : l.self.now ≡ l.fn.self.now;
  rested : HaveRested 0 (16 * l.group) l.fn.self l.self l.wires;
  wanted : IsMomentOf (λ p. (p < 16 * l.group) × (p < length l.self.lines)) l.self.watches l.next;
}
