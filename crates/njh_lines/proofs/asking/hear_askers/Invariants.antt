use Rattle.std.specs.Prelude.{◌≡◌, ◌≤◌, IsTrue}
use Rattle.njh_wire.specs.Tally.{tally}
use Rattle.njh_lines.specs.Entrances.{AreAllowed}
use Rattle.njh_lines.proofs.asking.hear_askers.Given as goal

-- what was said of the wire, the entrance and the rest holds so far
abbrev pub invariant-loop : goal.invariant-loop
invariant-loop g l = record {
  counts : l.fn.wire.failures ≤ l.wire.failures;
  tally : tally l.wire ≡ tally l.fn.wire;
  clock : l.wire.clock ≡ l.fn.wire.clock;
  now : l.surroundings.now ≡ l.fn.surroundings.now;
  customers : l.surroundings.customers ≡ l.fn.surroundings.customers;
  from : l.entrance.from ≡ l.fn.entrance.from;
  allowed : AreAllowed l.fn.entrance → AreAllowed l.entrance;
  stopped : IsTrue l.is_stopped → l.wire ≡ l.fn.wire;
}
