use Rattle.std.specs.Prelude.{◌≡◌, ◌*◌, length, min}
use Rattle.njh_turns.specs.Service.{AreStill}
use Rattle.njh_wire.specs.Tally.{IsTallied}
use Rattle.njh_lines.specs.Watching.{HaveBegun}
use Rattle.njh_lines.specs.Wires.{AreHeld}
use Rattle.njh_lines.proofs.groups.begin_groups.Given as goal

-- nothing passed on a wire, none failed less often, the lines are the same, and those so far have begun
abbrev pub invariant-loop-group : goal.invariant-loop-group
invariant-loop-group g l = record {
  still : AreStill IsTallied (λ wire. wire.failures) l.fn.wires l.wires;
  lines : l.exchange.lines ≡ l.fn.exchange.lines;
  now : l.exchange.now ≡ l.fn.exchange.now;
  customers : l.exchange.customers ≡ l.fn.exchange.customers;
  begun : HaveBegun l.fn.exchange.now 0 (min (16 * l.group) (length l.fn.wires)) l.fn.exchange.ready l.exchange.ready
      l.fn.exchange.watches l.exchange.watches;
  held : AreHeld 0 (16 * l.group) l.fn.exchange.lines l.exchange.watches l.fn.wires l.wires;
}
