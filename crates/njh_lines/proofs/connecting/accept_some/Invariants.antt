use Rattle.std.specs.Prelude.{◌≡◌}
use Rattle.njh_lines.specs.Entrances.{AreAllowed}
use Rattle.njh_lines.proofs.connecting.accept_some.Given as goal

-- all that may have changed is who waits, how many were closed, and when a failure is told again
abbrev pub invariant-loop : goal.invariant-loop
invariant-loop g l = record {
  now : l.surroundings.now ≡ l.fn.surroundings.now;
  customers : l.surroundings.customers ≡ l.fn.surroundings.customers;
  address : g.N.Network.address_of l.listener ≡ g.N.Network.address_of l.fn.listener;
  label : l.label ≡ record l.fn.label { again = l.label.again };
  remembered : l.entrance.anteroom.remembered ≡ l.fn.entrance.anteroom.remembered;
  peer : l.entrance.peer ≡ l.fn.entrance.peer;
  from : l.entrance.from ≡ l.fn.entrance.from;
  allowed : AreAllowed l.fn.entrance → AreAllowed l.entrance;
}
