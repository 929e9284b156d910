use Rattle.std.specs.Prelude.{◌≡◌}
use Rattle.njh_lines.proofs.telling.tell_coming.Given as goal

-- the time and the customers are the same
abbrev pub invariant-loop : goal.invariant-loop
invariant-loop g l = record {
  now : l.surroundings.now ≡ l.fn.surroundings.now;
  customers : l.surroundings.customers ≡ l.fn.surroundings.customers;
}
