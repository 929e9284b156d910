use Rattle.std.proofs.Common.{◌≡◌}
use Rattle.njh_wire.proofs.DepartureLaws.{Drops}
use Rattle.njh_wire.proofs.departure.drain.Given as goal

-- what came so far is dropped
abbrev pub invariant-loop : goal.invariant-loop
invariant-loop g l =
    Drops g.C.Connection.moved l.fn.connection l.connection
    × (g.C.Connection.place_of l.connection ≡ g.C.Connection.place_of l.fn.connection)
