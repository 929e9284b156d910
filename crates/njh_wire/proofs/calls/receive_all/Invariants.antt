use Rattle.std.proofs.Common.{◌≡◌, length, ◌-◌, ◌≤◌, [], take}
use Rattle.njh_wire.proofs.calls.receive_all.Given as goal

-- what came so far stands at the front
abbrev pub invariant-loop-count : goal.invariant-loop-count
invariant-loop-count g l =
    g.C.Connection.moved l.fn.connection l.connection (take l.count l.into) [] × (l.count ≤ length l.into)
    × (g.C.Connection.place_of l.connection ≡ g.C.Connection.place_of l.fn.connection)

abbrev pub decreases-loop-count : goal.decreases-loop-count
decreases-loop-count g l = length l.initial.into - l.count
