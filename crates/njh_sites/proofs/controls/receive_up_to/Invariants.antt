use Rattle.std.proofs.Common.{◌≡◌, ◌-◌, ◌≤◌, [], length}
use Rattle.njh_sites.proofs.controls.receive_up_to.Given as goal

-- these bytes came so far
abbrev pub invariant-loop-connection : goal.invariant-loop-connection
invariant-loop-connection g l = (g.C.Connection.moved l.fn.connection l.connection l.bytes.items [])
    × ((length l.bytes.items ≤ l.most)
    × (g.C.Connection.place_of l.connection ≡ g.C.Connection.place_of l.fn.connection))

abbrev pub decreases-loop-connection : goal.decreases-loop-connection
decreases-loop-connection g l = l.most - length l.bytes.items
