use Rattle.std.proofs.Common.{◌≡◌, length, ◌-◌, ◌≤◌, [], take}
use Rattle.std.specs.Prelude.{All}
use Rattle.njh_wire.specs.OneFrame.{EndsNone}
use Rattle.njh_wire.proofs.calls.receive_one.Given as goal

-- what came so far stands at the front, and ends nothing
abbrev pub invariant-loop-count : goal.invariant-loop-count
invariant-loop-count g l =
    g.C.Connection.moved l.fn.connection l.connection (take l.count l.into) [] × (l.count ≤ l.room)
    × (l.room ≤ length l.into) × (l.room ≤ 256) × (length l.into ≡ length l.fn.into)
    × All EndsNone (take l.count l.into)
    × (g.C.Connection.place_of l.connection ≡ g.C.Connection.place_of l.fn.connection)

abbrev pub decreases-loop-count : goal.decreases-loop-count
decreases-loop-count g l = l.room - l.count
