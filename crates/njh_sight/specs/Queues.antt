-- Since when nodal messages wait on a line.
use Rattle.std.specs.Prelude.{ℕ, ◌%◌, Option, None, if◌then◌else◌, nat_lt, slice_get}
use Rattle.njh_sight.specs.declared.queue.Queue.{Queue}

-- the moment at which the message of a number was first seen to wait, if it was: the last 64 have places of their own
abbrev pub moment_in : Queue → ℕ → Option ℕ
moment_in queue number = if nat_lt number queue.next then slice_get queue.moments (number % 64) else None
