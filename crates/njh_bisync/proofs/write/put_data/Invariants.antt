use Rattle.std.proofs.Common.{◌≡◌, ◌+◌, ◌≤◌, ◌++◌, length, vec_len, vec_capacity}
use Rattle.std.specs.Prelude.{flat_map}
use Rattle.njh_bisync.specs.Written.{bytes_of_data}
use Rattle.njh_bisync.proofs.write.put_data.Given as goal

-- With what is still to come the items are those of the end, and there is room for it.
abbrev pub invariant-loop-byte : goal.invariant-loop-byte
invariant-loop-byte l = record {
  items : l.out.items ++ flat_map bytes_of_data l.rest ≡ l.initial.out.items ++ flat_map bytes_of_data l.«data»;
  room : vec_len l.out + length (flat_map bytes_of_data l.rest) ≤ vec_capacity l.out;
  kept : vec_capacity l.out ≡ vec_capacity l.initial.out;
}

abbrev pub decreases-loop-byte : goal.decreases-loop-byte
decreases-loop-byte l = length l.rest
