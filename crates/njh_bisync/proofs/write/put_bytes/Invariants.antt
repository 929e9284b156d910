use Rattle.std.proofs.Common.{◌≡◌, ◌++◌, take, vec_capacity}
use Rattle.njh_bisync.proofs.write.put_bytes.Given as goal

abbrev pub invariant-loop-byte : goal.invariant-loop-byte
invariant-loop-byte l =
    (l.filled.items ≡ l.initial.filled.items ++ take l.byte-index l.bytes)
    × (vec_capacity l.filled ≡ vec_capacity l.initial.filled)
