use Rattle.std.proofs.Common.{◌≡◌, ◌++◌, take, vec_capacity}
use Rattle.njh_tcp.proofs.scanner.append.Given as goal

abbrev pub invariant-loop-byte : goal.invariant-loop-byte
invariant-loop-byte l = record {
  held : l.held.items ≡ l.initial.held.items ++ take l.byte-index l.bytes;
  room : vec_capacity l.held ≡ vec_capacity l.initial.held;
}
