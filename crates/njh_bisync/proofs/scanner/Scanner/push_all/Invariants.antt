use Rattle.std.proofs.Common.{◌≡◌, ◌++◌, take}
use Rattle.njh_bisync.proofs.scanner.Scanner.push_all.Given as goal

abbrev pub invariant-loop-byte : goal.invariant-loop-byte
invariant-loop-byte l = record {
  held : l.self.held.items ≡ l.initial.self.held.items ++ take l.byte-index l.bytes;
  place : l.self.place ≡ l.initial.self.place;
  spoiled : l.self.spoiled ≡ l.initial.self.spoiled;
}
