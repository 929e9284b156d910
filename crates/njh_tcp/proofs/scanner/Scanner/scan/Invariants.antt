use Rattle.std.proofs.Common.{◌≡◌, ◌-◌, ◌≤◌, length, drop}
use Rattle.njh_tcp.specs.ByteSteps.{feed_outcome, ahead}
use Rattle.njh_tcp.specs.code.Scans.{rest_in}
use Rattle.njh_tcp.proofs.scanner.Scanner.scan.Given as goal

-- What was taken so far, put before what is taken of the rest of the piece, is what is taken of all of it.
abbrev pub invariant-loop-taken : goal.invariant-loop-taken
invariant-loop-taken l = record {
  all : ahead l.taken (feed_outcome (rest_in l.self) (drop l.taken l.piece)) ≡ feed_outcome (rest_in l.initial.self)
      l.piece;
  within : l.taken ≤ length l.piece;
}

abbrev pub decreases-loop-taken : goal.decreases-loop-taken
decreases-loop-taken l = length l.piece - l.taken
