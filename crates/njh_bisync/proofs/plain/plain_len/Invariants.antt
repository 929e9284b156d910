use Rattle.std.proofs.Common.{◌≡◌, ◌-◌, ◌+◌, ◌≤◌, length}
use Rattle.njh_bisync.specs.code.PlainBytes.{plain_len}
use Rattle.njh_bisync.proofs.plain.plain_len.Given as goal

-- What was passed over is plain.
abbrev pub invariant-loop-group : goal.invariant-loop-group
invariant-loop-group l = record {
  within : length l.rest ≤ length l.bytes;
  plain : plain_len l.bytes ≡ (length l.bytes - length l.rest) + plain_len l.rest;
}

abbrev pub decreases-loop-group : goal.decreases-loop-group
decreases-loop-group l = length l.rest
