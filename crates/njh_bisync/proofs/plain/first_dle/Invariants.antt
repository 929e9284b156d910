use Rattle.std.proofs.Common.{◌≡◌, ◌+◌, drop}
use Rattle.njh_bisync.specs.code.PlainBytes.{plain_len}
use Rattle.njh_bisync.proofs.plain.first_dle.Given as goal

abbrev pub invariant-loop-index : goal.invariant-loop-index
invariant-loop-index l = l.index + plain_len (drop l.index l.bytes) ≡ plain_len l.bytes
