use Rattle.std.proofs.Common.{◌≤◌, ◌-◌, length}
use Rattle.njh_record.specs.code.Written.{NoRunBefore}
use Rattle.njh_record.proofs.writing.literal_len.Given as goal

abbrev pub invariant-loop-place : goal.invariant-loop-place
invariant-loop-place l = record {
  within : l.place ≤ length l.bytes;
  passed : NoRunBefore l.bytes l.place;
}

abbrev pub decreases-loop-place : goal.decreases-loop-place
decreases-loop-place l = length l.bytes - l.place
