use Rattle.std.proofs.Common.{◌≡◌, length}
use Rattle.njh_record.specs.Unspelled.{record_at_front}
use Rattle.njh_record.specs.Skipped.{behind}
use Rattle.njh_record.proofs.unspelling.skip.Given as goal

abbrev pub invariant-loop-part : goal.invariant-loop-part
invariant-loop-part l = behind (record_at_front l.bytes) ≡ behind (record_at_front l.rest)

abbrev pub decreases-loop-part : goal.decreases-loop-part
decreases-loop-part l = length l.rest
