use Rattle.njh_record.specs.code.Written.{NoRunBefore}
use Rattle.njh_record.proofs.writing.end_len.Given as goal

abbrev pub invariant-loop-place : goal.invariant-loop-place
invariant-loop-place l = NoRunBefore l.bytes l.place
