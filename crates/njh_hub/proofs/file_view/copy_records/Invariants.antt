use Rattle.std.proofs.Common.{◌≡◌, ◌≤◌, ◌+◌, ◌++◌, length, vec_len}
use Rattle.std.specs.Vec.{vec_capacity}
use Rattle.njh_hub.proofs.file_view.copy_records.Given as goal

abbrev pub invariant-loop-srcb : goal.invariant-loop-srcb
invariant-loop-srcb l = record {
  copied : l.records.items ++ l.reader ≡ l.initial.reader;
  room : vec_len l.records + length l.reader ≤ vec_capacity l.records;
}

abbrev pub decreases-loop-srcb : goal.decreases-loop-srcb
decreases-loop-srcb l = length l.reader
