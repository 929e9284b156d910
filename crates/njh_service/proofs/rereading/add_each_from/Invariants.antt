use Rattle.std.proofs.Common.{◌≤◌, length}
use Rattle.njh_service.proofs.rereading.add_each_from.Given as goal

-- nothing that was told is taken back
abbrev pub invariant-loop-place : goal.invariant-loop-place
invariant-loop-place g l = length l.initial.texts.items ≤ length l.texts.items
