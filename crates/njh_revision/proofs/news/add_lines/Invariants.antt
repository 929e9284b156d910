use Rattle.std.proofs.Common.{◌≤◌, length}
use Rattle.njh_revision.proofs.news.add_lines.Given as goal

-- nothing that was told is taken back
abbrev pub invariant-loop-place : goal.invariant-loop-place
invariant-loop-place l = length l.initial.texts.items ≤ length l.texts.items
