use Rattle.std.proofs.Common.{◌≡◌, map, take}
use Rattle.njh_revision.specs.Revisions.{what_stays}
use Rattle.njh_revision.proofs.difference.of_lines.Given as goal

-- the lines so far are alike
abbrev pub invariant-loop-place : goal.invariant-loop-place
invariant-loop-place l = map what_stays (take l.place l.others) ≡ map what_stays (take l.place l.lines)
