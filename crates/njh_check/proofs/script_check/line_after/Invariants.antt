use Rattle.std.proofs.Common.{◌≡◌, [], get_or, length}
use Rattle.njh_io.specs.Lines.{lines_of}
use Rattle.njh_check.proofs.script_check.line_after.Given as goal

abbrev pub invariant-loop-line : goal.invariant-loop-line
invariant-loop-line l = get_or (lines_of l.text) l.before [] ≡ get_or (lines_of l.rest) l.left []

abbrev pub decreases-loop-line : goal.decreases-loop-line
decreases-loop-line l = length l.rest
