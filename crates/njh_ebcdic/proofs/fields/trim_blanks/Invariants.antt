use Rattle.std.proofs.Common.{◌≡◌, ◌≤◌, length}
use Rattle.njh_ebcdic.specs.Names.{without_end_blanks}
use Rattle.njh_ebcdic.proofs.fields.trim_blanks.Given as goal

abbrev pub invariant-loop-last : goal.invariant-loop-last
invariant-loop-last l =
    record { same : without_end_blanks l.rest ≡ without_end_blanks l.bytes; shorter : length l.rest ≤ length l.bytes }

abbrev pub decreases-loop-last : goal.decreases-loop-last
decreases-loop-last l = length l.rest
