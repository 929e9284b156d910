use Rattle.std.proofs.Common.{◌≡◌, ◌+◌, ◌-◌, ◌≤◌, length}
use Rattle.njh_header.specs.Walk.{general_section, walk}
use Rattle.njh_header.proofs.section.find_general.Given as goal

abbrev pub invariant-loop-rest : goal.invariant-loop-rest
invariant-loop-rest l =
    record {
      shorter : length l.rest + 4 ≤ length l.bytes;
      same : walk (length l.rest) l.size (length l.bytes - length l.rest) l.rest ≡ general_section l.size l.bytes;
    }

abbrev pub decreases-loop-rest : goal.decreases-loop-rest
decreases-loop-rest l = length l.rest
