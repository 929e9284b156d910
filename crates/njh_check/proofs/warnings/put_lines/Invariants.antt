use Rattle.std.proofs.Common.{◌≡◌, ◌++◌, take}
use Rattle.std.specs.List.{flat_map}
use Rattle.njh_check.specs.Warnings.{line_warnings}
use Rattle.njh_check.proofs.warnings.put_lines.Given as goal

abbrev pub invariant-loop-line : goal.invariant-loop-line
invariant-loop-line l =
    l.report.items ≡ l.initial.report.items ++ flat_map (line_warnings l.customers) (take l.line-index l.lines)
