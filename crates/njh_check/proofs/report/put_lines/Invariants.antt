use Rattle.std.proofs.Common.{◌≡◌, ◌++◌, take}
use Rattle.std.specs.List.{flat_map}
use Rattle.njh_check.specs.Reports.{line_report}
use Rattle.njh_check.proofs.report.put_lines.Given as goal

abbrev pub invariant-loop-line : goal.invariant-loop-line
invariant-loop-line l = l.report.items ≡ l.initial.report.items ++ flat_map line_report (take l.line-index l.lines)
