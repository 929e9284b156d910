use Rattle.std.proofs.Common.{◌≡◌, ◌++◌}
use Rattle.toml.specs.View.{table_view}
use Rattle.njh_table.specs.declared.places.Part.TheVariants as parts
use Rattle.njh_check.specs.Warnings.{below, part_warnings}
use Rattle.njh_check.proofs.unknown_keys.put_lines.Given as goal

abbrev pub invariant-loop-line : goal.invariant-loop-line
invariant-loop-line l =
    l.report.items
    ≡ l.initial.report.items ++ below (λ n. part_warnings (table_view l.document) (parts.Line l.number n)) l.line
