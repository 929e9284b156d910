use Rattle.std.proofs.Common.{◌≡◌, ◌++◌}
use Rattle.toml.specs.View.{table_view}
use Rattle.njh_table.specs.TableFile.{customer_at}
use Rattle.njh_check.specs.Warnings.{below, customer_warnings}
use Rattle.njh_check.proofs.unknown_keys.put_file.Given as goal

abbrev pub invariant-loop-number : goal.invariant-loop-number
invariant-loop-number l =
    l.report.items ≡ l.initial.report.items
    ++ below (λ c. customer_warnings (table_view l.document) c (customer_at l.tables c)) l.number
