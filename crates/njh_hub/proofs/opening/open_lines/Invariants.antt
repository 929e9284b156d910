use Rattle.std.proofs.Common.{◌≡◌, ℕ, ◌<◌, length}
use Rattle.njh_table.specs.Marks.{entry_unmarked}
use Rattle.njh_table.specs.TableFile.{customer_at, entry_of}
use Rattle.njh_customer.specs.Part.{part_at_open, part_with}
use Rattle.njh_hub.specs.Parts.{empty_files, lines_at}
use Rattle.njh_hub.proofs.opening.open_lines.Given as goal

-- the lines of so many customers are open
abbrev pub invariant-loop-customer : goal.invariant-loop-customer
invariant-loop-customer l = record {
  count : length l.lines.items ≡ l.customer-index;
  opened : (c : ℕ) → c < l.customer-index →
      part_with (entry_unmarked (entry_of (customer_at l.fn.tables c))) (empty_files (customer_at l.fn.tables c))
      (lines_at c l.lines.items)
      ≡ part_at_open (entry_of (customer_at l.fn.tables c));
}
