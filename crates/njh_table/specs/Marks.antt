-- The marks of lines: which of them are up. A table file says nothing of them, and all are off at first.
use Rattle.std.specs.Prelude.{ℕ, Bool, false, map, slice_set, slice_index_or}
use Rattle.njh_table.specs.declared.LineId.{LineId}
use Rattle.njh_table.specs.Entries.{CustomerEntry}
use Rattle.njh_table.specs.TableFile.{NamedLine, NamedCustomer, TableFile, customer_at, no_line}

abbrev pub line_marked : Bool → NamedLine → NamedLine
line_marked up l = record l { up = up }

abbrev pub customer_marked : ℕ → Bool → NamedCustomer → NamedCustomer
customer_marked line up c =
    record c { lines = slice_set c.lines line (line_marked up (slice_index_or c.lines line no_line)) }

-- one line has this mark, and nothing else is changed
abbrev pub with_mark : LineId → Bool → TableFile → TableFile
with_mark id up t =
    record t {
      customers = slice_set t.customers id.customer
          (customer_marked id.number up (customer_at t id.customer));
    }

-- all marks are off
abbrev pub customer_unmarked : NamedCustomer → NamedCustomer
customer_unmarked c = record c { lines = map (line_marked false) c.lines }

abbrev pub without_marks : TableFile → TableFile
without_marks t = record t { customers = map customer_unmarked t.customers }

-- ---- what becomes of an entry

abbrev pub entry_marked : ℕ → Bool → CustomerEntry → CustomerEntry
entry_marked line up entry = record entry { up = slice_set entry.up line up }

abbrev pub entry_unmarked : CustomerEntry → CustomerEntry
entry_unmarked entry = record entry { up = map (λ _. false) entry.lines }
