-- The customers' parts, of what the hub keeps: the table, the files of all customers, and each customer's lines.
use Rattle.std.specs.Prelude.{ℕ, List, [], length, map, slice_index_or}
use Rattle.std.specs.List.{range_with_len}
use Rattle.njh_spool.specs.CustomerSpool.{CustomerSpool, empty_spool}
use Rattle.njh_spool.specs.Spools as spools
use Rattle.njh_spool.specs.declared.quota.Quota.{Quota}
use Rattle.njh_table.specs.Entries.{CustomerEntry}
use Rattle.njh_table.specs.TableFile.{TableFile, NamedCustomer, customer_at, entry_of}
use Rattle.njh_customer.specs.Part.{Part, Lines, part_with}

-- the entries of a table, in its order
abbrev pub entries_of : TableFile → List CustomerEntry
entries_of table = map entry_of table.customers

-- a customer's quota, and its files when the hub is opened
abbrev pub quota_in : NamedCustomer → Quota
quota_in c = record { blocks = c.quota; files = c.files }

abbrev pub empty_files : NamedCustomer → CustomerSpool
empty_files c = empty_spool c.quota c.files

-- a customer that has no lines
abbrev pub no_lines : Lines
no_lines = record { rests = []; lines = [] }

abbrev pub lines_at : ℕ → List Lines → Lines
lines_at c lines = slice_index_or lines c no_lines

-- a customer's part: by its entry, its files and its lines
abbrev pub part_held : TableFile → List CustomerSpool → List Lines → ℕ → Part
part_held table files lines c = part_with (entry_of (customer_at table c)) (spools.spool_at c files) (lines_at c lines)

-- one for each customer of the table
abbrev pub parts_of : TableFile → List CustomerSpool → List Lines → List Part
parts_of table files lines = map (part_held table files lines) (range_with_len 0 (length table.customers))
