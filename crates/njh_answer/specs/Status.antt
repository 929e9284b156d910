-- What is told of the hub as a whole: sums over the customers of its tables, and what the service knows of itself.
use Rattle.std.specs.Prelude.{ℕ, ◌-◌, Bool, false, List, length, map, codes, cond, sum, string_bytes}
use Rattle.std.specs.Prelude.{Option, Some, None}
use Rattle.std.specs.List.{range_with_len}
use Rattle.serde_json.specs.Data.{Data, number, unsigned, string, array, object, member, no_members}
use Rattle.serde_json.specs.View.{items_of}
use Rattle.njh_line.specs.Laws.{is_up}
use Rattle.njh_spool.specs.CustomerSpool.{used_blocks}
use Rattle.njh_table.specs.TableFile.{TableFile, customer_at}
use Rattle.njh_customer.specs.Customer.{CustomerLine}
use Rattle.njh_hub.specs.WholeHub.{Part, part}
use Rattle.njh_answer.specs.Lines.{line_where}
use Rattle.njh_answer.specs.Members.{with_member}
use Rattle.njh_answer.specs.Troubles.{moment_data, text_data, trouble_data}
use Rattle.njh_answer.specs.declared.views.ServiceView.{ServiceView}

-- ---- sums over the customers of tables

-- the sum of an amount of each of the first so many customers
abbrev pub sum_to : (ℕ → ℕ) → ℕ → ℕ
sum_to amount count = sum (map amount (range_with_len 0 count))

abbrev pub sum_of : (ℕ → ℕ) → TableFile → ℕ
sum_of amount tables = sum_to amount (length tables.customers)

abbrev pub lines_of : TableFile → ℕ → ℕ
lines_of tables c = length (customer_at tables c).lines

abbrev pub is_line_up : Option CustomerLine → Bool
is_line_up None = false
is_line_up (Some line) = is_up line.state.session.phase

-- how many of a customer's first lines, so many, are up
abbrev pub up_to : Part → ℕ → ℕ
up_to p count = sum_to (λ index. cond (is_line_up (line_where index p)) 1 0) count

abbrev pub up_of : TableFile → List Part → ℕ → ℕ
up_of tables parts c = up_to (part c parts) (lines_of tables c)

abbrev pub files_of : List Part → ℕ → ℕ
files_of parts c = length (part c parts).customer.spool.whole

abbrev pub used_of : List Part → ℕ → ℕ
used_of parts c = used_blocks (part c parts).customer.spool

abbrev pub quota_of : List Part → ℕ → ℕ
quota_of parts c = (part c parts).customer.entry.quota

-- ---- what is told

-- the blocks that files take, and those that they may still take
abbrev pub blocks_data : TableFile → List Part → Data
blocks_data tables parts = object (
    member (codes "left") (number (unsigned (sum_of (quota_of parts) tables - sum_of (used_of parts) tables)))
    (member (codes "used") (number (unsigned (sum_of (used_of parts) tables))) no_members))

-- how many files a customer may have
abbrev pub most_of : TableFile → ℕ → ℕ
most_of tables c = (customer_at tables c).files

-- the blocks and the files that customers may have
abbrev pub capacity_data : TableFile → List Part → Data
capacity_data tables parts = object (
    member (codes "blocks") (number (unsigned (sum_of (quota_of parts) tables)))
    (member (codes "files") (number (unsigned (sum_of (most_of tables) tables))) no_members))

abbrev pub lines_counted : TableFile → List Part → Data
lines_counted tables parts = object (
    member (codes "all") (number (unsigned (sum_of (lines_of tables) tables)))
    (member (codes "up") (number (unsigned (sum_of (up_of tables parts) tables))) no_members))

-- the sums, what the service is, and what is wrong, in words
abbrev pub sums_data : TableFile → List Part → ServiceView → Data
sums_data tables parts s = object (
    member (codes "blocks") (blocks_data tables parts)
    (member (codes "customers") (number (unsigned (length tables.customers)))
    (member (codes "faults") (array (items_of (map text_data s.troubles.items)))
    (member (codes "file_bytes") (moment_data s.file_bytes)
    (member (codes "files") (number (unsigned (sum_of (files_of parts) tables)))
    (member (codes "lines") (lines_counted tables parts)
    (member (codes "since") (number (unsigned s.since))
    (member (codes "version") (string (string_bytes s.version)) no_members))))))))

-- with what is wrong, since when and how grave it is, and what the operator wants so
abbrev pub with_troubles : ServiceView → Data → Data
with_troubles s d =
    with_member (codes "intended") (array (items_of (map trouble_data s.intended.items)))
    (with_member (codes "wrong") (array (items_of (map trouble_data s.troubles.items))) d)

-- {"blocks":{"left":183,"used":17},"capacity":{"blocks":200,"files":64},"customers":2,"faults":[],"file_bytes":null,
-- "files":11,"intended":[],"lines":{"all":3,"up":1},"log_bytes":null,"now":1790650000,"since":1790640000,
-- "version":"0.9","wrong":[]}
abbrev pub status_data : TableFile → List Part → ServiceView → Data
status_data tables parts s =
    with_member (codes "now") (number (unsigned s.clock)) (with_member (codes "log_bytes") (moment_data s.log_bytes)
    (with_member (codes "capacity") (capacity_data tables parts) (with_troubles s (sums_data tables parts s))))
