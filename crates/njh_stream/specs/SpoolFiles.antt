-- A file of a customer as the list of its records.
use Rattle.std.specs.Prelude.{ℕ, List, [], Some, None}
use Rattle.njh_record.specs.Stored.{Stored}
use Rattle.njh_spool.specs.CustomerSpool.{CustomerSpool}
use Rattle.njh_spool.specs.Spools.{records_numbered}

-- of the file of a number, whole or partial; none where there is no such file
abbrev pub records_in : ℕ → CustomerSpool → List Stored
records_in n s = elim (records_numbered n s) [ Some records ↦ records | None ↦ [] ]
