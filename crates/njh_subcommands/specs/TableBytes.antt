-- The tables that a file's bytes give, and those that the program goes by.
use Rattle.std.specs.Prelude.{◌≡◌, ◌≢◌, ◌≤◌, ◌⊎◌, ℕ, List, length, Option, Some, None, Result, Ok, Err, if◌then◌else◌}
use Rattle.std.specs.Str.{is_utf8}
use Rattle.njh_table.specs.declared.fault.TableFault.{TableFault}
use Rattle.njh_table.specs.declared.fault.TableFault.TheVariants.{BadToml, Memory, TooMany}
use Rattle.njh_table.specs.Base.{base_tables}
use Rattle.njh_table.specs.TableFile.{TableFile}
use Rattle.njh_table.specs.Walk.{tables_of}
use Rattle.njh_subcommands.specs.declared.failure.Failure.{Failure}
use Rattle.njh_subcommands.specs.declared.failure.Failure.TheVariants.{Tables}
use Rattle.njh_subcommands.specs.declared.failure.Failure.TheVariants as failure

-- what the text gives, if the bytes are one; a file that is no UTF-8 is no TOML
unfoldable pub tables_in : List ℕ → Result TableFile TableFault
tables_in bytes = if is_utf8 bytes then tables_of bytes else Err BadToml

-- the tables if a file is named or none is: those that the bytes of some file give, or the base tables
abbrev pub AreGiven : {Path : Type 0} → Option Path → TableFile → Type 0
AreGiven None tables = tables ≡ base_tables
AreGiven (Some path) tables = (bytes : List ℕ) × (tables_in bytes ≡ Ok tables)

-- the tables are those that at most so many bytes give
abbrev pub AreGivenWithin : ℕ → TableFile → Type 0
AreGivenWithin most tables = (bytes : List ℕ) × (length bytes ≤ most) × (tables_in bytes ≡ Ok tables)

-- how many bytes of a table file are read while a hub runs
abbrev pub max_changed_bytes : ℕ
max_changed_bytes = 2000000

-- why a file isn't read: it can't be, or memory ran out, or it is longer than any tables need
abbrev pub IsUnread : Failure → Type 0
IsUnread why = (why ≡ failure.Device) ⊎ (why ≡ failure.Memory) ⊎ (why ≡ Tables TooMany)

-- why there are no tables: out of memory, or a file that isn't read, or one whose bytes give this fault
abbrev pub AreRefused : {Path : Type 0} → Option Path → Failure → Type 0
AreRefused None failure = failure ≡ Tables Memory
AreRefused (Some path) failure = IsUnread failure
    ⊎ ((fault : TableFault) × (bytes : List ℕ) × (failure ≡ Tables fault)
    × (fault ≢ Memory → tables_in bytes ≡ Err fault))
