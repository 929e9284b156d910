-- What a statement does to the connection of a spool.
use Rattle.std.specs.Prelude.{◌≡◌, ◌⊎◌, ℕ, true, false, IsTrue, []}
use Rattle.sqlite.specs.State.{State, HasCleanDisk}
use Rattle.sqlite.specs.Schema.{Schema}
use Rattle.sqlite.specs.Tree.{Trees, put_row}
use Rattle.sqlite_catalog.specs.Change.{KeepsRows}
use Rattle.sqlite_catalog.specs.Listing.{IsSound}
use Rattle.njh_spoolfile.specs.Kept.{SpoolContents, Holds, IsOf, no_files, version_row}
use Rattle.njh_spoolfile.specs.Tables.{no_tables, spool_schema}
use Rattle.njh_spoolfile.specs.declared.versions.Version.TheVariants.{Older}

-- the connection's file has the spool's tables, as far as the disk told the truth
abbrev pub IsReady : State → Type 0
IsReady s = HasCleanDisk s → s.now.schema ≡ spool_schema

-- it has these tables, and what changes waits for the commit
abbrev pub IsWriting : Schema → State → Type 0
IsWriting schema s = HasCleanDisk s → (s.now.schema ≡ schema) × (s.in_transaction ≡ true)

-- a transaction begins
pub record Begins (old new : State) : Type 0 where
  pub is_open : IsTrue new.is_open
  pub now : new.now ≡ old.now
  pub committed : new.committed ≡ old.committed
  pub waits : new.in_transaction ≡ true

-- a change that waits for the commit
pub record Changes (change : SpoolContents → SpoolContents) (old new : State) : Type 0 where
  pub is_open : IsTrue new.is_open
  pub schema : new.now.schema ≡ spool_schema
  pub waits : new.in_transaction ≡ true
  pub committed : new.committed ≡ old.committed
  pub holds : (spool : SpoolContents) → Holds spool old.now.trees → Holds (change spool) new.now.trees

-- what waited is kept
pub record Commits (old new : State) : Type 0 where
  pub is_open : IsTrue new.is_open
  pub now : new.now ≡ old.now
  pub committed : new.committed ≡ old.now
  pub ended : new.in_transaction ≡ false

-- what the connection shows stays the same
pub record Stays (old new : State) : Type 0 where
  pub is_open : IsTrue old.is_open → IsTrue new.is_open
  pub now : new.now ≡ old.now
  pub committed : new.committed ≡ old.committed
  pub mode : new.in_transaction ≡ old.in_transaction

-- a new table, which has no row and waits for the commit
pub record Makes (after : Schema) (tree : ℕ) (old new : State) : Type 0 where
  pub is_open : IsTrue new.is_open
  pub schema : new.now.schema ≡ after
  pub waits : new.in_transaction ≡ true
  pub committed : new.committed ≡ old.committed
  pub empty : new.now.trees tree ≡ []
  pub others : KeepsRows old.now.schema.tables old.now.trees new.now.trees

-- the three tables, which have no row and wait for the commit
pub record MakesAll (old new : State) : Type 0 where
  pub is_open : IsTrue new.is_open
  pub schema : new.now.schema ≡ spool_schema
  pub waits : new.in_transaction ≡ true
  pub committed : new.committed ≡ old.committed
  pub no_version : new.now.trees 0 ≡ []
  pub no_files : new.now.trees 1 ≡ []
  pub no_records : new.now.trees 2 ≡ []

-- a version's row, or the mark's, is added, and nothing else changes
pub record SetsNumber (number : ℕ) (found now : Trees) : Type 0 where
  pub sound : IsSound spool_schema now
  pub versions : now 0 ≡ put_row (version_row number) (found 0)
  pub files : now 1 ≡ found 1
  pub records : now 2 ≡ found 2

-- it is this version's
abbrev pub SetsVersion : Trees → Trees → Type 0
SetsVersion = SetsNumber 3

-- a spool of the older version is of this one now
pub record TakesOver (found now : Trees) : Type 0 where
  pub older : IsOf Older (found 0)
  pub sets : SetsVersion found now

-- the row is added, and waits for the commit
pub record Sets (number : ℕ) (old new : State) : Type 0 where
  pub is_open : IsTrue new.is_open
  pub schema : new.now.schema ≡ spool_schema
  pub waits : new.in_transaction ≡ true
  pub committed : new.committed ≡ old.committed
  pub sets : SetsNumber number old.now.trees new.now.trees

-- the tables of a spool that has no file, which wait for the commit
pub record StartsEmpty (old new : State) : Type 0 where
  pub is_open : IsTrue new.is_open
  pub schema : new.now.schema ≡ spool_schema
  pub waits : new.in_transaction ≡ true
  pub committed : new.committed ≡ old.committed
  pub holds : Holds no_files new.now.trees

-- the connection is open and has a spool's tables, and nothing waits
pub record IsIdle (s : State) : Type 0 where
  pub is_open : IsTrue s.is_open
  pub schema : s.now.schema ≡ spool_schema
  pub kept : s.committed ≡ s.now
  pub autocommit : s.in_transaction ≡ false

-- What becomes of a database that is no spool of this version: a spool with no file if it had no table, and the spool
-- that it was if it is of the older version.
abbrev pub Becomes : State → Trees → Type 0
Becomes old now = ((old.now.schema ≡ no_tables) × Holds no_files now) ⊎ TakesOver old.now.trees now
