-- What an open of a spool file finds.
use Rattle.std.specs.Prelude.{◌≡◌, ◌⊎◌}
use Rattle.sqlite.specs.Recovery.{Image}
use Rattle.sqlite.specs.Tree.{Trees}
use Rattle.sqlite.specs.Files.{HoldsDatabase, AreFoundIn}
use Rattle.sqlite_catalog.specs.Listing.{IsSound}
use Rattle.sqlite.specs.State.{State, HasCleanDisk, IsLive}
use Rattle.njh_spoolfile.specs.Kept.{Holds, IsOf, no_files}
use Rattle.njh_spoolfile.specs.Steps.{Becomes, IsIdle, Stays, TakesOver}
use Rattle.njh_spoolfile.specs.Tables.{no_tables}
use Rattle.njh_spoolfile.specs.declared.versions.Version.TheVariants.{Current}

-- It is there as it was, of this version; or it had no table and is now a spool with no file; or it was a spool of the
-- older version and is the same of this one.
abbrev pub IsOrBecomes : Trees → Trees → Type 0
IsOrBecomes found now =
    ((now ≡ found) × IsOf Current (found 0)) ⊎ ((IsSound no_tables found × Holds no_files now) ⊎ TakesOver found now)

-- what an open shows of files that held this
pub record OpensFrom (image : Image) (now : Trees) : Type 0 where
  pub found : Trees
  pub holds : (db : Trees) → HoldsDatabase image db → found ≡ db
  pub reads : AreFoundIn image found
  pub kept : IsOrBecomes found now

-- A database that was just opened is a spool of this version: as it was, or made or taken over now.
pub record BecomesSpool (old new : State) : Type 0 where
  pub clean : HasCleanDisk new → HasCleanDisk old
  pub live : IsLive new
  pub idle : HasCleanDisk new → IsIdle new
  pub outcome : HasCleanDisk new
      → (Stays old new × IsOf Current (old.now.trees 0)) ⊎ Becomes old new.now.trees
