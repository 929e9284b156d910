-- The spool that files held when they were opened, or hold after they were closed.
use Rattle.std.specs.Prelude.{[]}
use Rattle.sqlite.specs.State.{HasCleanDisk}
use Rattle.sqlite.specs.Store.{Ghosts}
use Rattle.sqlite.specs.Files.{image_of}
use Rattle.sqlite.specs.Recovery.{Image}
use Rattle.sqlite.specs.Tree.{Trees}
use Rattle.sqlite.specs.WalFiles.{outcomes}
use Rattle.sqlite_disk.specs.declared.Disk as disk
use Rattle.sqlite_disk.specs.declared.Files.{Files}
use Rattle.sqlite_catalog.specs.Listing.{IsSound}
use Rattle.njh_spoolfile.specs.Kept.{SpoolContents, Holds}
use Rattle.njh_spoolfile.specs.Reopened.{OpensFrom}
use Rattle.njh_spoolfile.specs.Shelf.{Shelf, shown}
use Rattle.njh_spoolfile.specs.CommitState.{Stands}
use Rattle.njh_spoolfile.specs.Tables.{spool_schema}

-- Whoever opens files of this image and finds a spool's tables finds this spool.
abbrev pub IsFoundIn : Image → SpoolContents → Type 0
IsFoundIn image spool = (now : Trees) → IsSound spool_schema now → OpensFrom image now → Holds spool now

-- As far as the disk told the truth, the spool that was found is there, and it is committed.
abbrev pub StandsAsFound : {S : Type 0} → Ghosts S → (SpoolContents → Type 0) → Shelf S → Type 0
StandsAsFound g found store =
    HasCleanDisk (shown g store) → (spool : SpoolContents) → found spool
    → Stands (record { now = spool; kept = spool }) (shown g store)

-- Whoever opens files of this image finds this spool, and so does whoever opens the spool file without its log.
abbrev pub IsFoundAlone : Image → SpoolContents → Type 0
IsFoundAlone image spool = IsFoundIn image spool × IsFoundIn (record image { log = [] }) spool

-- It is so as the files read, and of all that a crash may leave of them.
pub record StandsAlone {D : Type 0} (g : disk.Ghosts D) (files : Files D) (spool : SpoolContents) : Type 0 where
  pub seen : IsFoundAlone (image_of g files) spool
  pub left : (image : Image) → outcomes g files.log files.db image → IsFoundAlone image spool
