-- Lines that were served over a spool file.
use Rattle.std.specs.Prelude.{ℕ, List, Option, Some}
use Rattle.clap.specs.Words.{Text}
use Rattle.sqlite.specs.State.{HasCleanDisk}
use Rattle.sqlite.specs.Store.{Ghosts}
use Rattle.njh_hub.specs.WholeHub.{Part}
use Rattle.njh_keeper.specs.Keeper.{IsOpenedFrom, IsSettledFrom, Keeping, KnowsHub, MayLeaveOf}
use Rattle.njh_service.specs.Serving.{AreServedFrom}
use Rattle.njh_spoolfile.specs.Kept.{SpoolContents}
use Rattle.njh_spoolfile.specs.Shelf.{Shelf, shown}
use Rattle.njh_spoolfile.specs.Steps.{Stays}
use Rattle.njh_subcommands.specs.TableBytes.{AreGiven}
use Rattle.njh_table.specs.TableFile.{TableFile}
use Rattle.njh_turns.specs.Keeping.{KeeperSays}

-- what a keeper in a spool file says of itself
abbrev pub keeper_says : {S : Type 0} → Ghosts S → (SpoolContents → Type 0) → KeeperSays (Keeping S)
keeper_says g found =
    record { may_leave = MayLeaveOf g found; knows = KnowsHub g found; count = λ keeper. keeper.failures }

-- which hub it opens
abbrev pub keeper_opens : {S : Type 0} → Ghosts S → (before behind : Keeping S) → TableFile → List Part → Type 0
keeper_opens g before behind table parts =
    IsOpenedFrom g before behind table parts × IsSettledFrom g before behind table parts

-- The lines of the tables that the bytes of a file gave were served over a keeper that has the spool of this spool
-- file.
pub record AreServedOver {S : Type 0} (g : Ghosts S) (found : SpoolContents → Type 0) (store : Shelf S) (file : Text)
    (turns : Option ℕ) : Type 0 where
  pub tables : TableFile
  pub given : AreGiven (Some file) tables
  pub keeper : Keeping S
  pub stays : HasCleanDisk (shown g keeper.store) → Stays (shown g store) (shown g keeper.store)
  pub new_keeper : Keeping S
  pub served : AreServedFrom (keeper_opens g) (keeper_says g found) keeper new_keeper tables turns
