-- What is told if no hub is opened from a spool file.
use Rattle.std.specs.Prelude.{◌≡◌, Some, slice_get, ⊤}
use Rattle.njh_table.specs.TableFile.{TableFile}
use Rattle.njh_spoolfile.specs.Kept.{SpoolContents}
use Rattle.njh_keeper.specs.Refusal.{refusal_of}
use Rattle.njh_keeper.specs.SetAside.{all_refused}
use Rattle.njh_keeper.specs.declared.fault.OpeningFault.{OpeningFault}
use Rattle.njh_keeper.specs.declared.fault.OpeningFault.TheVariants.{Memory, Store, File}

-- the first whole file that can't be put back is told, and why
abbrev pub Tells : TableFile → SpoolContents → OpeningFault → Type 0
Tells table spool Memory = ⊤
Tells table spool (Store error) = ⊤
Tells table spool (File refused) = slice_get (all_refused table spool) 0 ≡ Some (refusal_of refused)

-- no whole file is told
abbrev pub IsNoFile : OpeningFault → Type 0
IsNoFile Memory = ⊤
IsNoFile (Store error) = ⊤
IsNoFile (File refused) = ⊥
