-- Faults of the spool file, of the writer and of memory, which say nothing of what is asked for.
use Rattle.std.proofs.Common.{ℕ, List, Result, Ok, Err}
use Rattle.std.specs.Prelude.{IfErr}
use Rattle.njh_listing.specs.Asked.{FitsFault}
use Rattle.njh_listing.specs.Faults.{IsOfSpool}
use Rattle.njh_listing.specs.declared.fault.FilesFault.{FilesFault}
use Rattle.njh_listing.specs.declared.fault.FilesFault.TheVariants.{Damaged, Device, InUse, Memory, NoFile, NotASpool}
use Rattle.njh_listing.specs.declared.fault.FilesFault.TheVariants.{AlreadyThere, Full, OtherVersion, Refused, Several}
use Rattle.njh_listing.specs.declared.fault.FilesFault.TheVariants.{NoRoom, NotFound, NotPermitted, Taken}

pub spool_fits : (keys named : List ℕ) (fault : FilesFault) → IsOfSpool fault → FitsFault keys named fault
spool_fits keys named (NoFile name) is = absurd is
spool_fits keys named (Several list) is = absurd is
spool_fits keys named (Refused why) is = absurd is
spool_fits keys named (Taken why) is = absurd is
spool_fits keys named InUse is = tt
spool_fits keys named AlreadyThere is = tt
spool_fits keys named Full is = tt
spool_fits keys named NotASpool is = tt
spool_fits keys named OtherVersion is = tt
spool_fits keys named Damaged is = tt
spool_fits keys named NotFound is = tt
spool_fits keys named NotPermitted is = tt
spool_fits keys named NoRoom is = tt
spool_fits keys named Device is = tt
spool_fits keys named Memory is = tt

-- what is said of an answer's fault says something else of it
pub if_err : {T E : Type 0} (P Q : E → Type 0) → ((e : E) → P e → Q e) → (r : Result T E) → IfErr r P → IfErr r Q
if_err P Q f (Ok x) h = tt
if_err P Q f (Err e) h = f e h
