-- Why nothing, or not all, is printed of a spool file.
use Rattle.std.specs.Prelude.{⊤}
use Rattle.njh_listing.specs.declared.fault.FilesFault.{FilesFault}
use Rattle.njh_listing.specs.declared.fault.FilesFault.TheVariants.{NoFile, Refused, Several, Taken}

-- the spool file, the writer or memory failed: it isn't that the customer has no such file or several, or a hub no
-- room for one, or that the customer has files where some are to be copied
abbrev pub IsOfSpool : FilesFault → Type 0
IsOfSpool (NoFile name) = ⊥
IsOfSpool (Several list) = ⊥
IsOfSpool (Refused why) = ⊥
IsOfSpool (Taken why) = ⊥
IsOfSpool fault = ⊤
