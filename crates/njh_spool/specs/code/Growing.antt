-- A partial file that takes the records of a whole one.
use Rattle.std.specs.Prelude.{◌≡◌, ℕ, ◌<◌, List, [], ◌∷◌, ◌++◌, map, take, ◌==◌, cond, slice_set}
use Rattle.njh_record.specs.Stored.{Stored}
use Rattle.njh_record.specs.declared.Kind.{Kind}
use Rattle.njh_spool.specs.CustomerSpool.{CustomerSpool, PartialFile, next_number, used_blocks}
use Rattle.njh_spool.specs.Spools.{spool_at}
use Rattle.njh_spool.specs.declared.SpoolFault.{SpoolFault}
use Rattle.njh_spool.specs.declared.SpoolFault.TheVariants.{QuotaFull, TooManyFiles, NoSuchFile, Memory}
use Rattle.njh_spool.specs.declared.restoring.fault.RestoreFault.{RestoreFault}
use Rattle.njh_spool.specs.declared.restoring.fault.RestoreFault.TheVariants.{QuotaOver, FilesOver}

-- the partial file of a number has these records more
abbrev pub grown : ℕ → List Stored → PartialFile → PartialFile
grown n records f = cond (f.number == n) (record f { records = f.records ++ records }) f

abbrev pub with_more : ℕ → List Stored → CustomerSpool → CustomerSpool
with_more n records s = record s { partial = map (grown n records) s.partial }

-- a new partial file has these records
abbrev pub with_begun : Kind → List Stored → CustomerSpool → CustomerSpool
with_begun kind records s =
    record s { partial = s.partial ++ record { number = next_number s; kind = kind; records = records } ∷ [] }

-- It has some of the records more, and the quota doesn't hold all of them.
abbrev pub IsGrownInPart : ℕ → ℕ → List Stored → (old new : List CustomerSpool) → Type 0
IsGrownInPart c n records old new =
    (k : ℕ) × (new ≡ slice_set old c (with_more n (take k records) (spool_at c old)))
    × ((spool_at c old).quota < used_blocks (with_more n records (spool_at c old)))

-- the limit that a spool's refusal tells of
abbrev pub limit_of : SpoolFault → RestoreFault
limit_of TooManyFiles = FilesOver
limit_of QuotaFull = QuotaOver
limit_of NoSuchFile = QuotaOver
limit_of Memory = QuotaOver
