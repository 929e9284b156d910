-- What becomes of a transmission to the hub (IBM SC23-0070, "Data streams"), by the whole list of the records that came
-- and by how it ended.
use Rattle.std.specs.Prelude.{◌≡◌, ℕ, true, false, ◌⊎◌, List, [], ◌∷◌, ◌++◌, Option}
use Rattle.njh_record.specs.Stored.{Stored}
use Rattle.njh_record.specs.declared.Kind.{Kind}
use Rattle.njh_table.specs.Entries.{CustomerEntry}
use Rattle.njh_stream.specs.Transmissions.{ComingRecord, Fitting, TooLong, Taken, Cancelled, judged_coming, is_whole}

-- How a transmission ended: its end of file came, the sender gave it up, or the next request or the session's end came.
pub data Ending : Type 0 where
  EndOfFile : Ending
  GivenUp : Ending
  CutOff : Ending

-- What became of it: a file of these records, nothing for want of records, nothing since a record was not taken (the
-- owner may be told why), or nothing at all.
pub data TransmissionOutcome : Type 0 where
  AFile : (records : List Stored) → TransmissionOutcome
  NotWhole : TransmissionOutcome
  CancelledBy : (text : Option (List ℕ)) → TransmissionOutcome
  Dropped : TransmissionOutcome

-- the records among what came
abbrev pub records_of : List ComingRecord → List Stored
records_of [] = []
records_of (Fitting r room ∷ cs) = r ∷ records_of cs
records_of (TooLong ∷ cs) = records_of cs

-- each is taken after the earlier records and those before it
abbrev pub AreTaken : CustomerEntry → ℕ → Kind → List Stored → List ComingRecord → Type 0
AreTaken entry l kind earlier [] = Unit {0}
AreTaken entry l kind earlier (c ∷ cs) =
    (judged_coming entry l kind earlier c ≡ Taken) × AreTaken entry l kind (earlier ++ records_of (c ∷ [])) cs

-- the first that isn't taken cancels, with this text
abbrev pub IsCancelled : CustomerEntry → ℕ → Kind → List Stored → List ComingRecord → Option (List ℕ) → Type 0
IsCancelled entry l kind earlier [] text = ⊥
IsCancelled entry l kind earlier (c ∷ cs) text =
    (judged_coming entry l kind earlier c ≡ Cancelled text)
    ⊎ ((judged_coming entry l kind earlier c ≡ Taken)
    × IsCancelled entry l kind (earlier ++ records_of (c ∷ [])) cs text)

-- A transmission of what came becomes a file at its end of file where all was taken and is a whole file.
abbrev pub Becomes : CustomerEntry → ℕ → Kind → List ComingRecord → Ending → TransmissionOutcome → Type 0
Becomes entry l kind cs EndOfFile (AFile records) =
    AreTaken entry l kind [] cs × (records ≡ records_of cs) × (is_whole records ≡ true)
Becomes entry l kind cs GivenUp (AFile records) = ⊥
Becomes entry l kind cs CutOff (AFile records) = ⊥
Becomes entry l kind cs EndOfFile NotWhole = AreTaken entry l kind [] cs × (is_whole (records_of cs) ≡ false)
Becomes entry l kind cs GivenUp NotWhole = ⊥
Becomes entry l kind cs CutOff NotWhole = ⊥
Becomes entry l kind cs EndOfFile Dropped = ⊥
Becomes entry l kind cs GivenUp Dropped = AreTaken entry l kind [] cs
Becomes entry l kind cs CutOff Dropped = AreTaken entry l kind [] cs
Becomes entry l kind cs EndOfFile (CancelledBy text) = IsCancelled entry l kind [] cs text
Becomes entry l kind cs GivenUp (CancelledBy text) = IsCancelled entry l kind [] cs text
Becomes entry l kind cs CutOff (CancelledBy text) = IsCancelled entry l kind [] cs text
