-- One stream of a line from a permitted request on, arrival by arrival, whatever the customer's other streams do
-- between: what it answers and tells in all, and what it leaves.
use Rattle.std.specs.Prelude.{◌≡◌, ℕ, List, [], ◌∷◌, ◌++◌, Option, Some, None}
use Rattle.njh_record.specs.Stored.{Stored}
use Rattle.njh_record.specs.declared.Kind.{Kind}
use Rattle.njh_block.specs.declared.rcb.ControlRcb.{ControlRcb}
use Rattle.njh_block.specs.declared.rcb.ControlRcb.TheVariants.{Refusal, Completion}
use Rattle.njh_header.specs.FileHeaders.{file_owner}
use Rattle.njh_table.specs.Entries.{CustomerEntry}
use Rattle.njh_spool.specs.declared.State.TheVariants.{Ready}
use Rattle.njh_spool.specs.CustomerSpool.{CustomerSpool, partial_numbered, has_room_for, with_arrived, without_partial}
use Rattle.njh_stream.specs.declared.receiver.Receiver.{Receiver}
use Rattle.njh_stream.specs.declared.receiver.Receiver.TheVariants.{Idle, Open, Draining}
use Rattle.njh_stream.specs.Transmissions.{ComingRecord, Fitting, TooLong}
use Rattle.njh_stream.specs.Outcomes.{Ending, EndOfFile, GivenUp, CutOff, TransmissionOutcome, AFile, NotWhole}
use Rattle.njh_stream.specs.Outcomes.{CancelledBy, Dropped}
use Rattle.njh_stream.specs.Receiving.{Arrival, Data, Long, Abort, Notice, ReceiverStep, received_arrival}
use Rattle.njh_stream.specs.Receiving.{received_nothing}
use Rattle.njh_stream.specs.Receiving.{without_open, notice_of}

-- A record of a byte or more came, or one of more than 256 bytes, and found the customer's spool so.
pub data Moment : Type 0 where
  Came : (srcb : ℕ) → (byte : ℕ) → (bytes : List ℕ) → (found : CustomerSpool) → Moment
  CameLong : (found : CustomerSpool) → Moment

abbrev pub found_at : Moment → CustomerSpool
found_at (Came srcb byte bytes found) = found
found_at (CameLong found) = found

abbrev pub arrival_at : Moment → Arrival
arrival_at (Came srcb byte bytes found) = Data srcb (byte ∷ bytes)
arrival_at (CameLong found) = Long

-- what came for the file of a number, with the room that there was
abbrev pub coming_at : ℕ → Moment → ComingRecord
coming_at n (Came srcb byte bytes found) =
    let r : Stored = record { srcb = srcb; bytes = byte ∷ bytes } in Fitting r (has_room_for n r found)
coming_at n (CameLong found) = TooLong

-- how it ended, where the end of file has this SRCB
abbrev pub ended_by : CustomerEntry → ℕ → Kind → Ending → ℕ → Receiver → CustomerSpool → ReceiverStep
ended_by entry l kind EndOfFile srcb receiver last = received_arrival entry l kind receiver (Data srcb []) last
ended_by entry l kind GivenUp srcb receiver last = received_arrival entry l kind receiver Abort last
ended_by entry l kind CutOff srcb receiver last = received_nothing Idle (without_open receiver last)

-- In the end: the stream, the customer's spool, and all that was answered and told.
pub record Followed : Type 0 where
  pub receiver : Receiver
  pub spool : CustomerSpool
  pub answers : List ControlRcb
  pub notices : List Notice

abbrev pub some_list : {A : Type 0} → Option A → List A
some_list None = []
some_list (Some x) = x ∷ []

abbrev pub alone_outcome : ReceiverStep → Followed
alone_outcome done = record {
  receiver = done.receiver;
  spool = done.spool;
  answers = some_list done.answer;
  notices = some_list done.notice;
}

abbrev pub before : ReceiverStep → Followed → Followed
before done rest =
    record rest { answers = some_list done.answer ++ rest.answers; notices = some_list done.notice ++ rest.notices }

-- through all moments, and then the end, which finds the spool so
abbrev pub outcome_of_moments : CustomerEntry → ℕ → Kind → Ending → ℕ → CustomerSpool → Receiver → List Moment
    → Followed
outcome_of_moments entry l kind ending srcb last receiver [] =
    alone_outcome (ended_by entry l kind ending srcb receiver last)
outcome_of_moments entry l kind ending srcb last receiver (m ∷ ms) =
    let done = received_arrival entry l kind receiver (arrival_at m) (found_at m) in
    before done (outcome_of_moments entry l kind ending srcb last done.receiver ms)

-- a stream's open file is in one spool as in another
abbrev pub IsSameFile : Receiver → CustomerSpool → CustomerSpool → Type 0
IsSameFile Idle left found = Unit {0}
IsSameFile (Open n progress) left found = partial_numbered n found ≡ partial_numbered n left
IsSameFile Draining left found = Unit {0}

-- nothing else touches the stream's open file: each arrival finds it as the one before left it
abbrev pub IsUntouched : CustomerEntry → ℕ → Kind → CustomerSpool → Receiver → CustomerSpool → List Moment → Type 0
IsUntouched entry l kind last receiver left [] = IsSameFile receiver left last
IsUntouched entry l kind last receiver left (m ∷ ms) =
    let done = received_arrival entry l kind receiver (arrival_at m) (found_at m) in
    IsSameFile receiver left (found_at m) × IsUntouched entry l kind last done.receiver done.spool ms

-- the spool with the partial file of a number as its last whole one, of these records
abbrev pub with_file : ℕ → Kind → List Stored → CustomerSpool → CustomerSpool
with_file n kind records s =
    with_arrived (record { number = n; kind = kind; records = records; state = Ready }) (without_partial n s)

-- What a transmission that became this answers, tells and leaves. One that is cancelled abandons its file at once.
abbrev pub following_from : TransmissionOutcome → ℕ → Kind → List Stored → CustomerSpool → Followed
following_from (AFile records) n kind came last =
    record { receiver = Idle; spool = with_file n kind records last; answers = Completion ∷ []; notices = [] }
following_from NotWhole n kind came last =
    record { receiver = Idle; spool = without_partial n last; answers = Refusal ∷ []; notices = [] }
following_from (CancelledBy text) n kind came last =
    record {
      receiver = Idle;
      spool = last;
      answers = Refusal ∷ [];
      notices = some_list (notice_of (file_owner came) text);
    }
following_from Dropped n kind came last =
    record { receiver = Idle; spool = without_partial n last; answers = []; notices = [] }
