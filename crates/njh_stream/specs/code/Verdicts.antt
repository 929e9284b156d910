-- What the code's verdict on a record says.
use Rattle.std.specs.Prelude.{◌≡◌, ℕ, Bool, true, false, List, Option, Some, None, Result, Ok, Err}
use Rattle.std.specs.Prelude.{slice_set}
use Rattle.std.specs.Option.{option_map}
use Rattle.njh_header.specs.Headers.{DataSetHeader, JobHeader, job_name}
use Rattle.njh_header.specs.declared.fault.HeaderFault.{HeaderFault}
use Rattle.njh_record.specs.Stored.{Stored}
use Rattle.njh_record.specs.declared.Kind.{Kind}
use Rattle.njh_stream.specs.declared.receiver.After.{After}
use Rattle.njh_stream.specs.declared.judging.RecordVerdict.{RecordVerdict}
use Rattle.njh_stream.specs.declared.judging.RecordVerdict.TheVariants.{Taken, Cancelled}
use Rattle.njh_stream.specs.declared.receiver.Progress.{Progress}
use Rattle.njh_stream.specs.declared.receiver.Progress.TheVariants.{Placed}
use Rattle.njh_stream.specs.Transmissions as transmissions
use Rattle.njh_spool.specs.CustomerSpool.{CustomerSpool, with_appended}
use Rattle.njh_stream.specs.declared.receiver.Receiver.{Receiver}
use Rattle.njh_stream.specs.declared.receiver.Receiver.TheVariants.{Open}
use Rattle.njh_table.specs.Entries.{CustomerEntry}
use Rattle.njh_stream.specs.code.Classes.{begins_data_set}
use Rattle.njh_stream.specs.Receiving.{ReceiverStep, progress_of, received_cancelling, notice_of}

abbrev pub verdict_value : RecordVerdict → transmissions.RecordVerdict
verdict_value (Taken progress) = transmissions.Taken
verdict_value (Cancelled text) = transmissions.Cancelled (option_map (λ t. t.items) text)

-- a record of a placed file, by the file's node and the SRCB of the last record
abbrev pub judged_placed : Kind → List ℕ → ℕ → ℕ → List ℕ → transmissions.RecordVerdict
judged_placed kind node last srcb bytes =
    elim (begins_data_set kind last srcb)
    [ true ↦ transmissions.judged_against node bytes | false ↦ transmissions.Taken ]

-- where the record is taken, the file has come so far
abbrev pub IsTakenAt : RecordVerdict → Progress → Type 0
IsTakenAt (Taken progress) expected = progress ≡ expected
IsTakenAt (Cancelled text) expected = Unit {0}

abbrev pub IsPlaced : RecordVerdict → List ℕ → ℕ → Type 0
IsPlaced verdict node last = IsTakenAt verdict (Placed node last)

-- where a data set header is taken it reads, and says where the file goes
abbrev pub IsHeaderPlaced : RecordVerdict → Result DataSetHeader HeaderFault → ℕ → Type 0
IsHeaderPlaced (Taken progress) (Ok h) srcb = (progress ≡ Placed h.destination.node srcb) × (srcb ≡ 0xe0)
IsHeaderPlaced (Taken progress) (Err fault) srcb = ⊥
IsHeaderPlaced (Cancelled text) header srcb = Unit {0}

-- where the record is taken, the file has come as far as its records with this one say
abbrev pub IsProgress : RecordVerdict → Kind → List Stored → Type 0
IsProgress (Taken progress) kind records = progress ≡ progress_of kind records
IsProgress (Cancelled text) kind records = Unit {0}

-- a record that is taken, of a file with this job header, where the quota has room for it or not
abbrev pub appended_where : Bool → ℕ → Progress → Option JobHeader → Stored → CustomerSpool → ReceiverStep
appended_where true n progress header r s =
    record { receiver = Open n progress; spool = with_appended n r s; answer = None; notice = None }
appended_where false n progress header r s =
    received_cancelling n (notice_of (option_map (λ h. h.origin) header)
    (transmissions.full_text (option_map job_name header))) s

-- a step's outcome is as said: the stream, the answer, the notice, and the spool of customer c
pub record IsAfter (after : After) (new old : List CustomerSpool) (c : ℕ) (done : ReceiverStep) : Type 0 where
  pub receiver : after.receiver ≡ done.receiver
  pub answer : after.answer ≡ done.answer
  pub notice : after.notice ≡ done.notice
  pub spool : new ≡ slice_set old c done.spool

-- What a record does is known without a look at its bytes: the stream is about this then and nothing is answered, on
-- whatever line it comes and whatever the tables say. Or it isn't known, and nothing is done.
abbrev pub IsUnread : Option Receiver → List CustomerSpool → List CustomerSpool → ℕ → (CustomerEntry → ℕ → ReceiverStep)
    → Type 0
IsUnread None new old c done = new ≡ old
IsUnread (Some receiver) new old c done =
    (entry : CustomerEntry) (l : ℕ)
    → IsAfter (record { receiver = receiver; answer = None; notice = None }) new old c (done entry l)
