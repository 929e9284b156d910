-- What a record is to a stream: whether what it does is known by what the stream is about, or by its bytes.
use Rattle.std.specs.Prelude.{ℕ, Bool, true, false, List, [], ◌∷◌, Option, Some, None, ◌==◌, not, ◌&&◌}
use Rattle.njh_record.specs.Stored.{Stored}
use Rattle.njh_record.specs.declared.Kind.{Kind}
use Rattle.njh_record.specs.declared.Kind.TheVariants.{In, Out}
use Rattle.njh_spool.specs.CustomerSpool.{CustomerSpool, partial_numbered}
use Rattle.njh_table.specs.Entries.{CustomerEntry}
use Rattle.njh_stream.specs.declared.coming.ComingFile.{ComingFile}
use Rattle.njh_stream.specs.declared.coming.StreamRecord.{StreamRecord}
use Rattle.njh_stream.specs.declared.record_class.RecordClass.{RecordClass}
use Rattle.njh_stream.specs.declared.record_class.RecordClass.TheVariants as classes
use Rattle.njh_stream.specs.declared.receiver.Progress.{Progress}
use Rattle.njh_stream.specs.declared.receiver.Progress.TheVariants.{Beginning, JobHeader, Placed}
use Rattle.njh_stream.specs.declared.receiver.Receiver.{Receiver}
use Rattle.njh_stream.specs.declared.receiver.Receiver.TheVariants.{Idle, Open, Draining}
use Rattle.njh_stream.specs.Receiving.{ReceiverStep, received_end, received_nothing, received_record}
use Rattle.njh_stream.specs.code.Agreement.{AgreesWith}

abbrev pub stored_of : StreamRecord → Stored
stored_of r = record { srcb = r.srcb; bytes = r.bytes.now }

-- a data set header that continues no other, by the SRCB of the record before it and its own
abbrev pub begins_data_set : Kind → ℕ → ℕ → Bool
begins_data_set In last srcb = false
begins_data_set Out last srcb = (srcb == 0xe0) && not (last == 0xe0)

-- how far a file has come with a record that is stored as it is; none: the record's bytes say whether it is taken
abbrev pub unread_progress : Kind → Progress → ℕ → Option Progress
unread_progress kind Beginning srcb = None
unread_progress kind JobHeader srcb = elim (srcb == 0xc0) [ true ↦ Some JobHeader | false ↦ None ]
unread_progress kind (Placed node last) srcb =
    elim (begins_data_set kind last srcb) [ true ↦ None | false ↦ Some (Placed node srcb) ]

-- a record with bytes for a file
abbrev pub class_in : ComingFile → Option Progress → RecordClass
class_in file (Some progress) = classes.Stored file progress
class_in file None = classes.Judged file

abbrev pub file_with : ℕ → Kind → Progress → ComingFile
file_with n kind progress = record { number = n; kind = kind; progress = progress }

-- a record of these bytes on a stream of a kind, by what the stream is about
abbrev pub class_of : Kind → Receiver → ℕ → List ℕ → RecordClass
class_of kind Idle srcb bytes = classes.GoesBy Idle
class_of kind Draining srcb [] = classes.GoesBy Idle
class_of kind Draining srcb (b ∷ bytes) = classes.GoesBy Draining
class_of kind (Open n progress) srcb [] = classes.Ends (file_with n kind progress)
class_of kind (Open n progress) srcb (b ∷ bytes) =
    class_in (file_with n kind progress) (unread_progress kind progress srcb)

-- what a record of a class does on a line
abbrev pub received_by : CustomerEntry → ℕ → RecordClass → Stored → CustomerSpool → ReceiverStep
received_by entry l (classes.GoesBy receiver) r s = received_nothing receiver s
received_by entry l (classes.Ends file) r s = received_end file.number s
received_by entry l (classes.Stored file progress) r s = received_record entry l file.kind file.number r s
received_by entry l (classes.Judged file) r s = received_record entry l file.kind file.number r s

-- what is kept of a file is what its records say
abbrev pub IsKept : ComingFile → CustomerSpool → Type 0
IsKept file s = AgreesWith file.kind file.progress (partial_numbered file.number s)
