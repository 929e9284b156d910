-- What a record is to a stream says what it does.
use Rattle.std.proofs.Common.{◌≡◌, ℕ, List, [], ◌∷◌, Option, Some, None, refl}
use Rattle.njh_record.specs.Stored.{Stored}
use Rattle.njh_record.specs.declared.Kind.{Kind}
use Rattle.njh_table.specs.Entries.{CustomerEntry}
use Rattle.njh_spool.specs.CustomerSpool.{CustomerSpool}
use Rattle.njh_stream.specs.declared.record_class.RecordClass.{RecordClass}
use Rattle.njh_stream.specs.declared.record_class.RecordClass.TheVariants as classes
use Rattle.njh_stream.specs.declared.receiver.Progress.{Progress}
use Rattle.njh_stream.specs.declared.receiver.Receiver.{Receiver}
use Rattle.njh_stream.specs.declared.receiver.Receiver.TheVariants.{Idle, Open, Draining}
use Rattle.njh_stream.specs.Receiving.{Data, received_arrival, received_record}
use Rattle.njh_stream.specs.code.Agreement.{Agrees}
use Rattle.njh_stream.specs.code.Classes.{class_in, class_of, file_with, received_by, unread_progress, IsKept}

pub class_received :
    (entry : CustomerEntry) (l : ℕ) (kind : Kind) (receiver : Receiver) (srcb : ℕ) (bytes : List ℕ) (s : CustomerSpool)
    → received_by entry l (class_of kind receiver srcb bytes) (record { srcb = srcb; bytes = bytes }) s
    ≡ received_arrival entry l kind receiver (Data srcb bytes) s
class_received entry l kind Idle srcb bytes s = refl
class_received entry l kind Draining srcb [] s = refl
class_received entry l kind Draining srcb (b ∷ bytes) s = refl
class_received entry l kind (Open n progress) srcb [] s = refl
class_received entry l kind (Open n progress) srcb (b ∷ bytes) s = at_unread (unread_progress kind progress srcb)
  where
    r : Stored
    r = record { srcb = srcb; bytes = b ∷ bytes }

    at_unread :
        (o : Option Progress) → received_by entry l (class_in (file_with n kind progress) o) r s ≡ received_record entry
        l kind n r s
    at_unread (Some more) = refl
    at_unread None = refl

-- what is known of the file of a record by its class
abbrev pub IsKnown : RecordClass → ℕ → CustomerSpool → Type 0
IsKnown (classes.GoesBy receiver) srcb s = Unit {0}
IsKnown (classes.Ends file) srcb s = IsKept file s
IsKnown (classes.Stored file progress) srcb s =
    IsKept file s × (unread_progress file.kind file.progress srcb ≡ Some progress)
IsKnown (classes.Judged file) srcb s = IsKept file s × (unread_progress file.kind file.progress srcb ≡ None)

pub class_known :
    (kind : Kind) (receiver : Receiver) (srcb : ℕ) (bytes : List ℕ) (s : CustomerSpool) → Agrees kind receiver s
    → IsKnown (class_of kind receiver srcb bytes) srcb s
class_known kind Idle srcb bytes s agrees = tt
class_known kind Draining srcb [] s agrees = tt
class_known kind Draining srcb (b ∷ bytes) s agrees = tt
class_known kind (Open n progress) srcb [] s agrees = agrees
class_known kind (Open n progress) srcb (b ∷ bytes) s agrees = at_unread (unread_progress kind progress srcb) refl
  where
    at_unread :
        (o : Option Progress) → unread_progress kind progress srcb ≡ o
        → IsKnown (class_in (file_with n kind progress) o) srcb s
    at_unread (Some more) e = (agrees, e)
    at_unread None e = (agrees, e)
