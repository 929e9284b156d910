-- One arrival on a stream to the hub: the stream, the spool and the answer after it, and what the owner of the file is
-- told.
use Rattle.std.specs.Prelude.{ℕ, Bool, true, false, List, [], ◌∷◌, ◌++◌, Option, Some, None, ◌&&◌}
use Rattle.std.specs.List.{list_all}
use Rattle.njh_ebcdic.specs.Users.{User}
use Rattle.njh_record.specs.Stored.{Stored, has_srcb}
use Rattle.njh_record.specs.declared.Kind.{Kind}
use Rattle.njh_record.specs.declared.Kind.TheVariants.{In, Out}
use Rattle.njh_block.specs.declared.rcb.ControlRcb.{ControlRcb}
use Rattle.njh_block.specs.declared.rcb.ControlRcb.TheVariants.{Permission, Refusal, Completion}
use Rattle.njh_header.specs.FileHeaders.{file_owner, destination_of}
use Rattle.njh_table.specs.Entries.{CustomerEntry}
use Rattle.njh_spool.specs.CustomerSpool.{CustomerSpool, has_file_room, has_block, next_number, with_new_partial}
use Rattle.njh_spool.specs.CustomerSpool.{partial_records, with_appended, has_room_for, without_partial, with_finished}
use Rattle.njh_stream.specs.declared.receiver.Progress.{Progress}
use Rattle.njh_stream.specs.declared.receiver.Progress.TheVariants.{Beginning, JobHeader, Placed}
use Rattle.njh_stream.specs.declared.receiver.Receiver.{Receiver}
use Rattle.njh_stream.specs.declared.receiver.Receiver.TheVariants.{Idle, Open, Draining}
use Rattle.njh_stream.specs.Transmissions.{RecordVerdict, Taken, Cancelled, Fitting, judged_coming, is_whole}

-- ---- what a stream keeps of a file that comes in

abbrev pub last_srcb : List Stored → ℕ
last_srcb [] = 0
last_srcb (r ∷ []) = r.srcb
last_srcb (r ∷ s ∷ rs) = last_srcb (s ∷ rs)

abbrev pub placement : Kind → List Stored → Progress
placement kind records =
    Placed (elim (destination_of kind records) [ Some d ↦ d.node | None ↦ [] ]) (last_srcb records)

-- how far the file has come
abbrev pub progress_of : Kind → List Stored → Progress
progress_of kind [] = Beginning
progress_of In (r ∷ rs) = placement In (r ∷ rs)
progress_of Out (r ∷ rs) =
    elim (list_all (has_srcb 0xc0) (r ∷ rs)) [ true ↦ JobHeader | false ↦ placement Out (r ∷ rs) ]

-- ---- one arrival

-- What comes on a stream.
pub data Arrival : Type 0 where
  Request : Arrival
  Data : (srcb : ℕ) → (bytes : List ℕ) → Arrival
  Long : Arrival
  Abort : Arrival

-- What the owner of a file is told.
pub record Notice : Type 0 where
  pub whom : User  -- node and user
  pub text : List ℕ

-- After an arrival: the stream, the spool, the answer to the peer, and the notice.
pub record ReceiverStep : Type 0 where
  pub receiver : Receiver
  pub spool : CustomerSpool
  pub answer : Option ControlRcb
  pub notice : Option Notice

-- the file of a stream that is open is given up
abbrev pub without_open : Receiver → CustomerSpool → CustomerSpool
without_open Idle s = s
without_open (Open n progress) s = without_partial n s
without_open Draining s = s

-- a file is asked for, and the quota has room for one or not
abbrev pub requested_where : Bool → Kind → CustomerSpool → ReceiverStep
requested_where true kind s =
    record {
      receiver = Open (next_number s) Beginning;
      spool = with_new_partial kind s;
      answer = Some Permission;
      notice = None;
    }
requested_where false kind s = record { receiver = Idle; spool = s; answer = Some Refusal; notice = None }

abbrev pub received_request : Kind → CustomerSpool → ReceiverStep
received_request kind s = requested_where (has_file_room s && has_block s) kind s

-- a notice for the owner, where there is an owner and something to say
abbrev pub notice_of : Option User → Option (List ℕ) → Option Notice
notice_of None text = None
notice_of (Some whom) None = None
notice_of (Some whom) (Some text) = Some (record { whom = whom; text = text })

-- the file is cancelled
abbrev pub received_cancelling : ℕ → Option Notice → CustomerSpool → ReceiverStep
received_cancelling n notice s =
    record { receiver = Draining; spool = without_partial n s; answer = Some Refusal; notice = notice }

-- a record for an open file, with which its records are these, by the verdict on it
abbrev pub stored_by : RecordVerdict → Kind → ℕ → Stored → List Stored → CustomerSpool → ReceiverStep
stored_by Taken kind n r more s =
    record { receiver = Open n (progress_of kind more); spool = with_appended n r s; answer = None; notice = None }
stored_by (Cancelled text) kind n r more s = received_cancelling n (notice_of (file_owner more) text) s

abbrev pub received_record : CustomerEntry → ℕ → Kind → ℕ → Stored → CustomerSpool → ReceiverStep
received_record entry l kind n r s =
    let earlier = partial_records n s in
    stored_by (judged_coming entry l kind earlier (Fitting r (has_room_for n r s))) kind n r (earlier ++ r ∷ []) s

-- the end of file, of a whole file or not
abbrev pub closed_by : Bool → ℕ → CustomerSpool → ReceiverStep
closed_by true n s = record { receiver = Idle; spool = with_finished n s; answer = Some Completion; notice = None }
closed_by false n s = record { receiver = Idle; spool = without_partial n s; answer = Some Refusal; notice = None }

abbrev pub received_end : ℕ → CustomerSpool → ReceiverStep
received_end n s = closed_by (is_whole (partial_records n s)) n s

abbrev pub received_nothing : Receiver → CustomerSpool → ReceiverStep
received_nothing receiver s = record { receiver = receiver; spool = s; answer = None; notice = None }

abbrev pub received_open : CustomerEntry → ℕ → Kind → ℕ → Arrival → CustomerSpool → ReceiverStep
received_open entry l kind n Request s = received_request kind (without_partial n s)
received_open entry l kind n (Data srcb []) s = received_end n s
received_open entry l kind n (Data srcb (b ∷ bytes)) s =
    received_record entry l kind n (record { srcb = srcb; bytes = b ∷ bytes }) s
received_open entry l kind n Long s = received_cancelling n None s
received_open entry l kind n Abort s = received_nothing Idle (without_partial n s)

-- nothing comes: all but requests is ignored
abbrev pub received_idle : Kind → Arrival → CustomerSpool → ReceiverStep
received_idle kind Request s = received_request kind s
received_idle kind (Data srcb bytes) s = received_nothing Idle s
received_idle kind Long s = received_nothing Idle s
received_idle kind Abort s = received_nothing Idle s

-- the rest of a file that was given up goes by, up to its end
abbrev pub received_draining : Kind → Arrival → CustomerSpool → ReceiverStep
received_draining kind Request s = received_request kind s
received_draining kind (Data srcb []) s = received_nothing Idle s
received_draining kind (Data srcb (b ∷ bytes)) s = received_nothing Draining s
received_draining kind Long s = received_nothing Draining s
received_draining kind Abort s = received_nothing Idle s

-- what an arrival on a line's stream does, of the stream's kind
abbrev pub received_arrival : CustomerEntry → ℕ → Kind → Receiver → Arrival → CustomerSpool → ReceiverStep
received_arrival entry l kind Idle a s = received_idle kind a s
received_arrival entry l kind (Open n progress) a s = received_open entry l kind n a s
received_arrival entry l kind Draining a s = received_draining kind a s

-- the open files of a line's streams are gone
abbrev pub without_all_open : List Receiver → CustomerSpool → CustomerSpool
without_all_open [] s = s
without_all_open (r ∷ rs) s = without_all_open rs (without_open r s)
