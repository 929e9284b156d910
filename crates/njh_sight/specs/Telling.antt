-- What is told of files that a line's streams are about no more.
use Rattle.std.specs.Prelude.{◌≡◌, ℕ, ◌+◌, ◌-◌, ◌==◌, min, Bool, true, false, List, Option, Some, None, take}
use Rattle.std.specs.Prelude.{option_map, option_and_then, slice_get}
use Rattle.njh_hub.specs.Views.{file_summary, whole_file_on}
use Rattle.njh_hub.specs.WholeHub.{Part}
use Rattle.njh_hub.specs.declared.file_summary.FileSummaryView.{FileSummaryView}
use Rattle.njh_stream.specs.Receiving.{Notice}
use Rattle.njh_stream.specs.Sending.{file_in}
use Rattle.njh_stream.specs.declared.receiver.Receiver.{Receiver}
use Rattle.njh_stream.specs.declared.receiver.Receiver.TheVariants as receiving
use Rattle.njh_stream.specs.declared.sender.Sender.{Sender}
use Rattle.njh_stream.specs.declared.sender.Sender.TheVariants as sending
use Rattle.njh_spool.specs.declared.State.{State}
use Rattle.njh_spool.specs.declared.State.TheVariants.{Ready, Held, Refused, Sending}
use Rattle.njh_sight.specs.declared.customers.Came.{Came}
use Rattle.njh_sight.specs.declared.customers.FileCount.{FileCount}
use Rattle.njh_log.specs.declared.file_line.FileLine.{FileLine}
use Rattle.njh_log.specs.declared.notice_line.NoticeLine.{NoticeLine}
use Rattle.njh_log.specs.declared.entry.LogEvent.{LogEvent}
use Rattle.njh_log.specs.declared.entry.LogEvent.TheVariants as events

-- What came between two counts of a customer's files: none has left if as many more are there as came, and then these
-- are its newest.
abbrev pub came_between : FileCount → FileCount → Came
came_between was now = record {
  files = min (now.arrived - was.arrived) now.there;
  are_there = min (was.there + (now.arrived - was.arrived)) 18446744073709551615 == now.there;
}

-- a file that came in is the customer's now, and is held or waits
abbrev pub arrival : State → FileLine → LogEvent
arrival Held line = events.FileHeld line
arrival Ready line = events.FileIn line
arrival Refused line = events.FileIn line
arrival Sending line = events.FileIn line

-- A file that came in isn't the customer's. The hub refused it if the rest of it is ignored or its owner was told
-- something; else its peer gave it up, or the session ended.
abbrev pub loss : (stream : ℕ) → (drains : Bool) → (notice : Option NoticeLine) → LogEvent
loss stream drains (Some notice) = events.ComingRefused stream (Some notice)
loss stream true None = events.ComingRefused stream None
loss stream false None = events.ComingCutOff stream

-- a line has the words of a notice, and whom they were for
pub record Copies (notice : Notice) (line : NoticeLine) : Type 0 where
  pub node : line.node ≡ notice.whom.node
  pub user : line.user ≡ notice.whom.user
  pub text : take line.length line.text ≡ notice.text

-- so the hub refused it, and its owner was told this
abbrev pub IsTold : (stream : ℕ) → Notice → LogEvent → Type 0
IsTold stream notice told =
    (line : NoticeLine) × (Copies notice line × (told ≡ events.ComingRefused stream (Some line)))

-- A file went out: it went whole if the customer has it no more and its end was sent; the peer refused it if it is
-- kept as refused; else nothing is told, since it is still to go.
abbrev pub departure : (kept : Option State) → (ended : Bool) → FileLine → Option LogEvent
departure (Some Refused) ended line = Some (events.FileRefused line)
departure (Some Ready) ended line = None
departure (Some Held) ended line = None
departure (Some Sending) ended line = None
departure None true line = Some (events.FileOut line)
departure None false line = None

-- how a customer's whole file waits, if it has one of this number
abbrev pub state_on : (customer file : ℕ) → List Part → Option State
state_on customer file parts =
    option_map (λ (shown : FileSummaryView). shown.state) (option_map file_summary (whole_file_on customer file parts))

-- ---- what streams are about

-- the file that comes in on the stream of a place
abbrev pub file_coming : Receiver → Option ℕ
file_coming receiving.Idle = None
file_coming (receiving.Open file progress) = Some file
file_coming receiving.Draining = None

abbrev pub coming_at : List Receiver → (place : ℕ) → Option ℕ
coming_at receivers place = option_and_then file_coming (slice_get receivers place)

-- the end of a file was sent on a stream, and the peer hasn't said yet that it has it
abbrev pub is_ended : Option Sender → Bool
is_ended None = false
is_ended (Some sending.Idle) = false
is_ended (Some (sending.Requested file)) = false
is_ended (Some (sending.Sending file next)) = false
is_ended (Some (sending.EofSent file)) = true
is_ended (Some sending.Aborting) = false

abbrev pub ended_at : List Sender → (place : ℕ) → Bool
ended_at senders place = is_ended (slice_get senders place)

-- the file that goes out on the stream of a place
abbrev pub going_at : List Sender → (place : ℕ) → Option ℕ
going_at senders place = option_and_then file_in (slice_get senders place)
