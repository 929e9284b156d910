-- What is counted of a line's files and commands since the service began: one for each thing that was told of it, and
-- the requests that were refused.
use Rattle.std.specs.Prelude.{ℕ, zero, suc, ◌+◌, ◌-◌, ◌*◌, Bool, true, false, ◌&&◌, ◌||◌, ◌==◌, nat_lt, min}
use Rattle.std.specs.Prelude.{if◌then◌else◌, List, Option, Some, None, slice_get}
use Rattle.njh_block.specs.Blocks.{stream_of}
use Rattle.njh_log.specs.declared.entry.LogEvent.{LogEvent}
use Rattle.njh_log.specs.declared.entry.LogEvent.TheVariants as events
use Rattle.njh_log.specs.declared.notice_line.NoticeLine.{NoticeLine}
use Rattle.njh_sight.specs.Steps.{byte_at}
use Rattle.njh_sight.specs.declared.tally.Answering.{Answering}
use Rattle.njh_sight.specs.declared.tally.FileRefusal.{FileRefusal}
use Rattle.njh_sight.specs.declared.tally.FileRefusal.TheVariants.{Files, Quota, Route, Other}
use Rattle.njh_sight.specs.declared.tally.FileRefusals.{FileRefusals}
use Rattle.njh_sight.specs.declared.tally.Tally.{Tally}

abbrev pub no_tally : Tally
no_tally = record {
  files_in = 0;
  records_in = 0;
  files_out = 0;
  records_out = 0;
  cut_off = 0;
  returned = 0;
  refused = record { files = 0; quota = 0; route = 0; other = 0 };
  commands = 0;
}

-- so many more, as far as a count goes
abbrev pub plus : (count more : ℕ) → ℕ
plus count more = min (count + more) 18446744073709551615

-- ---- what is told of files

-- a file of so many records came whole, or went
abbrev pub came_in : (records : ℕ) → Tally → Tally
came_in records t = record t { files_in = plus t.files_in 1; records_in = plus t.records_in records }

abbrev pub went_out : (records : ℕ) → Tally → Tally
went_out records t = record t { files_out = plus t.files_out 1; records_out = plus t.records_out records }

abbrev pub refusals_with : FileRefusal → FileRefusals → FileRefusals
refusals_with Files r = record r { files = plus r.files 1 }
refusals_with Quota r = record r { quota = plus r.quota 1 }
refusals_with Route r = record r { route = plus r.route 1 }
refusals_with Other r = record r { other = plus r.other 1 }

-- the hub refused a file
abbrev pub turned_away : FileRefusal → Tally → Tally
turned_away why t = record t { refused = refusals_with why t.refused }

-- why it did, by the last two digits of what the owner was told: NJH020 or NJH021, in EBCDIC
abbrev pub refusal_by_number : (tens ones : ℕ) → FileRefusal
refusal_by_number tens ones =
    if (tens == 0xF2) && (ones == 0xF0) then Route else
    if (tens == 0xF2) && (ones == 0xF1) then Quota else Other

abbrev pub refusal_told : Option NoticeLine → FileRefusal
refusal_told (Some notice) = refusal_by_number (byte_at notice.text 4) (byte_at notice.text 5)
refusal_told None = Other

-- Of a file that came whole and left in the same step it isn't known how many records it had. What isn't told of a
-- file isn't counted.
abbrev pub counted : LogEvent → Tally → Tally
counted (events.FileIn line) t = came_in line.records t
counted (events.FileHeld line) t = came_in line.records t
counted (events.FileLeft stream) t = came_in 0 t
counted (events.FileOut line) t = went_out line.records t
counted (events.FileRefused line) t = record t { returned = plus t.returned 1 }
counted (events.ComingRefused stream notice) t = turned_away (refusal_told notice) t
counted (events.ComingCutOff stream) t = record t { cut_off = plus t.cut_off 1 }
counted _ t = t

abbrev pub with_commands : (commands : ℕ) → Tally → Tally
with_commands commands t = record t { commands = plus t.commands commands }

-- ---- requests that are refused

-- where there is no room for a file: it is its customer's quota if no block is left of that, else its number of files
abbrev pub room_refusal : (used quota : ℕ) → FileRefusal
room_refusal used quota = if nat_lt used quota then Files else Quota

-- permission, refusal, completion
abbrev pub is_answer : (rcb : ℕ) → Bool
is_answer rcb = (rcb == 0xA0) || ((rcb == 0xB0) || (rcb == 0xC0))

-- A refusal on the stream of a place: if no file came there before, a request was refused; else a file was, which is
-- told by itself.
abbrev pub coming_counted : (place : ℕ) → (coming : List (Option ℕ)) → FileRefusal → Tally → Tally
coming_counted place coming why t = elim (slice_get coming place) [
  | None ↦ t
  | Some file ↦ elim (file) [ None ↦ turned_away why t | Some number ↦ t ]
]

-- one that names a stream, which the line may not have
abbrev pub refusal_counted : (named : ℕ) → (coming : List (Option ℕ)) → Answering → Tally → Tally
refusal_counted named coming known t = elim (stream_of (min known.streams 4) named) [
  | None ↦ turned_away Other t
  | Some place ↦ coming_counted place coming known.why t
]

abbrev pub answer_counted : (rcb named : ℕ) → (coming : List (Option ℕ)) → Answering → Tally → Tally
answer_counted rcb named coming known t = if rcb == 0xB0 then refusal_counted named coming known t else t

-- The answers in front of a block, of which there are 32 at most: each has three bytes, behind the five that a text
-- begins with. So many may still come.
abbrev pub answers_counted : (left : ℕ) → (frame : List ℕ) → (coming : List (Option ℕ)) → Answering → Tally → Tally
answers_counted zero frame coming known t = t
answers_counted (suc left) frame coming known t =
    let place = 5 + 3 * (32 - suc left) in elim (is_answer (byte_at frame place)) [
      | true ↦ answers_counted left frame coming known
          (answer_counted (byte_at frame place) (byte_at frame (place + 1)) coming known t)
      | false ↦ t
    ]
