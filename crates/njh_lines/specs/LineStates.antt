-- How lines are served: with connections, with none, or with none once no file is on their streams.
use Rattle.std.specs.Prelude.{◌≡◌, ◌≢◌, ℕ, Bool, true, false, ◌==◌, ◌&&◌, List, slice_get}
use Rattle.std.specs.Prelude.{Option, Some, None}
use Rattle.std.specs.Prelude.{if◌then◌else◌}
use Rattle.std.specs.Option.{option_map}
use Rattle.njh_table.specs.declared.address_range.AddressRange.{AddressRange}
use Rattle.njh_table.specs.declared.LineId.{LineId}
use Rattle.njh_hub.specs.WholeHub.{Part}
use Rattle.njh_log.specs.declared.entry.LogEvent.{LogEvent}
use Rattle.njh_log.specs.declared.entry.LogEvent.TheVariants.{LineStarted, LineDrains, LineStopped}
use Rattle.njh_request.specs.declared.request.LineState.{LineState}
use Rattle.njh_request.specs.declared.request.LineState.TheVariants.{Started, Draining, Stopped}
use Rattle.njh_request.specs.declared.request.LineWish.{LineWish}
use Rattle.njh_request.specs.declared.request.LineWish.TheVariants as wish
use Rattle.njh_request.specs.declared.request.EndMoment.TheVariants.{AtOnce, WhenIdle}
use Rattle.njh_sight.specs.Streams.{is_free}
use Rattle.njh_lines.specs.Watching.{ServedLine}

abbrev pub is_stopped : LineState → Bool
is_stopped Started = false
is_stopped Draining = false
is_stopped Stopped = true

abbrev pub is_draining : LineState → Bool
is_draining Started = false
is_draining Draining = true
is_draining Stopped = false

-- ---- what the operator wants

-- a line that is to be stopped once it is idle stays stopped if it is
abbrev pub state_wished : LineWish → LineState → LineState
state_wished wish.Started state = Started
state_wished (wish.Stopped AtOnce) state = Stopped
state_wished (wish.Stopped WhenIdle) Started = Draining
state_wished (wish.Stopped WhenIdle) Draining = Draining
state_wished (wish.Stopped WhenIdle) Stopped = Stopped

abbrev pub is_line : LineId → LineId → Bool
is_line id other = id.customer == other.customer && id.number == other.number

abbrev pub with_state : LineState → ServedLine → ServedLine
with_state state line = record line { state = state }

-- its peer may connect from there from now on
abbrev pub with_from : List AddressRange → ServedLine → ServedLine
with_from from line = record line { from = from }

abbrev pub state_after : LineId → LineWish → (line : LineId) → LineState → LineState
state_after id wish line state = if is_line id line then state_wished wish state else state

-- a line, once the one of this id is to be so
abbrev pub line_wished : LineId → LineWish → ServedLine → ServedLine
line_wished id wish line = with_state (state_after id wish line.id line.state) line

-- ---- what a round makes of it

-- a line that drains is stopped at the end of a round after which no file is on its streams
abbrev pub state_settled : (is_free : Bool) → LineState → LineState
state_settled is_free state = if is_draining state && is_free then Stopped else state

abbrev pub line_settled : List Part → ServedLine → ServedLine
line_settled parts line = with_state (state_settled (is_free line.id parts) line.state) line

-- ---- all lines

-- Of each line there is this now, at its place, and there is no other.
abbrev pub AreMade : (ServedLine → ServedLine) → (old new : List ServedLine) → Type 0
AreMade made old new = (place : ℕ) → slice_get new place ≡ option_map made (slice_get old place)

-- So it is with the line at one place, if there is one. Of the others nothing changed.
pub record IsMadeAt (place : ℕ) (made : ServedLine → ServedLine) (old new : List ServedLine) : Type 0 where
  pub own : slice_get new place ≡ option_map made (slice_get old place)
  pub others : (other : ℕ) → other ≢ place → slice_get new other ≡ slice_get old other

-- none is to be stopped once no file is on its streams
abbrev pub NoneDrains : List ServedLine → Type 0
NoneDrains lines = (place : ℕ) (line : ServedLine) → slice_get lines place ≡ Some line
    → is_draining line.state ≡ false

-- no file is on the streams of any line
abbrev pub AreFree : List Part → List ServedLine → Type 0
AreFree parts lines = (place : ℕ) (line : ServedLine) → slice_get lines place ≡ Some line → is_free line.id parts ≡ true

-- ---- what is told

-- a change is told
abbrev pub change_event : (was now : LineState) → Option LogEvent
change_event Started Started = None
change_event Started Draining = Some LineDrains
change_event Started Stopped = Some LineStopped
change_event Draining Started = Some LineStarted
change_event Draining Draining = None
change_event Draining Stopped = Some LineStopped
change_event Stopped Started = Some LineStarted
change_event Stopped Draining = Some LineDrains
change_event Stopped Stopped = None
