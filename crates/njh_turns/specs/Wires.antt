-- One turn of a wire: what its read answered, what the hub hears of that, and what passes on the wire.
use Rattle.std.specs.Prelude.{◌≡◌, ℕ, ◌<◌, ◌≤◌, List, [], ◌∷◌, map, take, Option, Some, None, Result, Ok}
use Rattle.std.specs.Prelude.{Err, IsSome, ⊤, Vec, vec_capacity, slice_set}
use Rattle.njh_bisync.specs.Limits.{longest_frame}
use Rattle.njh_table.specs.declared.LineId.{LineId}
use Rattle.njh_hub.specs.declared.event.Event.{Event}
use Rattle.njh_hub.specs.declared.event.Event.TheVariants.{Lost}
use Rattle.njh_hub.specs.Cuts.{SendsAt, cut_to, run_until}
use Rattle.njh_hub.specs.OwnEvents.{line_of_event}
use Rattle.njh_hub.specs.Sent.{IsCounted}
use Rattle.njh_hub.specs.WholeHub.{Part, SameLines, hub_run}
use Rattle.njh_turns.specs.declared.wire_reading.Reading.{Reading}
use Rattle.njh_turns.specs.declared.wire_reading.Reading.TheVariants as reading
use Rattle.njh_turns.specs.declared.wire_reading.WireFault.{WireFault}

-- ---- what a wire does

-- What a read of a wire answered.
pub data Heard : Type 0 where
  Came : (piece : List ℕ) → Heard
  Quiet : Heard
  Pending : Heard
  Prompted : Heard
  Closed : Heard
  Absent : Heard
  Failed : Heard

abbrev pub heard_of : Result Reading WireFault → List ℕ → Heard
heard_of (Ok (reading.Bytes n)) buffer = Came (take n buffer)
heard_of (Ok reading.Quiet) buffer = Quiet
heard_of (Ok reading.Pending) buffer = Pending
heard_of (Ok reading.Prompted) buffer = Prompted
heard_of (Ok reading.Closed) buffer = Closed
heard_of (Ok reading.Absent) buffer = Absent
heard_of (Err fault) buffer = Failed

-- at least one byte came, and no more than there was room for
abbrev pub IsReading : ℕ → Reading → Type 0
IsReading room (reading.Bytes n) = (0 < n) × (n ≤ room)
IsReading room reading.Quiet = ⊤
IsReading room reading.Pending = ⊤
IsReading room reading.Prompted = ⊤
IsReading room reading.Closed = ⊤
IsReading room reading.Absent = ⊤

-- What passes on a wire: the answer of a read that isn't pending, a frame that was written, and one whose write failed.
pub data WireAct : Type 0 where
  Answered : (heard : Heard) → WireAct
  Sent : (frame : List ℕ) → WireAct
  Unsent : (frame : List ℕ) → WireAct

-- What a type of wires says of them: that this passed between two states of a wire, in this order, and nothing else;
-- that between two no byte went out, so that what was written waits; and how often it failed.
pub record WireSays (W : Type 0) : Type 1 where
  pub passed : W → W → List WireAct → Type 0
  pub withheld : W → W → Type 0
  pub count : W → ℕ

-- what passes by an answer: the answer, and nothing where it is pending
abbrev pub answer_acts : Heard → List WireAct
answer_acts (Came piece) = Answered (Came piece) ∷ []
answer_acts Quiet = Answered Quiet ∷ []
answer_acts Pending = []
answer_acts Prompted = Answered Prompted ∷ []
answer_acts Closed = Answered Closed ∷ []
answer_acts Absent = Answered Absent ∷ []
answer_acts Failed = Answered Failed ∷ []

-- ---- an event of a wire

-- the loss of the line that an event came on
abbrev pub loss_of : Option LineId → List Event
loss_of None = []
loss_of (Some line) = Lost line ∷ []

-- What the hub hears of an event. Where a write failed, the bytes behind it are dropped and the line is lost.
abbrev pub heard_events : Option ℕ → Event → List Event
heard_events None event = event ∷ []
heard_events (Some n) event = cut_to n event ∷ loss_of (line_of_event event)

abbrev pub sent_act : LineId × List ℕ → WireAct
sent_act pair = Sent pair.1

-- a frame of a step, where one was sent
abbrev pub frame_acts : List ℕ → List WireAct
frame_acts [] = []
frame_acts (b ∷ frame) = Sent (b ∷ frame) ∷ []

-- frames of which the last could not be written
abbrev pub last_unsent : List (LineId × List ℕ) → List WireAct
last_unsent [] = []
last_unsent (pair ∷ pairs) = elim pairs [ [] ↦ Unsent pair.1 ∷ [] | next ∷ more ↦ sent_act pair ∷ last_unsent pairs ]

-- Each frame that the hub sends is written, up to one whose write fails.
abbrev pub write_acts : List Part → Option ℕ → Event → List WireAct
write_acts parts None event = map sent_act (hub_run parts (event ∷ [])).sent
write_acts parts (Some n) event = last_unsent (run_until parts n event).sent

abbrev pub IsStop : List Part → Option ℕ → Event → Type 0
IsStop parts None event = ⊤
IsStop parts (Some n) event = SendsAt parts event n

-- A step on a line in the room that `out` has: it leads that line's customer to `after` and no other anywhere.
pub record IsTaken {Z : Type 0} (parts : List Part) (id : LineId) (after : Part) (sent : List ℕ) (new : List Part)
    (new_out : Vec ℕ Z) : Type 0 where
  pub hub : new ≡ slice_set parts id.customer after
  pub frame : new_out.items ≡ sent
  pub lines : SameLines parts new
  pub room : longest_frame ≤ vec_capacity new_out

-- A hub and a wire of one of its lines, at one moment.
pub record HubWire (W : Type 0) : Type 0 where
  pub parts : List Part
  pub wire : W

abbrev pub hub_wire : {W : Type 0} → List Part → W → HubWire W
hub_wire parts wire = record { parts = parts; wire = wire }

-- What came of an event of a wire. `cut` says whether a write failed, and how many bytes of the event were used then.
pub record IsDone {W : Type 0} (says : WireSays W) (before : HubWire W) (event : Event) (cut : Option ℕ)
    (after : HubWire W) : Type 0 where
  pub hub : after.parts ≡ (hub_run before.parts (heard_events cut event)).parts
  pub acts : says.passed before.wire after.wire (write_acts before.parts cut event)
  pub stop : IsStop before.parts cut event
  pub counts : says.count before.wire ≤ says.count after.wire
  pub counted : IsSome cut → IsCounted (says.count before.wire) (says.count after.wire)
