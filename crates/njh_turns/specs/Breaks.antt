-- Where a keeper's fault breaks off a turn of a wire, a round or a service: what the hub was told up to there, what
-- passed on the wires, and what a crash may leave.
use Rattle.std.specs.Prelude.{◌≡◌, ◌⊎◌, ℕ, ◌+◌, ◌<◌, ◌≤◌, List, [], ◌∷◌, ◌++◌, length, map, Some}
use Rattle.std.specs.Prelude.{slice_index_or, slice_set, ⊤}
use Rattle.njh_table.specs.declared.LineId.{LineId}
use Rattle.njh_hub.specs.declared.event.Event.{Event}
use Rattle.njh_hub.specs.OwnEvents.{bytes_in_event, first_bytes}
use Rattle.njh_hub.specs.Resting.{IsResting}
use Rattle.njh_hub.specs.Sent.{IsCounted}
use Rattle.njh_hub.specs.WholeHub.{Part, hub_run}
use Rattle.njh_hub.specs.Cuts.{SendsAt, cut_to, run_until}
use Rattle.njh_turns.specs.Keeping.{KeptFile, LeavesEither, LeavesOnly}
use Rattle.njh_turns.specs.Service.{CanBeGiven, IsAttended}
use Rattle.njh_turns.specs.Turns.{Turn, HubMoment, HubWires, IsRound, IsServed, all_quiets, hub_wires, moment}
use Rattle.njh_turns.specs.Turns.{no_line_id}
use Rattle.njh_turns.specs.Turns.{no_quiets, wire_event}
use Rattle.njh_turns.specs.Wires.{Heard, Prompted, Failed, WireAct, answer_acts, heard_events, sent_act}
use Rattle.njh_turns.specs.Wires.{write_acts, WireSays, HubWire, hub_wire}

-- ---- an event of a wire

-- At which step of an event the keeper failed: at one of the event's own, of whose bytes so many were used before it
-- and so many behind it; or at the loss of the line, since a frame could not be written when so many were used.
pub data Break : Type 0 where
  AtStep : (before behind : ℕ) → Break
  AtLoss : (cut : ℕ) → Break

-- what the hub was told with that step
abbrev pub events_behind : Break → Event → List Event
events_behind (AtStep before behind) event = cut_to behind event ∷ []
events_behind (AtLoss cut) event = heard_events (Some cut) event

-- Each frame of what came before that step was written, up to one whose write fails; none of that step's.
abbrev pub acts_before : List Part → Break → Event → List WireAct
acts_before parts (AtStep before behind) event = map sent_act (hub_run parts (first_bytes (Some event) before)).sent
acts_before parts (AtLoss cut) event = write_acts parts (Some cut) event

-- a step by the event sends at most one frame; a line is lost where a frame was sent
abbrev pub IsBreak : List Part → Break → Event → Type 0
IsBreak parts (AtStep before behind) event =
    (before ≤ behind) × (behind ≤ bytes_in_event event)
    × (length (run_until parts behind event).sent ≤ length (hub_run parts (first_bytes (Some event) before)).sent + 1)
IsBreak parts (AtLoss cut) event = SendsAt parts event cut

-- a write had failed
abbrev pub IsAtLoss : Break → Type 0
IsAtLoss (AtStep before behind) = ⊥
IsAtLoss (AtLoss cut) = ⊤

-- The keeper failed at a step of an event of a wire.
pub record EventBreaks {W : Type 0} (says : WireSays W) (before : HubWire W) (event : Event) (break : Break)
    (after : HubWire W) : Type 0 where
  pub hub : after.parts ≡ (hub_run before.parts (events_behind break event)).parts
  pub acts : says.passed before.wire after.wire (acts_before before.parts break event)
  pub stop : IsBreak before.parts break event
  pub counts : says.count before.wire ≤ says.count after.wire
  pub counted : IsAtLoss break → IsCounted (says.count before.wire) (says.count after.wire)

-- ---- a turn

-- A turn that is broken off: what its read answered, the event that came of it, and where the keeper failed.
pub record BrokenTurn : Type 0 where
  pub heard : Heard
  pub event : Event
  pub break : Break

pub record TurnBreaks {W : Type 0} (says : WireSays W) (id : LineId) (quiet : ℕ) (before : HubWire W)
    (turn : BrokenTurn) (after : HubWire W) : Type 0 where
  pub told : wire_event id quiet turn.heard ≡ Some turn.event
  pub hub : after.parts ≡ (hub_run before.parts (events_behind turn.break turn.event)).parts
  pub acts : says.passed before.wire after.wire
      (answer_acts turn.heard ++ acts_before before.parts turn.break turn.event)
  pub stop : IsBreak before.parts turn.break turn.event
  pub prompted : turn.heard ≡ Prompted → IsResting before.parts id
  pub counts : says.count before.wire ≤ says.count after.wire
  pub counted : (turn.heard ≡ Failed) ⊎ IsAtLoss turn.break
      → IsCounted (says.count before.wire) (says.count after.wire)

-- ---- a round

-- no byte went out of any of these wires
abbrev pub AreWithheld : {W : Type 0} → WireSays W → (wires new_wires : List W) → Type 0
AreWithheld {W} says wires new_wires =
    (i : ℕ) (d : W) → says.withheld (slice_index_or wires i d) (slice_index_or new_wires i d)

-- The first wires of a round had these turns, the next one's was broken off, and nothing passed on the others.
pub record RoundStops {W : Type 0} (says : WireSays W) (lines : List LineId) (before : HubMoment W)
    (after : HubWires W) : Type 0 where
  pub turns : List Turn
  pub mid : HubMoment W
  pub had : IsRound says lines before turns mid
  pub within : length turns < length lines
  pub turn : BrokenTurn
  pub new_wire : W
  pub breaks : (d : W) → TurnBreaks says (slice_index_or lines (length turns) no_line_id)
      (slice_index_or mid.quiets (length turns) 0) (hub_wire mid.parts (slice_index_or mid.wires (length turns) d)) turn
      (hub_wire after.parts new_wire)
  pub wires_left : after.wires ≡ slice_set mid.wires (length turns) new_wire

-- All wires of a round had their turns, and what these made of the files could not be kept.
pub record IsUnkept {W : Type 0} (says : WireSays W) (lines : List LineId) (before : HubMoment W)
    (after : HubWires W) : Type 0 where
  pub turns : List Turn
  pub whole : length turns ≡ length lines
  pub new_quiets : List ℕ
  pub round : IsRound says lines before turns (moment after.parts new_quiets after.wires)

-- The keeper failed in a round: in one of its turns, and then a crash leaves what the hub had before the round; or
-- behind them, and then it leaves that or what the hub has behind the round. No byte of the round went out.
pub record RoundBreaks {W : Type 0} (says : WireSays W) (may_leave : List (List KeptFile) → Type 0)
    (lines : List LineId) (before : HubMoment W) (after : HubWires W) : Type 0 where
  pub breaks : (RoundStops says lines before after × LeavesOnly may_leave before.parts)
      ⊎ (IsUnkept says lines before after × LeavesEither may_leave before.parts after.parts)
  pub none_out : AreWithheld says before.wires after.wires

-- So many rounds less than there were to be, and then one that was broken off.
pub record TurnsBreak {W : Type 0} (says : WireSays W) (may_leave : List (List KeptFile) → Type 0)
    (lines : List LineId) (turns : ℕ) (before after : HubWires W) : Type 0 where
  pub rounds : ℕ
  pub fewer : rounds < turns
  pub mid : HubMoment W
  pub served : IsServed says lines rounds before (hub_wires mid.parts mid.wires)
  pub calm : mid.quiets ≡ all_quiets (no_quiets lines) served.rounds
  pub breaks : RoundBreaks says may_leave lines mid after

-- ---- a service

-- The keeper failed when a customer was given new routes or an order, which it can be given.
pub record GivenBreak (may_leave : List (List KeptFile) → Type 0) (parts : List Part) (event : Event)
    (new : List Part) : Type 0 where
  pub can : CanBeGiven parts event
  pub hub : new ≡ (hub_run parts (event ∷ [])).parts
  pub left : LeavesEither may_leave parts new

-- A service of fewer rounds than there were to be. Then the keeper failed: where a customer was given what the
-- attendant brought, and nothing passed on any wire after that; or in a round.
pub record ServiceBreaks {W : Type 0} (says : WireSays W) (may_leave : List (List KeptFile) → Type 0)
    (steers : Type 0) (lines : List LineId) (turns : ℕ) (before : HubMoment W) (after : HubWires W) : Type 0 where
  pub rounds : ℕ
  pub fewer : rounds < turns
  pub mid : HubMoment W
  pub attended : IsAttended says steers ⊥ lines rounds before mid
  pub breaks : (steers × (event : Event) × GivenBreak may_leave mid.parts event after.parts
      × (after.wires ≡ mid.wires)) ⊎ RoundBreaks says may_leave lines mid after
