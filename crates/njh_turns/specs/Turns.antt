-- Turns of wires: one of one wire, and turn after turn of many, wire by wire in their order.
use Rattle.std.specs.Prelude.{◌≡◌, ℕ, ◌+◌, ◌<◌, ◌≤◌, ◌==◌, ◌⊎◌, cond, List, [], ◌∷◌, ◌++◌, length, replicate, take}
use Rattle.std.specs.Prelude.{Option, Some, None, IsSome, slice_index_or, All}
use Rattle.std.specs.List.{flat_map}
use Rattle.njh_table.specs.declared.LineId.{LineId}
use Rattle.njh_hub.specs.declared.event.Event.{Event}
use Rattle.njh_hub.specs.declared.event.Event.TheVariants.{Bytes, Tick, Lost}
use Rattle.njh_hub.specs.Resting.{IsResting}
use Rattle.njh_hub.specs.Sent.{IsCounted}
use Rattle.njh_hub.specs.WholeHub.{Part, hub_run}
use Rattle.njh_turns.specs.Wires.{Heard, Came, Quiet, Pending, Prompted, Closed, Absent, Failed, WireAct, WireSays}
use Rattle.njh_turns.specs.Wires.{HubWire, answer_acts, heard_events, write_acts, IsStop}

-- ---- one turn

-- What a wire did in a turn: what its read answered; and if a write failed, how many bytes of what came were used then.
pub record Turn : Type 0 where
  pub heard : Heard
  pub cut : Option ℕ

-- What the hub is told of an answer: bytes that came; a tick, at the tenth quiet in a row or where the wire was
-- prompted; the loss of a line that was closed or could not be read.
abbrev pub wire_event : LineId → ℕ → Heard → Option Event
wire_event id quiet (Came piece) = Some (Bytes id piece)
wire_event id quiet Quiet = cond (quiet == 9) (Some (Tick id)) None
wire_event id quiet Pending = None
wire_event id quiet Prompted = Some (Tick id)
wire_event id quiet Closed = Some (Lost id)
wire_event id quiet Absent = None
wire_event id quiet Failed = Some (Lost id)

-- the quiets in a row, of which a tenth begins anew; an answer that is pending leaves them as they are
abbrev pub quiet_after : ℕ → Heard → ℕ
quiet_after quiet (Came piece) = 0
quiet_after quiet Quiet = cond (quiet == 9) 0 (quiet + 1)
quiet_after quiet Pending = quiet
quiet_after quiet Prompted = 0
quiet_after quiet Closed = 0
quiet_after quiet Absent = 0
quiet_after quiet Failed = 0

abbrev pub told_where : Option ℕ → Option Event → List Event
told_where cut None = []
told_where cut (Some event) = heard_events cut event

abbrev pub written_where : List Part → Option ℕ → Option Event → List WireAct
written_where parts cut None = []
written_where parts cut (Some event) = write_acts parts cut event

abbrev pub IsStopWhere : List Part → Option ℕ → Option Event → Type 0
IsStopWhere parts cut None = cut ≡ None
IsStopWhere parts cut (Some event) = IsStop parts cut event

-- What came of an answer, as `IsDone` says it of an event.
pub record IsHeard {W : Type 0} (says : WireSays W) (before : HubWire W) (event : Option Event) (cut : Option ℕ)
    (after : HubWire W) : Type 0 where
  pub hub : after.parts ≡ (hub_run before.parts (told_where cut event)).parts
  pub acts : says.passed before.wire after.wire (written_where before.parts cut event)
  pub stop : IsStopWhere before.parts cut event
  pub counts : says.count before.wire ≤ says.count after.wire
  pub counted : IsSome cut → IsCounted (says.count before.wire) (says.count after.wire)

-- the events of a turn
abbrev pub turn_events : LineId → ℕ → Turn → List Event
turn_events id quiet turn = told_where turn.cut (wire_event id quiet turn.heard)

-- What passes on the wire in a turn. Where its answer is pending that is nothing: a wire that isn't visited has such a
-- turn.
abbrev pub turn_acts : List Part → LineId → ℕ → Turn → List WireAct
turn_acts parts id quiet turn = answer_acts turn.heard ++ written_where parts turn.cut (wire_event id quiet turn.heard)

-- a read or a write failed
abbrev pub HasFault : Turn → Type 0
HasFault turn = (turn.heard ≡ Failed) ⊎ IsSome turn.cut

-- A turn of the wire of a line: from a hub and the wire to what it leaves of them. So many quiets came before. It is
-- prompted only where its line rests, of the part of its own customer alone.
pub record IsTurn {W : Type 0} (says : WireSays W) (id : LineId) (quiet : ℕ) (before : HubWire W) (turn : Turn)
    (after : HubWire W) : Type 0 where
  pub hub : after.parts ≡ (hub_run before.parts (turn_events id quiet turn)).parts
  pub acts : says.passed before.wire after.wire (turn_acts before.parts id quiet turn)
  pub stop : IsStopWhere before.parts turn.cut (wire_event id quiet turn.heard)
  pub prompted : turn.heard ≡ Prompted → IsResting before.parts id
  pub counts : says.count before.wire ≤ says.count after.wire
  pub counted : HasFault turn → IsCounted (says.count before.wire) (says.count after.wire)

-- ---- a round: each wire has one turn, in their order

-- A hub, the quiets in a row on each wire of some of its lines, and these wires, at one moment.
pub record HubMoment (W : Type 0) : Type 0 where
  pub parts : List Part
  pub quiets : List ℕ
  pub wires : List W

abbrev pub moment : {W : Type 0} → List Part → List ℕ → List W → HubMoment W
moment parts quiets wires = record { parts = parts; quiets = quiets; wires = wires }

-- the events of a round, or of its first turns
abbrev pub round_events : List LineId → List ℕ → List Turn → List Event
round_events [] quiets turns = []
round_events (line ∷ lines) [] turns = []
round_events (line ∷ lines) (quiet ∷ quiets) [] = []
round_events (line ∷ lines) (quiet ∷ quiets) (turn ∷ turns) =
    turn_events line quiet turn ++ round_events lines quiets turns

-- the quiets in a row on each wire; on those without a turn they stay
abbrev pub quiets_after : List ℕ → List Turn → List ℕ
quiets_after [] turns = []
quiets_after (quiet ∷ quiets) [] = quiet ∷ quiets
quiets_after (quiet ∷ quiets) (turn ∷ turns) = quiet_after quiet turn.heard ∷ quiets_after quiets turns

-- A turn with what it begins from.
pub record Placed : Type 0 where
  pub parts : List Part
  pub line : LineId
  pub quiet : ℕ
  pub turn : Turn

abbrev pub no_line_id : LineId
no_line_id = record { customer = 0; number = 0 }

abbrev pub no_turn : Turn
no_turn = record { heard = Absent; cut = None }

-- the i-th wire's turn, behind those of the wires before it
abbrev pub turn_at : List Part → List LineId → List ℕ → ℕ → List Turn → Placed
turn_at parts lines quiets i round = record {
  parts = (hub_run parts (round_events lines quiets (take i round))).parts;
  line = slice_index_or lines i no_line_id;
  quiet = slice_index_or quiets i 0;
  turn = slice_index_or round i no_turn;
}

abbrev pub placed_acts : Placed → List WireAct
placed_acts p = turn_acts p.parts p.line p.quiet p.turn

abbrev pub placed_stop : Placed → Type 0
placed_stop p = IsStopWhere p.parts p.turn.cut (wire_event p.line p.quiet p.turn.heard)

-- the line rests where its wire was prompted
abbrev pub placed_prompt : Placed → Type 0
placed_prompt p = p.turn.heard ≡ Prompted → IsResting p.parts p.line

-- a wire had this turn
pub record HadTurn {W : Type 0} (says : WireSays W) (p : Placed) (wire new_wire : W) : Type 0 where
  pub acts : says.passed wire new_wire (placed_acts p)
  pub stop : placed_stop p
  pub prompted : placed_prompt p
  pub counts : says.count wire ≤ says.count new_wire
  pub counted : HasFault p.turn → IsCounted (says.count wire) (says.count new_wire)

-- The first wires had these turns of a round, and the others none yet.
pub record IsRound {W : Type 0} (says : WireSays W) (lines : List LineId) (before : HubMoment W) (turns : List Turn)
    (after : HubMoment W) : Type 0 where
  pub hub : after.parts ≡ (hub_run before.parts (round_events lines before.quiets turns)).parts
  pub calm : after.quiets ≡ quiets_after before.quiets turns
  pub had : (i : ℕ) (d : W) → i < length turns →
      HadTurn says (turn_at before.parts lines before.quiets i turns) (slice_index_or before.wires i d)
      (slice_index_or after.wires i d)
  pub rest : (i : ℕ) (d : W) → length turns ≤ i
      → slice_index_or after.wires i d ≡ slice_index_or before.wires i d

-- ---- round after round

-- Lines, and the quiets in a row on the wire of each.
pub record LineQuiets : Type 0 where
  pub lines : List LineId
  pub quiets : List ℕ

abbrev pub all_events : List LineId → List ℕ → List (List Turn) → List Event
all_events lines quiets [] = []
all_events lines quiets (round ∷ rounds) =
    round_events lines quiets round ++ all_events lines (quiets_after quiets round) rounds

-- the quiets in a row after these rounds
abbrev pub all_quiets : List ℕ → List (List Turn) → List ℕ
all_quiets quiets [] = quiets
all_quiets quiets (round ∷ rounds) = all_quiets (quiets_after quiets round) rounds

-- the turns of the i-th wire
abbrev pub turns_of : List Part → List LineId → List ℕ → ℕ → List (List Turn) → List Placed
turns_of parts lines quiets i [] = []
turns_of parts lines quiets i (round ∷ rounds) = turn_at parts lines quiets i round
    ∷ turns_of (hub_run parts (round_events lines quiets round)).parts lines (quiets_after quiets round) i rounds

-- A wire had these turns, and nothing else passed on it.
pub record HadTurns {W : Type 0} (says : WireSays W) (turns : List Placed) (wire new_wire : W) : Type 0 where
  pub acts : says.passed wire new_wire (flat_map placed_acts turns)
  pub stops : All placed_stop turns
  pub prompts : All placed_prompt turns
  pub counts : says.count wire ≤ says.count new_wire
  pub counted : All (λ p. HasFault p.turn → IsCounted (says.count wire) (says.count new_wire)) turns

-- the quiets in a row before the first round
abbrev pub no_quiets : List LineId → List ℕ
no_quiets lines = replicate (length lines) 0

-- A hub and the wires of some of its lines, at one moment.
pub record HubWires (W : Type 0) : Type 0 where
  pub parts : List Part
  pub wires : List W

abbrev pub hub_wires : {W : Type 0} → List Part → List W → HubWires W
hub_wires parts wires = record { parts = parts; wires = wires }

-- So many rounds, before which no quiet came: each wire had one turn in each, in their order, and the hub was told of
-- these turns and of nothing else.
pub record IsServed {W : Type 0} (says : WireSays W) (lines : List LineId) (turns : ℕ)
    (before after : HubWires W) : Type 0 where
  pub rounds : List (List Turn)
  pub many : length rounds ≡ turns
  pub each : All (λ round. length round ≡ length lines) rounds
  pub hub : after.parts ≡ (hub_run before.parts (all_events lines (no_quiets lines) rounds)).parts
  pub had : (i : ℕ) (d : W) → i < length lines →
      HadTurns says (turns_of before.parts lines (no_quiets lines) i rounds) (slice_index_or before.wires i d)
      (slice_index_or after.wires i d)
