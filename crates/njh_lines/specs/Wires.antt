-- What a round does with the wires of the lines that it looks at.
use Rattle.std.specs.Prelude.{◌≡◌, ℕ, ◌<◌, ◌≤◌, ◌⊎◌, IsSome, IsTrue, List, [], length, None, Some, slice_get}
use Rattle.std.specs.Prelude.{slice_index_or}
use Rattle.njh_request.specs.declared.request.LineState.TheVariants.{Stopped}
use Rattle.njh_table.specs.declared.Protocol.{Protocol}
use Rattle.njh_table.specs.declared.Protocol.TheVariants.{Bisync, Tcp}
use Rattle.njh_wire.specs.ByTcp.{IsFlushedByTcp}
use Rattle.njh_wire.specs.Readings.{IsFlushed}
use Rattle.njh_wire.specs.Leaving.{alive_at, IsSaid, Leaves}
use Rattle.njh_wire.specs.Standing.{Standing, after_close}
use Rattle.njh_wire.specs.declared.connection.Saying.{Saying}
use Rattle.njh_wire.specs.declared.connection.Saying.TheVariants.{KeepAlive, SignOff}
use Rattle.njh_wire.specs.declared.end.Stop.{Stop}
use Rattle.njh_lines.specs.Attention.{watch_at}
use Rattle.njh_lines.specs.Connecting.{IsConnected}
use Rattle.njh_hub.specs.Views.{hub_line, line_view}
use Rattle.njh_hub.specs.declared.session_view.SessionView.{SessionView}
use Rattle.njh_table.specs.declared.LineId.{LineId}
use Rattle.njh_hub.specs.WholeHub.{HasLine, Part}
use Rattle.njh_sight.specs.Sessions.{is_up, HasRefusedMore}
use Rattle.njh_lines.specs.Watching.{ServedLine, Watched}
use Rattle.njh_lines.specs.declared.attention.Watch.{Watch}

-- ---- as it begins

-- Of so many lines, from the first of these places on, up to the other, each that is stopped has no connection once it
-- was looked at. Of the other wires nothing changed.
pub record AreHeld {C : Type 0} (first end : ℕ) (lines : List ServedLine) (watches : List Watch)
    (wires new_wires : List (Standing C)) : Type 0 where
  pub each : (place : ℕ) (d : Standing C) (line : ServedLine) → first ≤ place → place < end → place < length wires
      → slice_get lines place ≡ Some line → line.state ≡ Stopped → IsTrue (watch_at watches place).is_due
      → ¬ IsConnected (slice_index_or new_wires place d)
  pub same : (place : ℕ) (d : Standing C) → (place < first) ⊎ (end ≤ place)
      → slice_index_or new_wires place d ≡ slice_index_or wires place d

-- ---- as it ends

-- What its session asks for is done with a wire: who is connected on it stays, and what waits still waits; or nobody is
-- connected any more, and then nothing waits that didn't before.
pub record IsLeft {C : Type 0} (s new : Standing C) : Type 0 where
  pub waits : IsConnected new → (new.waiting ≡ s.waiting) × ((new.connection ≡ s.connection) × (new.next ≡ s.next))
  pub drops : (new.waiting ≡ s.waiting) ⊎ (new.waiting ≡ [])

-- what waits on a wire is sent on, as far as it goes, by the rules of its line's protocol
abbrev pub IsFlushedOn : {C : Type 0} → Protocol → (C → C → List ℕ → List ℕ → Type 0) → Standing C → Standing C → Type 0
IsFlushedOn Bisync moved s new = IsFlushed moved s new
IsFlushedOn Tcp moved s new = IsFlushedByTcp moved s new

-- As a round looks at a wire, who leaves is let go on, and the peer is told that the hub is there, if nothing was sent
-- for a minute.
pub record IsTended {C : Type 0} (moved : C → C → List ℕ → List ℕ → Type 0) (stops : C → Stop → Type 0)
    (said : C → C → Saying → Type 0) (now : ℕ) (s new : Standing C) : Type 0 where
  pub middle : Standing C
  pub nobody : s.leave.who ≡ None → middle ≡ s
  pub leaves : IsSome s.leave.who → Leaves moved stops s middle
  pub says : alive_at middle ≤ now → IsSaid moved said KeepAlive middle new
  pub silent : now < alive_at middle → new ≡ middle

-- The connection of a peer whose sign-on was refused is ended: over TCP/IP it is told so before.
abbrev pub IsRefusedOn : {C : Type 0} → Protocol → (C → C → List ℕ → List ℕ → Type 0) → (C → C → Saying → Type 0) →
    Standing C → Standing C → Type 0
IsRefusedOn Bisync moved said s new = new ≡ after_close s
IsRefusedOn {C} Tcp moved said s new =
    (middle : Standing C) × (IsSaid moved said SignOff s middle × (new ≡ after_close middle))

-- What waited on a wire was sent on, as far as it goes, before that is done.
pub record IsLetOut {C : Type 0} (moved : C → C → List ℕ → List ℕ → Type 0) (s new : Standing C) : Type 0 where
  pub middle : Standing C
  pub idle : s.waiting ≡ [] → middle ≡ s
  pub flushed : 0 < length s.waiting → IsFlushedOn s.protocol moved s middle
  pub left : IsLeft middle new

-- what is shown of a line's session
abbrev pub session_on : LineId → List Part → SessionView
session_on id parts = line_view (hub_line id parts).state

-- A line's session judges who is connected on its wire, as the line was seen before: where a sign-on was refused since,
-- nobody is connected any more; and whether the session is up says what the next read may hold.
pub record IsJudged {C : Type 0} (seen : Watched) (parts : List Part) (place : ℕ) (new : Standing C) : Type 0 where
  pub refused : (line : ServedLine) (refusals : ℕ) → slice_get seen.lines place ≡ Some line
      → slice_get seen.refusals place ≡ Some refusals → HasLine parts line.id
      → HasRefusedMore refusals (session_on line.id parts) → ¬ IsConnected new
  pub up : (line : ServedLine) → slice_get seen.lines place ≡ Some line → HasLine parts line.id
      → new.up ≡ is_up (session_on line.id parts).phase

-- Both are done with the wire of the line at a place.
pub record IsDone {C : Type 0} (moved : C → C → List ℕ → List ℕ → Type 0) (seen : Watched) (parts : List Part)
    (place : ℕ) (s new : Standing C) : Type 0 where
  pub out : IsLetOut moved s new
  pub judged : IsJudged seen parts place new

-- So much is made of the wire of each of so many lines that is looked at, from the first of these places on, up to the
-- other. Of the other wires nothing changed.
pub record AreMadeSo {C : Type 0} (made : ℕ → Standing C → Standing C → Type 0) (lines first end : ℕ)
    (watches : List Watch) (wires new_wires : List (Standing C)) : Type 0 where
  pub each : (place : ℕ) (d : Standing C) → first ≤ place → place < end → place < length wires
      → place < lines → IsTrue (watch_at watches place).is_due
      → made place (slice_index_or wires place d) (slice_index_or new_wires place d)
  pub same : (place : ℕ) (d : Standing C) → (place < first) ⊎ (end ≤ place)
      → slice_index_or new_wires place d ≡ slice_index_or wires place d
