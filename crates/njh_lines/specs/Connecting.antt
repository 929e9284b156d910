-- When a line takes a connection, and when it is looked for one again.
use Rattle.std.specs.Prelude.{◌≡◌, ℕ, ◌⊎◌, ◌+◌, ◌-◌, ◌<◌, ◌||◌, [], Bool, true, false, nat_le, min, max, if◌then◌else◌}
use Rattle.std.specs.Prelude.{IsSome, IsTrue, ⊤}
use Rattle.std.specs.Prelude.{Option, Some, None}
use Rattle.std.specs.Net.Socket.{socket_ip}
use Rattle.njh_anteroom.specs.Remembered.{refusals_of}
use Rattle.njh_line.specs.declared.refusal.Refusal.{Refusal}
use Rattle.njh_lines.specs.declared.entrance.Entrance.{Entrance}
use Rattle.njh_hub.specs.declared.session_view.SessionView.{SessionView}
use Rattle.njh_table.specs.declared.Protocol.{Protocol}
use Rattle.njh_table.specs.declared.Protocol.TheVariants.{Bisync, Tcp}
use Rattle.njh_wire.specs.ByTcp.{IsReadyByTcp}
use Rattle.njh_wire.specs.Readings.{IsOpen}
use Rattle.njh_wire.specs.Standing.{Standing}
use Rattle.njh_sites.specs.Admitting.{kept_until}
use Rattle.njh_sight.specs.Sessions.{is_session, is_up, no_session_since, refusal_event, refusals_event}
use Rattle.njh_sight.specs.declared.label.Label.{Label}
use Rattle.njh_wire.specs.declared.end.ConnectionEnd.{ConnectionEnd}
use Rattle.njh_wire.specs.declared.end.ConnectionEnd.TheVariants as ends
use Rattle.njh_log.specs.declared.entry.ConnectionFailure.TheVariants as failures
use Rattle.njh_log.specs.declared.heading.Place.{Place}
use Rattle.njh_log.specs.declared.heading.Place.TheVariants.{Line}
use Rattle.njh_log.specs.declared.entry.LogEvent.{LogEvent}
use Rattle.njh_log.specs.declared.entry.LogEvent.TheVariants as events

-- ---- who is taken

-- somebody is connected, or takes the place of one who is gone
abbrev pub IsConnected : {C : Type 0} → Standing C → Type 0
IsConnected wire = IsSome wire.connection ⊎ IsSome wire.next

-- a line was in a session, and still has its connection: this ends if that session gave up
abbrev pub IsInSession : {C : Type 0} → (in_session : Bool) → Standing C → Type 0
IsInSession in_session wire = IsTrue in_session × IsConnected wire

-- the hub is still to hear of something on a wire: something may be there to read, or an end is to be told
abbrev pub IsReadyOn : {C : Type 0} → Protocol → Standing C → Type 0
IsReadyOn Bisync wire = (wire.waiting ≡ []) × (IsSome wire.parting ⊎ IsOpen wire)
IsReadyOn Tcp wire = IsReadyByTcp wire

abbrev pub IsReady : {C : Type 0} → Standing C → Type 0
IsReady wire = IsReadyOn wire.protocol wire

-- On a line over TCP/IP a connection ends with its session, by whatever end that is: it was in one, up or on the way
-- there, and isn't any more.
abbrev pub IsOverOn : Protocol → Label → SessionView → Type 0
IsOverOn Bisync label session = ⊥
IsOverOn Tcp label session = IsTrue (label.in_session || label.had_session) × (¬ IsTrue (is_session session.phase))

-- so one whose session goes on stays
abbrev pub StaysOn : Protocol → SessionView → Type 0
StaysOn Bisync session = ⊤
StaysOn Tcp session = IsTrue (is_session session.phase)

-- for how long nothing came
abbrev pub silence_of : {C : Type 0} → Standing C → ℕ
silence_of wire = wire.clock - wire.heard

-- A connection keeps its line while its session is up, and for ten seconds without one: since it came, or since its
-- session ended. What comes on it meanwhile is nothing to that.
abbrev pub KeepsLine : {C : Type 0} → Standing C → Label → (now : ℕ) → Type 0
KeepsLine wire label now = IsConnected wire × (IsTrue label.up ⊎ (now - label.no_session_since < 10000))

-- A line on which a sign-on was refused takes no connection for a second.
abbrev pub IsBarred : Label → (now : ℕ) → Type 0
IsBarred label now = now < label.barred_until

-- when it is looked at once its session was seen: as before, but ten seconds after this ended if that comes first
abbrev pub moment_behind : (was_up is_up : Bool) → (since moment : ℕ) → ℕ
moment_behind false is_up since moment = moment
moment_behind true is_up since moment = min moment (kept_until is_up since)

-- when its listener is looked at once its session was seen so
abbrev pub moment_seen : Label → SessionView → (now moment : ℕ) → ℕ
moment_seen label session now moment =
    let since = no_session_since label.no_session_since label.up (is_up session.phase) now in
    moment_behind label.up (is_up session.phase) since moment

-- ---- what is told

-- where it happens
abbrev pub place_of : Label → Place
place_of label = Line label.customer label.line

-- a new connection is told, unless one was told in the second before
abbrev pub told_connected : Label → (now : ℕ) → Label
told_connected label now = if nat_le label.again now
    then record label { connected = true; again = min (now + 1000) 18446744073709551615 }
    else record label { connected = false }

-- A sign-on that was refused is told with the address from which it came and with how many from there were refused, one
-- at least: of an address of this machine nothing is remembered.
abbrev pub told_refusal : {C : Type 0} → Option Refusal → Entrance C → LogEvent
told_refusal why entrance = elim entrance.peer [
  | None ↦ refusal_event why
  | Some address ↦ refusals_event why (socket_ip address)
      (max (refusals_of (socket_ip address) entrance.anteroom.remembered) 1)
]

-- its end, which came early if the peer ended it while a session was on its way up
abbrev pub end_event : (is_early : Bool) → ConnectionEnd → LogEvent
end_event is_early ends.Ended = if is_early then events.ClosedEarly else events.Closed
end_event is_early ends.Closed = events.Closed
end_event is_early ends.Failed = events.Failed failures.Broken
end_event is_early ends.Stalled = events.Failed failures.Stalled
end_event is_early ends.Replaced = events.Failed failures.Replaced
end_event is_early (ends.Refused fault) = events.Failed (failures.Unfit fault)
