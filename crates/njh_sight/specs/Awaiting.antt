-- What is told of a connection without a session: after ten seconds, and then every minute, what is due on it.
use Rattle.std.specs.Prelude.{ℕ, ◌+◌, Bool, ◌&&◌, nat_le, nat_lt, min, if◌then◌else◌, Option, Some, None}
use Rattle.njh_line.specs.declared.Phase.{Phase}
use Rattle.njh_line.specs.declared.Phase.TheVariants.{Down, Calling, Answered, SentI, Up}
use Rattle.njh_table.specs.declared.Role.{Role}
use Rattle.njh_table.specs.declared.Role.TheVariants.{Call, Answer}
use Rattle.njh_hub.specs.declared.session_view.SessionView.{SessionView}
use Rattle.njh_log.specs.declared.awaited.Awaited.{Awaited}
use Rattle.njh_log.specs.declared.awaited.Awaited.TheVariants as due
use Rattle.njh_log.specs.declared.entry.LogEvent.{LogEvent}
use Rattle.njh_log.specs.declared.entry.LogEvent.TheVariants as events
use Rattle.njh_sight.specs.Sessions.{refusal_event}
use Rattle.njh_sight.specs.declared.label.Label.{Label}

-- what the peer of a line of this role is to do next
abbrev pub due_next : Phase → Role → Option Awaited
due_next Down Call = Some due.Acknowledgement
due_next Down Answer = Some due.Contact
due_next Calling role = Some due.Acknowledgement
due_next Answered role = Some due.SignOn
due_next SentI role = Some due.Response
due_next Up role = None

-- ten seconds without a session are over, and a minute since it was told last
abbrev pub is_told : (since again now : ℕ) → Bool
is_told since again now = nat_le (min (since + 10000) 18446744073709551615) now && nat_le again now

abbrev pub awaits_again : (now : ℕ) → ℕ
awaits_again now = min (now + 60000) 18446744073709551615

abbrev pub told_due : Option Awaited → Option LogEvent
told_due (Some what) = Some (events.NoSession what)
told_due None = None

-- what is told of a line whose session was seen so, if it has a connection
abbrev pub told_awaited : Label → SessionView → (is_connected : Bool) → (now : ℕ) → Option LogEvent
told_awaited label session is_connected now =
    if is_connected && is_told label.no_session_since label.awaits_again now
    then told_due (due_next session.phase session.role) else None

-- ---- what is wrong now

-- the last sign-on was refused, and no session came up since
abbrev pub was_refused : Label → Bool
was_refused label = nat_lt label.up_since label.barred_until

-- No session is up, and the last sign-on was refused, or its connection is without a session for ten seconds.
abbrev pub wrong_session : Label → SessionView → (is_connected : Bool) → (now : ℕ) → Option LogEvent
wrong_session label session is_connected now =
    if label.up then None else
    (if was_refused label then Some (refusal_event session.last_refusal) else
    (if is_connected && is_told label.no_session_since 0 now then told_due (due_next session.phase session.role)
    else None))
