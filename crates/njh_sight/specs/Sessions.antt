-- When a line is in a session, and how a session ended.
use Rattle.std.specs.Prelude.{ℕ, zero, suc, ◌+◌, ◌-◌, ◌<◌, Bool, true, false, ◌&&◌, ◌||◌, ◌==◌, nat_lt, min}
use Rattle.std.specs.Prelude.{if◌then◌else◌, Option, Some, None, List}
use Rattle.std.specs.declared.net.ip_addr.IpAddr.{IpAddr}
use Rattle.njh_line.specs.declared.Phase.{Phase}
use Rattle.njh_line.specs.declared.Phase.TheVariants.{Down, Calling, Answered, SentI, Up}
use Rattle.njh_line.specs.declared.ending.SessionEnd as line
use Rattle.njh_line.specs.declared.ending.SessionEnd.TheVariants as ends
use Rattle.njh_line.specs.declared.refusal.Refusal.{Refusal}
use Rattle.njh_line.specs.declared.refusal.Refusal.TheVariants as refusals
use Rattle.njh_wire.specs.declared.last_bytes.LastBytes.{LastBytes}
use Rattle.njh_hub.specs.declared.session_view.SessionView.{SessionView}
use Rattle.njh_sight.specs.declared.label.Label.{Label}
use Rattle.njh_sight.specs.News.{after_telling, with_change}
use Rattle.njh_log.specs.declared.entry.LogEvent.{LogEvent}
use Rattle.njh_log.specs.declared.entry.LogEvent.TheVariants as events
use Rattle.njh_log.specs.declared.entry.SessionChange.{SessionChange}
use Rattle.njh_log.specs.declared.entry.SessionChange.TheVariants as changes
use Rattle.njh_log.specs.declared.entry.DownCause.{DownCause}
use Rattle.njh_log.specs.declared.entry.DownCause.TheVariants as why
use Rattle.njh_log.specs.declared.last_frame.LastFrame.{LastFrame}
use Rattle.njh_log.specs.declared.last_frame.LastFrame.TheVariants as frames
use Rattle.njh_sight.specs.declared.news.News.{News}

-- a line is in a session once a call was answered
abbrev pub is_session : Phase → Bool
is_session Down = false
is_session Calling = false
is_session Answered = true
is_session SentI = true
is_session Up = true

abbrev pub is_up : Phase → Bool
is_up Down = false
is_up Calling = false
is_up Answered = false
is_up SentI = false
is_up Up = true

-- since when a session tries again: since that was seen first, of the tries in a row that it has made, if it has any
abbrev pub tries_since : (was : Option ℕ) → (tries now : ℕ) → Option ℕ
tries_since was zero now = None
tries_since None (suc tries) now = Some now
tries_since (Some since) (suc tries) now = Some since

-- since when its connection, or the line itself, is without a session that is up: since this ended, or as before
abbrev pub no_session_since : (since : ℕ) → (was_up is_up : Bool) → (now : ℕ) → ℕ
no_session_since since true false now = now
no_session_since since true true now = since
no_session_since since false is_up now = since

-- since when it is up, or when the last one came up: since this came up, or as before
abbrev pub up_since : (since : ℕ) → (was_up is_up : Bool) → (now : ℕ) → ℕ
up_since since false true now = now
up_since since false false now = since
up_since since true is_up now = since

-- why the last session ended that was up: so if this one did, or as before
abbrev pub end_after : (last : Option DownCause) → (was_up is_up : Bool) → DownCause → Option DownCause
end_after last true false end = Some end
end_after last true true end = last
end_after last false is_up end = last

-- what is to be told of a session that was up or wasn't, and is now
abbrev pub session_change : (was_up is_up : Bool) → (node : List ℕ) → DownCause → Option SessionChange
session_change false true node end = Some (changes.Up node)
session_change true false node end = Some (changes.Down end)
session_change false false node end = None
session_change true true node end = None

-- whether a line was in a session that may still be on its way up: not once one that was up isn't any more
abbrev pub in_session_after : (in_session was_up is_up : Bool) → Bool
in_session_after in_session true false = false
in_session_after in_session true true = in_session
in_session_after in_session false is_up = in_session

-- whether a session was up on a line's connection, once its session was seen so
abbrev pub had_session : Label → SessionView → Bool
had_session label session = label.had_session || is_up session.phase

-- what is kept of a line once a step left its session so; if that is down, it ended so
abbrev pub after_step : Label → SessionView → DownCause → (now : ℕ) → Label
after_step label session end now = record label {
  in_session = in_session_after label.in_session label.up (is_up session.phase);
  no_session_since = no_session_since label.no_session_since label.up (is_up session.phase) now;
  down_since = no_session_since label.down_since label.up (is_up session.phase) now;
  up_since = up_since label.up_since label.up (is_up session.phase) now;
  last_end = end_after label.last_end label.up (is_up session.phase) end;
  had_session = had_session label session;
  up = is_up session.phase;
  news = with_change (session_change label.up (is_up session.phase) label.node end) label.news;
}

-- what is kept of it once its session was seen so at the end of a turn
abbrev pub after_session : Label → SessionView → DownCause → (now : ℕ) → Label
after_session label session end now = record (after_step label session end now) {
  in_session = is_session session.phase;
  tries_since = tries_since label.tries_since session.tries now;
  refusals = session.refusals;
}

-- ---- a sign-on that was refused

-- what is told of the last one
abbrev pub refusal_event : Option Refusal → LogEvent
refusal_event (Some refusal) = events.SignOnRefused refusal
refusal_event None = events.SignOnRefused refusals.NoSignOn

-- the same, with the address from which it came and with how many from there were refused so far
abbrev pub refusals_event : Option Refusal → IpAddr → (count : ℕ) → LogEvent
refusals_event (Some refusal) address count = events.SignOnsRefused refusal address count
refusals_event None address count = events.SignOnsRefused refusals.NoSignOn address count

-- one was refused since so many were
abbrev pub HasRefusedMore : (seen : ℕ) → SessionView → Type 0
HasRefusedMore seen session = seen < session.refusals

-- one was refused since the line's session was seen last
abbrev pub HasRefused : Label → SessionView → Type 0
HasRefused label session = HasRefusedMore label.refusals session

-- then the line takes no connection for a second
abbrev pub barred_until : (now : ℕ) → ℕ
barred_until now = min (now + 1000) 18446744073709551615

-- ---- why it ended

-- the frame whose end the last two bytes are: DLE and the second byte of an ACK0, SOH and ENQ, DLE and ETB, NAK, EOT
abbrev pub last_frame : LastBytes → LastFrame
last_frame bytes =
    if bytes.before == 16 && bytes.last == 112 then frames.Ack0 else
    if bytes.before == 1 && bytes.last == 45 then frames.Enquiry else
    if bytes.before == 16 && bytes.last == 38 then frames.Text else
    if bytes.last == 61 then frames.Nak else
    if bytes.last == 55 then frames.Eot else frames.Other

-- A session that used up its tries had no answer if nothing came since the first of them; else something came last.
abbrev pub tries_end : (since : Option ℕ) → (silent now : ℕ) → LastBytes → DownCause
tries_end None silent now bytes = if nat_lt 0 silent then why.NoAnswer else why.Tries (last_frame bytes)
tries_end (Some since) silent now bytes =
    if nat_lt (now - since) silent then why.NoAnswer else why.Tries (last_frame bytes)

-- a session that was lost on a line that is stopped is one that the operator stopped
abbrev pub ended_on : (is_stopped : Bool) → line.SessionEnd → DownCause
ended_on is_stopped ends.Lost = if is_stopped then why.Stopped else why.Ended ends.Lost
ended_on is_stopped end = why.Ended end

-- it gave up so, or its line says how the last one ended; on a line that the hub doesn't have it counts as lost
abbrev pub session_end : (gave_up : Option DownCause) → (is_stopped : Bool) → (last_end : Option line.SessionEnd)
    → DownCause
session_end (Some tries) is_stopped last_end = tries
session_end None is_stopped (Some end) = ended_on is_stopped end
session_end None is_stopped None = ended_on is_stopped ends.Lost

-- What isn't told yet of a line's sessions, once its session was seen so and what may be told was: a session that was
-- up and isn't any more ended by its tries if it gave up so, and else as its line says, which may be stopped.
abbrev pub news_seen : Label → SessionView → (gave_up : Option DownCause) → (is_stopped : Bool) → (now : ℕ) → News
news_seen label session gave_up is_stopped now =
    after_telling (after_session label session (session_end gave_up is_stopped session.last_end) now).news now
