-- What is wrong now with a line, as the log tells it: the first of these that is so. Its port can't be listened on, or
-- its last dial failed, or was answered NAK; no session is up, and the last sign-on on it was refused, or its connection
-- is without a session for ten seconds. Nothing is wrong with one that the operator stopped, or has stopped once it is
-- idle.
use Rattle.std.specs.Prelude.{ℕ, Bool, if◌then◌else◌, Option, Some, None}
use Rattle.std.specs.declared.net.socket_addr.SocketAddr.{SocketAddr}
use Rattle.njh_open.specs.declared.reason.NakReason.{NakReason}
use Rattle.njh_request.specs.declared.request.LineState.{LineState}
use Rattle.njh_request.specs.declared.request.LineState.TheVariants.{Started, Draining, Stopped}
use Rattle.njh_hub.specs.declared.session_view.SessionView.{SessionView}
use Rattle.njh_sight.specs.Awaiting.{wrong_session}
use Rattle.njh_sites.specs.declared.dial.Dial.{Dial}
use Rattle.njh_sites.specs.declared.door.Door.{Door}
use Rattle.njh_sites.specs.declared.door.Door.TheVariants.{Open, Shut}
use Rattle.njh_log.specs.declared.entry.LogEvent.{LogEvent}
use Rattle.njh_log.specs.declared.entry.LogEvent.TheVariants as events
use Rattle.njh_lines.specs.declared.post.Post.{Post}
use Rattle.njh_sites.specs.declared.site.Site.{Site}
use Rattle.njh_sites.specs.declared.site.Site.TheVariants.{Listens, Dials}

-- what the operator wants of it
abbrev pub intended_on : LineState → Option LogEvent
intended_on Started = None
intended_on Draining = Some events.LineDrains
intended_on Stopped = Some events.LineStopped

-- and then nothing is wrong
abbrev pub wrong_where : LineState → Option LogEvent → Option LogEvent
wrong_where Started event = event
wrong_where Draining event = None
wrong_where Stopped event = None

-- a dial to an address failed, or its peer answered NAK
abbrev pub wrong_dial : SocketAddr → (nak : Option NakReason) → LogEvent
wrong_dial address None = events.DialFailed address
wrong_dial address (Some reason) = events.PeerRefused reason

abbrev pub wrong_site : {L C : Type 0} → (nak : Option NakReason) → Site (Door L) (Dial C) → Option LogEvent
wrong_site nak (Listens (Open listener)) = None
wrong_site nak (Listens (Shut address cause again)) = Some (events.ListenFailed address cause)
wrong_site nak (Dials dial) = if dial.has_failed then Some (wrong_dial dial.address nak) else None

-- the first, or else the other
abbrev pub first_wrong : Option LogEvent → Option LogEvent → Option LogEvent
first_wrong (Some event) other = Some event
first_wrong None other = other

abbrev pub wrong_on : {L C : Type 0} → Post L C → SessionView → (is_connected : Bool) → (now : ℕ) → Option LogEvent
wrong_on post session is_connected now =
    wrong_where post.state
    (first_wrong (wrong_site post.label.nak post.site) (wrong_session post.label session is_connected now))
