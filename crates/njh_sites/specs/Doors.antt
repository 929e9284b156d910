-- The doors of lines that have a port: where they are, and when a port that couldn't be listened on is tried again.
use Rattle.std.specs.Prelude.{◌≡◌, ℕ, ◌+◌, Bool, false, nat_le, min, if◌then◌else◌, Option, Some, None, ⊤}
use Rattle.std.specs.declared.net.socket_addr.SocketAddr.{SocketAddr}
use Rattle.njh_sites.specs.declared.door.Door.{Door}
use Rattle.njh_sites.specs.declared.door.Door.TheVariants.{Open, Shut}
use Rattle.njh_log.specs.declared.entry.LogEvent.{LogEvent}
use Rattle.njh_log.specs.declared.entry.LogEvent.TheVariants as events
use Rattle.njh_log.specs.declared.listen_cause.ListenCause.{ListenCause}
use Rattle.njh_sites.specs.declared.site.Site.{Site}
use Rattle.njh_sites.specs.declared.site.Site.TheVariants.{Listens, Dials}

-- where a door is
abbrev pub door_address : {L : Type 0} → (L → SocketAddr) → Door L → SocketAddr
door_address address_of (Open listener) = address_of listener
door_address address_of (Shut address cause again) = address

-- why nothing listens there, if nothing does
abbrev pub cause_in : {L : Type 0} → Door L → Option ListenCause
cause_in (Open listener) = None
cause_in (Shut address cause again) = Some cause

-- ten seconds after a port couldn't be listened on it is tried again
abbrev pub tried_again_at : (now : ℕ) → ℕ
tried_again_at now = min (now + 10000) 18446744073709551615

-- which port is to be tried now, and why nothing listened on it before
abbrev pub to_try : {L : Type 0} → Door L → (now : ℕ) → Option (SocketAddr × ListenCause)
to_try (Open listener) now = None
to_try (Shut address cause again) now = if nat_le again now then Some (address, cause) else None

-- a door after a try at this moment: it is open, or shut for ten seconds
abbrev pub IsTried : {L : Type 0} → (now : ℕ) → Door L → Type 0
IsTried now (Open listener) = ⊤
IsTried now (Shut address cause again) = again ≡ tried_again_at now

-- one that is shut is to be looked at when its port is to be tried
abbrev pub IsLookedAtAgain : {L : Type 0} → Door L → (moment : ℕ) → Type 0
IsLookedAtAgain (Open listener) moment = ⊤
IsLookedAtAgain (Shut address cause again) moment = moment ≡ again

-- A line that has a port listens there from the start on, or else, unless each has to, its port was tried at this
-- moment.
abbrev pub IsBegun : {L : Type 0} → (strict : Bool) → (now : ℕ) → Site (Door L) SocketAddr → Type 0
IsBegun strict now (Listens (Open listener)) = ⊤
IsBegun strict now (Listens (Shut address cause again)) = (strict ≡ false) × (again ≡ tried_again_at now)
IsBegun strict now (Dials peer) = ⊤

-- what is told of a line's site at the start, by the address on which it is to listen if it doesn't dial
abbrev pub begin_event : {L : Type 0} → SocketAddr → Site (Door L) SocketAddr → LogEvent
begin_event address (Listens (Open listener)) = events.Listening address
begin_event address (Listens (Shut own cause again)) = events.ListenFailed address cause
begin_event address (Dials peer) = events.Dials peer
