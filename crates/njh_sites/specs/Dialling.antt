-- When a line is dialled, and when a dial is given up.
use Rattle.std.specs.Prelude.{ℕ, ◌+◌, ◌*◌, ◌≤◌, Bool, true, nat_lt, min, if◌then◌else◌, Option, Some, None, ⊤}
use Rattle.njh_open.specs.Waits.{late_at}
use Rattle.njh_sites.specs.declared.dial.Dial.{Dial}
use Rattle.njh_sites.specs.declared.dial.DialState.{DialState}
use Rattle.njh_sites.specs.declared.site.Site.{Site}
use Rattle.njh_sites.specs.declared.site.Site.TheVariants.{Listens, Dials}
use Rattle.njh_sites.specs.declared.dial.DialState.TheVariants.{Resting, Dialling, Asking, Connected}

-- The next dial comes a second after a connection ended, or after a dial failed, if the one before didn't fail; and ten
-- seconds after each that fails behind another; but no sooner than the pause for connections without a session asks.
abbrev pub pause_after : (has_failed : Bool) → (pause : ℕ) → ℕ
pause_after has_failed pause =
    let least = if has_failed then 10000 else 1000 in
    if nat_lt least pause then pause else least

abbrev pub next_dial : (has_failed : Bool) → (pause now : ℕ) → ℕ
next_dial has_failed pause now = min (now + pause_after has_failed pause) 18446744073709551615

-- That pause is a second after a session, and after the first connection without one; each further one in a row doubles
-- it, up to a minute. A dial that is answered is nothing to it.
abbrev pub pause_now : (had_session : Bool) → (pause : ℕ) → ℕ
pause_now had_session pause = if had_session then 1000 else pause

abbrev pub pause_behind : (had_session : Bool) → (pause : ℕ) → ℕ
pause_behind had_session pause = if had_session then 1000 else min (pause * 2) 60000

-- a dial that nobody answers is given up after ten seconds
abbrev pub given_up_at : (now : ℕ) → ℕ
given_up_at now = min (now + 10000) 18446744073709551615

abbrev pub state_resumed : {C : Type 0} → DialState C → (now : ℕ) → DialState C
state_resumed (Resting moment) now = Resting now
state_resumed (Dialling connection moment) now = Dialling connection moment
state_resumed (Asking connection caller) now = Asking connection caller
state_resumed Connected now = Connected

-- a dial failed: the next comes after the pause
abbrev pub failed : {C : Type 0} → Dial C → (now : ℕ) → Dial C
failed dial now = record dial { state = Resting (next_dial dial.has_failed dial.pause now); has_failed = true }

-- a connection ended, on which a session was up or none was
abbrev pub lost : {C : Type 0} → (had_session : Bool) → Dial C → (now : ℕ) → Dial C
lost had_session dial now = record dial {
  state = Resting (next_dial dial.has_failed (pause_now had_session dial.pause) now);
  pause = pause_behind had_session dial.pause;
}

-- the next dial comes now, if none is under way and the line has no connection
abbrev pub resumed : {C : Type 0} → Dial C → (now : ℕ) → Dial C
resumed dial now = record dial { state = state_resumed dial.state now }

-- when something is to be done that nobody's answer brings: the next dial, or giving up one or an answer to an OPEN
abbrev pub dial_moment : {C : Type 0} → DialState C → ℕ
dial_moment (Resting moment) = moment
dial_moment (Dialling connection moment) = moment
dial_moment (Asking connection caller) = late_at caller
dial_moment Connected = 18446744073709551615

-- a dial is to come now
abbrev pub IsToCome : {C : Type 0} → DialState C → (now : ℕ) → Type 0
IsToCome (Resting moment) now = moment ≤ now
IsToCome (Dialling connection moment) now = ⊥
IsToCome (Asking connection caller) now = ⊥
IsToCome Connected now = ⊥

-- the connection of a dial that is under way
abbrev pub connection_in : {C : Type 0} → DialState C → Option C
connection_in (Resting moment) = None
connection_in (Dialling connection moment) = Some connection
connection_in (Asking connection caller) = Some connection
connection_in Connected = None

-- it isn't made yet
abbrev pub IsDialling : {C : Type 0} → DialState C → Type 0
IsDialling (Resting moment) = ⊥
IsDialling (Dialling connection moment) = ⊤
IsDialling (Asking connection caller) = ⊥
IsDialling Connected = ⊥

-- it was made, and its OPEN isn't answered yet
abbrev pub IsAsking : {C : Type 0} → DialState C → Type 0
IsAsking (Resting moment) = ⊥
IsAsking (Dialling connection moment) = ⊥
IsAsking (Asking connection caller) = ⊤
IsAsking Connected = ⊥

-- a connection of a site ended
abbrev pub site_lost : {L C : Type 0} → (had_session : Bool) → Site L (Dial C) → (now : ℕ) → Site L (Dial C)
site_lost had_session (Listens listener) now = Listens listener
site_lost had_session (Dials dial) now = Dials (lost had_session dial now)

-- then its line is looked at: a listener now, and another when its next dial is to come
abbrev pub moment_of_loss : {L C : Type 0} → (had_session : Bool) → Site L (Dial C) → (moment now : ℕ) → ℕ
moment_of_loss had_session (Listens listener) moment now = min moment now
moment_of_loss had_session (Dials dial) moment now = dial_moment (lost had_session dial now).state
