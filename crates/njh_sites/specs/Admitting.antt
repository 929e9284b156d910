-- When a line takes a connection, by numbers alone.
use Rattle.std.specs.Prelude.{ℕ, ◌+◌, ◌-◌, Bool, true, false, ◌&&◌, ◌||◌, nat_le, nat_lt, min, if◌then◌else◌}
use Rattle.std.specs.Prelude.{Result, Ok, Err}
use Rattle.njh_sites.specs.declared.admission.Admission.{Admission}
use Rattle.njh_sites.specs.declared.admission.Admission.TheVariants.{Taken, NobodyWaits, NotTaken}
use Rattle.njh_sites.specs.declared.admission.DialAnswer.{DialAnswer}
use Rattle.njh_sites.specs.declared.admission.DialAnswer.TheVariants.{Made, Waits, Failed}

-- A connection keeps its line while its session is up, and for ten seconds without one.
abbrev pub keeps_line : (is_connected is_up : Bool) → (since now : ℕ) → Bool
keeps_line is_connected is_up since now = is_connected && (is_up || nat_lt (now - since) 10000)

-- A line that keeps its connection has its listener looked at once those ten seconds are over; while the session is
-- up, not at all.
abbrev pub kept_until : (is_up : Bool) → (since : ℕ) → ℕ
kept_until true since = 18446744073709551615
kept_until false since = min (since + 10000) 18446744073709551615

-- A listener is looked at again at once behind one that was taken, since another may wait; a second after one that
-- couldn't be taken; and if nobody waits, when somebody comes.
abbrev pub listens_again : Admission → (now : ℕ) → ℕ
listens_again Taken now = now
listens_again NobodyWaits now = 18446744073709551615
listens_again NotTaken now = min (now + 1000) 18446744073709551615

-- ---- what becomes of a dial that is under way

-- its connection was made; or it is waited for until it is given up; or it was refused
abbrev pub answer_of : {E : Type 0} → Result Bool E → (until now : ℕ) → DialAnswer
answer_of (Ok true) until now = Made
answer_of (Ok false) until now = if nat_le until now then Failed else Waits
answer_of (Err fault) until now = Failed
