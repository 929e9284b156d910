-- Connections that were closed as they came: they are told at once, and then once a minute with how many there were.
use Rattle.std.specs.Prelude.{ℕ, ◌+◌, ◌==◌, ◌||◌, min, nat_lt, not, Bool, if◌then◌else◌, Option, Some, None}
use Rattle.njh_anteroom.specs.declared.entry.Entry.{Entry}
use Rattle.njh_anteroom.specs.declared.entry.Entry.TheVariants as entries
use Rattle.njh_lines.specs.declared.opens.Opens.{Opens}
use Rattle.njh_lines.specs.declared.turned_away.TurnedAway.{TurnedAway}

abbrev pub nobody_away : TurnedAway
nobody_away = record { count = 0; again = 0 }

abbrev pub one_more_away : TurnedAway → TurnedAway
one_more_away away = record away { count = min (away.count + 1) 18446744073709551615 }

-- after this became of a connection
abbrev pub away_after : Entry → TurnedAway → TurnedAway
away_after (entries.Renewed place) away = away
away_after entries.Added away = away
away_after (entries.Displaced place) away = away
away_after entries.TurnedAway away = one_more_away away

-- how many are told at a moment, if some are
abbrev pub away_told : TurnedAway → (now : ℕ) → Option ℕ
away_told away now = if away.count == 0 || nat_lt now away.again then None else Some away.count

abbrev pub away_left : TurnedAway → (now : ℕ) → TurnedAway
away_left away now = if away.count == 0 || nat_lt now away.again then away
    else record { count = 0; again = min (now + 60000) 18446744073709551615 }

-- when some are told next, if no further one comes
abbrev pub away_moment : TurnedAway → ℕ
away_moment away = if away.count == 0 then 18446744073709551615 else away.again

-- ---- who asks for a line over TCP/IP: a refusal is told at once, if none was in the second before, and so is how many
-- sent no OPEN

abbrev pub no_opens : Opens
no_opens = record { again = 0; missing = 0; missing_again = 0 }

abbrev pub one_more_missing : Opens → Opens
one_more_missing opens = record opens { missing = min (opens.missing + 1) 18446744073709551615 }

-- how many are told at a moment, if some are
abbrev pub missing_told : Opens → (now : ℕ) → Option ℕ
missing_told opens now = if opens.missing == 0 || nat_lt now opens.missing_again then None else Some opens.missing

abbrev pub missing_left : Opens → (now : ℕ) → Opens
missing_left opens now = if opens.missing == 0 || nat_lt now opens.missing_again then opens
    else record opens { missing = 0; missing_again = min (now + 1000) 18446744073709551615 }

-- when some are told next, if on no further connection none came
abbrev pub missing_moment : Opens → ℕ
missing_moment opens = if opens.missing == 0 then 18446744073709551615 else opens.missing_again

-- whether one that is refused at a moment is told
abbrev pub tells_open : Opens → (now : ℕ) → Bool
tells_open opens now = not (nat_lt now opens.again)

abbrev pub open_told : Opens → (now : ℕ) → Opens
open_told opens now = if nat_lt now opens.again then opens
    else record opens { again = min (now + 1000) 18446744073709551615 }
