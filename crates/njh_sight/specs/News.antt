-- What is told of a line's sessions: a line of the log a second at most, with how many changes it stands for.
use Rattle.std.specs.Prelude.{◌≡◌, ◌⊎◌, ◌<◌, ℕ, ◌+◌, ◌==◌, nat_le, min, if◌then◌else◌, Option, Some, None, option_map}
use Rattle.njh_log.specs.declared.entry.LogEvent.{LogEvent}
use Rattle.njh_log.specs.declared.entry.LogEvent.TheVariants as events
use Rattle.njh_log.specs.declared.entry.SessionChange.{SessionChange}
use Rattle.njh_sight.specs.declared.news.News.{News}
use Rattle.njh_sight.specs.declared.news.Untold.{Untold}

abbrev pub no_news : News
no_news = record { again = 0; untold = None }

-- one change more that isn't told
abbrev pub untold_after : Option Untold → SessionChange → Untold
untold_after None change = record { last = change; count = 1 }
untold_after (Some untold) change = record { last = change; count = min (untold.count + 1) 18446744073709551615 }

-- a session was seen that changed so, or didn't
abbrev pub with_change : Option SessionChange → News → News
with_change None news = news
with_change (Some change) news = record news { untold = Some (untold_after news.untold change) }

-- one change is told as it is; of more the last is, and how many they are
abbrev pub untold_event : Untold → LogEvent
untold_event untold =
    if untold.count == 1 then events.SessionChanged untold.last else events.SessionsChanged untold.last untold.count

-- what is told now: all that isn't yet, if a second has gone since something was
abbrev pub told_now : News → (now : ℕ) → Option LogEvent
told_now news now = if nat_le news.again now then option_map untold_event news.untold else None

-- and nothing more for a second
abbrev pub after_telling : News → (now : ℕ) → News
after_telling news now = elim (told_now news now) [
  | None ↦ news
  | Some event ↦ record { again = min (now + 1000) 18446744073709551615; untold = None }
]

-- nothing is left that may be told now
abbrev pub IsTold : News → (now : ℕ) → Type 0
IsTold news now = (news.untold ≡ None) ⊎ (now < news.again)

-- when something is to be told
abbrev pub news_moment : News → ℕ
news_moment news = elim (news.untold) [ None ↦ 18446744073709551615 | Some untold ↦ news.again ]
