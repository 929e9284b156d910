-- When what stands at the spool file's path is looked at, and what the log tells of it.
use Rattle.std.specs.Prelude.{◌≡◌, ◌<◌, ◌≤◌, ℕ, Option, Some, None, option_map}
use Rattle.njh_presence.specs.Presence.{first_known, IsLook}
use Rattle.njh_presence.specs.declared.presence.Presence.{Presence}
use Rattle.njh_presence.specs.declared.presence.PresenceNews.{PresenceNews}
use Rattle.njh_presence.specs.declared.presence.PresenceNews.TheVariants.{Wrong, Right}
use Rattle.njh_presence.specs.declared.seen.SpoolSeen.{SpoolSeen}
use Rattle.njh_log.specs.declared.entry.LogEvent.{LogEvent}
use Rattle.njh_log.specs.declared.entry.LogEvent.TheVariants as log

-- what is known of the spool file at the start, if the hub's files are kept
abbrev pub known_first : Option SpoolSeen → Option Presence
known_first seen = option_map first_known seen

-- It is looked at if its moment came, and not before; and never, if the hub's files aren't kept.
abbrev pub IsLookedAt : (now : ℕ) → (old new : Option Presence) → Option PresenceNews → Type 0
IsLookedAt now None new news = (new ≡ None) × (news ≡ None)
IsLookedAt now (Some old) new news = (now < old.next → (new ≡ Some old) × (news ≡ None))
    × (old.next ≤ now → (seen : SpoolSeen) × (after : Presence) × (new ≡ Some after) × IsLook now seen old after news)

-- what the log tells: what is wrong, and that nothing is any more
abbrev pub news_event : PresenceNews → LogEvent
news_event (Wrong faults) = log.SpoolAstray faults
news_event Right = log.SpoolBack
