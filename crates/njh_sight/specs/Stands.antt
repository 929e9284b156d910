-- Since when the streams of a line stand as they stand: since a step after which one was about something else, or after
-- which more had come or gone.
use Rattle.std.specs.Prelude.{◌≡◌, ◌≢◌, ◌<◌, ◌==◌, ◌&&◌, ℕ, Bool, true, false, not, if◌then◌else◌, List, length}
use Rattle.std.specs.Prelude.{Option, Some, None, get_or, slice_get, slice_index_or}
use Rattle.njh_spool.specs.CustomerSpool.{CustomerSpool}
use Rattle.njh_stream.specs.SpoolFiles.{records_in}
use Rattle.njh_stream.specs.declared.receiver.Receiver.{Receiver}
use Rattle.njh_stream.specs.declared.receiver.Receiver.TheVariants as receiver
use Rattle.njh_stream.specs.declared.sender.Sender.{Sender}
use Rattle.njh_stream.specs.declared.sender.Sender.TheVariants as sender
use Rattle.njh_sight.specs.Telling.{coming_at}
use Rattle.njh_sight.specs.declared.stands.ComingStand.{ComingStand}
use Rattle.njh_sight.specs.declared.stands.GoingStand.{GoingStand}

abbrev pub sender_at : List Sender → (place : ℕ) → Sender
sender_at senders place = slice_index_or senders place sender.Idle

-- the rest of a file is ignored on the stream of a place
abbrev pub is_draining : Option Receiver → Bool
is_draining None = false
is_draining (Some receiver.Idle) = false
is_draining (Some (receiver.Open file progress)) = false
is_draining (Some receiver.Draining) = true

abbrev pub drains_at : List Receiver → (place : ℕ) → Bool
drains_at receivers place = is_draining (slice_get receivers place)

-- how many records came of a file that comes, if one does
abbrev pub coming_records : CustomerSpool → Option ℕ → ℕ
coming_records s None = 0
coming_records s (Some file) = length (records_in file s)

abbrev pub is_same : Bool → Bool → Bool
is_same true other = other
is_same false other = not other

abbrev pub is_same_file : Option ℕ → Option ℕ → Bool
is_same_file None None = true
is_same_file (Some file) None = false
is_same_file None (Some other) = false
is_same_file (Some file) (Some other) = file == other

-- A stream to the hub that stood so is about this file now, or ignores the rest of one, or neither, and so many records
-- came: it stands since when it did if that is as before, and else since now.
abbrev pub coming_after : ComingStand → Option ℕ → (drains : Bool) → (records now : ℕ) → ComingStand
coming_after was file drains records now = record {
  file = file;
  drains = drains;
  records = records;
  since =
      if is_same_file was.file file && (is_same was.drains drains && (was.records == records)) then was.since else now;
}

-- One from the hub is about this now: it stands as before if it was before, and else since now.
pub record IsGoingStand (was : GoingStand) (sender : Sender) (now : ℕ) (new : GoingStand) : Type 0 where
  pub about : new.sender ≡ sender
  pub stays : was.sender ≡ sender → new.since ≡ was.since
  pub moves : was.sender ≢ sender → new.since ≡ now

abbrev pub coming_idle : ComingStand
coming_idle = record { file = None; drains = false; records = 0; since = 0 }

abbrev pub going_idle : GoingStand
going_idle = record { sender = sender.Idle; since = 0 }

-- so it is with each of the eight
abbrev pub AreComingStands : List ComingStand → List Receiver → CustomerSpool → (now : ℕ) → List ComingStand → Type 0
AreComingStands was receivers s now new = (place : ℕ) → place < 8 → get_or new place coming_idle
    ≡ coming_after (get_or was place coming_idle) (coming_at receivers place) (drains_at receivers place)
    (coming_records s (coming_at receivers place)) now

abbrev pub AreGoingStands : List GoingStand → List Sender → (now : ℕ) → List GoingStand → Type 0
AreGoingStands was senders now new = (place : ℕ) → place < 8 → IsGoingStand (get_or was place going_idle)
    (sender_at senders place) now (get_or new place going_idle)
