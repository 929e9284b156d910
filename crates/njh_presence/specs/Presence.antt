-- What stands at the paths of a spool file and of its log, next to what is open there, and what is told of it.
use Rattle.std.specs.Prelude.{◌≡◌, ◌≢◌, ℕ, ◌+◌, ◌<◌, ◌≤◌, ◌==◌, ◌&&◌, ◌||◌, nat_lt, min, max, Bool, false}
use Rattle.std.specs.Prelude.{if◌then◌else◌, Option, Some, None, IfSome, IfNone}
use Rattle.njh_presence.specs.declared.seen.Seen.{Seen}
use Rattle.njh_presence.specs.declared.seen.SpoolSeen.{SpoolSeen}
use Rattle.njh_presence.specs.declared.fault.PathFault.{PathFault}
use Rattle.njh_presence.specs.declared.fault.PathFault.TheVariants.{Gone, Other, Cut}
use Rattle.njh_presence.specs.declared.fault.SpoolFaults.{SpoolFaults}
use Rattle.njh_presence.specs.declared.opened.Opened.{Opened}
use Rattle.njh_presence.specs.declared.presence.Presence.{Presence}
use Rattle.njh_presence.specs.declared.presence.PresenceNews.{PresenceNews}
use Rattle.njh_presence.specs.declared.presence.PresenceNews.TheVariants.{Wrong, Right}

-- ---- a file

-- the same file has the same number on the same device, however long it is
abbrev pub is_same : Seen → Seen → Bool
is_same one other = (one.device == other.device) && (one.inode == other.inode)

-- it was opened, and then seen so
abbrev pub opened_as : Option Seen → Opened
opened_as seen = record { seen = seen; is_cut = false }

-- An open file that had so many bytes at most, and has so many now. The hub makes neither a spool file nor its log
-- shorter while they are open: one that has fewer than before was cut by somebody else, and stays cut.
abbrev pub grown : Opened → (most : Seen) → (size : ℕ) → Opened
grown opened most size = record {
  seen = Some (record most { size = max most.size size });
  is_cut = opened.is_cut || nat_lt size most.size;
}

-- what is known of it once this stood at its path: no more than before, if that is another file
abbrev pub known_by : Opened → Option Seen → Seen → Opened
known_by opened None now = opened
known_by opened (Some most) now = if is_same most now then grown opened most now.size else opened

abbrev pub seen_again : Opened → Option Seen → Opened
seen_again opened None = opened
seen_again opened (Some now) = known_by opened opened.seen now

-- ---- what is wrong

-- what is wrong with it where it stands
abbrev pub cut_fault : (is_cut : Bool) → Option PathFault
cut_fault is_cut = if is_cut then Some Cut else None

-- what is wrong at the path of a file that was opened, where this stands
abbrev pub fault_by : Opened → Option Seen → Seen → Option PathFault
fault_by opened None now = Some Other
fault_by opened (Some most) now = if is_same most now then cut_fault opened.is_cut else Some Other

-- nothing is wrong if what stands there is what is open, and it was never cut
abbrev pub fault_at : Opened → Option Seen → Option PathFault
fault_at opened None = Some Gone
fault_at opened (Some now) = fault_by opened opened.seen now

abbrev pub no_faults : SpoolFaults
no_faults = record { file = None; log = None }

abbrev pub faults_at : (file log : Opened) → SpoolSeen → SpoolFaults
faults_at file log seen = record { file = fault_at file seen.file; log = fault_at log seen.log }

-- what is known of files that were opened, and then seen so: they are looked at at once
abbrev pub first_known : SpoolSeen → Presence
first_known seen = record {
  file = opened_as seen.file;
  log = opened_as seen.log;
  faults = no_faults;
  next = 0;
  again = 0;
}

-- ---- what is told

-- a second, and a minute, after this moment
abbrev pub second_after : (now : ℕ) → ℕ
second_after now = min (now + 1000) 18446744073709551615

abbrev pub minute_after : (now : ℕ) → ℕ
minute_after now = min (now + 60000) 18446744073709551615

-- What is told of faults that are found at this moment, by those that were found before, if the same are told again at
-- that moment: what is wrong at once, and then each minute; and once that nothing is wrong any more.
pub record IsTold (before found : SpoolFaults) (now again : ℕ) (news : Option PresenceNews) : Type 0 where
  pub new : found ≢ no_faults → found ≢ before → news ≡ Some (Wrong found)
  pub old : found ≢ no_faults → found ≡ before → again ≤ now → news ≡ Some (Wrong found)
  pub waits : found ≢ no_faults → found ≡ before → now < again → news ≡ None
  pub mended : found ≡ no_faults → before ≢ no_faults → news ≡ Some Right
  pub well : found ≡ no_faults → before ≡ no_faults → news ≡ None

-- A look at this moment, at which this is seen: what is known of both files, what is wrong, and what is told of it. The
-- next look comes a second later, and what was told is told again a minute later.
pub record IsLook (now : ℕ) (seen : SpoolSeen) (old new : Presence) (news : Option PresenceNews) : Type 0 where
  pub file : new.file ≡ seen_again old.file seen.file
  pub log : new.log ≡ seen_again old.log seen.log
  pub faults : new.faults ≡ faults_at new.file new.log seen
  pub told : IsTold old.faults new.faults now old.again news
  pub next : new.next ≡ second_after now
  pub is_told : IfSome news (λ what. new.again ≡ minute_after now)
  pub is_silent : IfNone news (new.again ≡ old.again)
