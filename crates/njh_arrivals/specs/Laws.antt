-- What holds of arrivals, whoever notes them.
use Rattle.std.specs.Prelude.{◌≡◌, ◌≢◌, ℕ, ◌≤◌, ◌<◌, length, Some}
use Rattle.njh_table.specs.Limits.{max_files}
use Rattle.njh_arrivals.specs.Arrivals.{Seen, moment_of, noted, seen_of}

-- The moment at which a file of customer c came is told of it. Of all other customers' files what was told before is
-- told, and so of its own others while there is room.
pub record IsNoted (c file moment : ℕ) (seen : Seen) : Type 0 where
  pub of_it : c < length seen → moment_of c file (noted c file moment seen) ≡ Some moment
  pub of_others : (other any : ℕ) → other ≢ c
      → moment_of other any (noted c file moment seen) ≡ moment_of other any seen
  pub of_its_others : (other : ℕ) → other ≢ file → length (seen_of c seen) < max_files → c < length seen
      → moment_of c other (noted c file moment seen) ≡ moment_of c other seen
  pub of_nobody : length seen ≤ c → noted c file moment seen ≡ seen

abbrev pub NotedIsTold : Type 0
NotedIsTold = (c file moment : ℕ) (seen : Seen) → IsNoted c file moment seen
