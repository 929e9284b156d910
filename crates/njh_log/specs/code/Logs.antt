-- What a log hands its writer.
use Rattle.std.specs.Prelude.{◌≡◌, ℕ, ◌<◌, ◌≤◌, List, [], length, take, drop, Option, IsSome, option_and_then}
use Rattle.std.specs.Io.KnownBytes.{Appends}
use Rattle.njh_log.specs.Logging.{Logging, IsTelling, GoesOut}

-- the writer took so many bytes of what was left
pub record Sends {L : Type 0} (contents : L → Option (List ℕ)) (old new : Logging L) (count : ℕ) : Type 0 where
  pub within : count ≤ length old.left
  pub left : new.left ≡ drop count old.left
  pub dropped : new.dropped ≡ old.dropped
  pub writer : IsSome new.writer
  pub out : Appends (option_and_then contents old.writer) (option_and_then contents new.writer) (take count old.left)

-- this tells of the lines that were dropped, of which none is to be told any more
pub record Tells {L : Type 0} (contents : L → Option (List ℕ)) (old new : Logging L) (telling : List ℕ) : Type 0 where
  pub is_telling : IsTelling old.dropped telling
  pub out : GoesOut contents old new telling
  pub less : length new.left ≤ length telling
  pub begun : 0 < old.dropped → length new.left < length telling
  pub dropped : new.dropped ≡ 0

-- and nothing is left
pub record HasTold {L : Type 0} (contents : L → Option (List ℕ)) (old new : Logging L) (telling : List ℕ) : Type 0 where
  pub tells : Tells contents old new telling
  pub left : new.left ≡ []
