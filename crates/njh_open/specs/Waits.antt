-- How long a control record is waited for. Times are milliseconds on the service's clock.
use Rattle.std.specs.Prelude.{ℕ, ◌+◌, List, min}

-- What has come of it, and since when it is waited for.
pub record Wait : Type 0 where
  pub came : List ℕ
  pub since : ℕ

-- ten seconds
abbrev pub patience : ℕ
patience = 10000

-- when it is waited for no more
abbrev pub late_at : Wait → ℕ
late_at wait = min (wait.since + patience) 18446744073709551615
