-- What follows what is spelled at the front of bytes.
use Rattle.std.specs.Prelude.{List, ℕ, Option, Some, None, Result, Ok, Err}
use Rattle.njh_record.specs.Unspelled.{Unspelled, Fault}

abbrev pub behind : Result Unspelled Fault → Option (List ℕ)
behind (Ok found) = Some found.rest
behind (Err e) = None
