-- What one call of a connection moved.
use Rattle.std.specs.Prelude.{ℕ, ◌<◌, ◌≤◌, List, [], ◌∷◌, take, Result, Ok, Err, ⊤}
use Rattle.njh_wire.specs.declared.connection.ConnectionRead.{ConnectionRead}
use Rattle.njh_wire.specs.declared.connection.ConnectionRead.TheVariants.{Bytes, Nothing, Paused, Ended, Refused}
use Rattle.njh_wire.specs.declared.connection.ConnectionFault.{ConnectionFault}
use Rattle.njh_wire.specs.declared.end.Stop.{Stop}
use Rattle.njh_wire.specs.declared.end.Stop.TheVariants as stop

-- the bytes that a read gave
abbrev pub bytes_given : Result ConnectionRead ConnectionFault → List ℕ → List ℕ
bytes_given (Ok (Bytes n)) buffer = take n buffer
bytes_given (Ok Nothing) buffer = []
bytes_given (Ok Paused) buffer = []
bytes_given (Ok Ended) buffer = []
bytes_given (Ok (Refused fault)) buffer = []
bytes_given (Err fault) buffer = []

-- the byte that was read, if one was
abbrev pub byte_given : Result ℕ Stop → List ℕ
byte_given (Ok byte) = byte ∷ []
byte_given (Err stop) = []

-- at least one byte came, and no more than there was room for
abbrev pub IsReceived : ℕ → ConnectionRead → Type 0
IsReceived room (Bytes n) = (0 < n) × (n ≤ room)
IsReceived room Nothing = ⊤
IsReceived room Paused = ⊤
IsReceived room Ended = ⊤
IsReceived room (Refused fault) = ⊤

-- why no more bytes come, as a read said it
abbrev pub IsStop : (Stop → Type 0) → Result ConnectionRead ConnectionFault → Type 0
IsStop stops (Ok (Bytes n)) = ⊤
IsStop stops (Ok Nothing) = stops stop.Dry
IsStop stops (Ok Paused) = stops stop.Paused
IsStop stops (Ok Ended) = stops stop.Ended
IsStop stops (Ok (Refused fault)) = stops (stop.Refused fault)
IsStop stops (Err fault) = stops stop.Failed

-- how many bytes a call put out
abbrev pub count_put_out : Result ℕ ConnectionFault → ℕ
count_put_out (Ok n) = n
count_put_out (Err fault) = 0
