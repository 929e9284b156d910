-- All streams to the hub of a customer, line by line.
use Rattle.std.specs.Prelude.{ℕ, List, [], length, replicate, slice_index_or, slice_set, Option, Some, None}
use Rattle.njh_stream.specs.declared.receiver.Receiver.{Receiver}
use Rattle.njh_stream.specs.declared.receiver.Receiver.TheVariants.{Idle, Open, Draining}

-- the streams of a line: SYSIN 1 to 4, SYSOUT 1 to 4
abbrev pub streams_at : ℕ → List (List Receiver) → List Receiver
streams_at l lines = slice_index_or lines l []

abbrev pub stream_at : ℕ → ℕ → List (List Receiver) → Receiver
stream_at l k lines = slice_index_or (streams_at l lines) k Idle

abbrev pub with_stream : ℕ → ℕ → Receiver → List (List Receiver) → List (List Receiver)
with_stream l k r lines = slice_set lines l (slice_set (streams_at l lines) k r)

-- a line's session ended
abbrev pub without_streams : ℕ → List (List Receiver) → List (List Receiver)
without_streams l lines = slice_set lines l (replicate (length (streams_at l lines)) Idle)

-- the number of the file that comes
abbrev pub coming_file : Receiver → Option ℕ
coming_file Idle = None
coming_file (Open n progress) = Some n
coming_file Draining = None
