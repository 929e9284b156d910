-- What a read of a connection holds on which no session is up: bytes of which the last alone may end a frame (IBM
-- GA27-3004, transparent text). So whoever is there is judged by one frame before the next is read.
use Rattle.std.specs.Prelude.{◌≡◌, ℕ, ◌-◌, ◌≤◌, Bool, false, ◌||◌, ◌==◌, List, length, take, All, ⊤}
use Rattle.njh_turns.specs.declared.wire_reading.Reading.{Reading}
use Rattle.njh_turns.specs.declared.wire_reading.Reading.TheVariants as reading

-- a byte with which a frame may end: ENQ, the second of an ACK0, NAK, EOT, ETB, ETX; each may be data of a text too
abbrev pub may_end : ℕ → Bool
may_end byte = byte == 0x2D || byte == 0x70 || byte == 0x3D || byte == 0x37 || byte == 0x26 || byte == 0x03

-- no frame ends with this byte
abbrev pub EndsNone : ℕ → Type 0
EndsNone byte = may_end byte ≡ false

-- no frame ends with one of these bytes but the last
abbrev pub IsOneFrame : List ℕ → Type 0
IsOneFrame bytes = All EndsNone (take (length bytes - 1) bytes)

-- how many bytes one read holds at most
abbrev pub strangers_room : ℕ
strangers_room = 256

-- what a read holds of one of whom it isn't known yet who it is
abbrev pub IsStrange : List ℕ → Type 0
IsStrange bytes = IsOneFrame bytes × (length bytes ≤ strangers_room)

abbrev pub IsStrangersReading : (buffer : List ℕ) → Reading → Type 0
IsStrangersReading buffer (reading.Bytes n) = IsStrange (take n buffer)
IsStrangersReading buffer reading.Quiet = ⊤
IsStrangersReading buffer reading.Pending = ⊤
IsStrangersReading buffer reading.Prompted = ⊤
IsStrangersReading buffer reading.Closed = ⊤
IsStrangersReading buffer reading.Absent = ⊤
