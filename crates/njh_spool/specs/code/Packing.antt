-- How the records of a file lie in its bytes: each its SRCB, its length in two bytes, the high byte first, and its
-- bytes.
use Rattle.std.specs.Prelude.{ℕ, zero, suc, ◌+◌, ◌<◌, ◌≤◌, List, [], ◌∷◌, ◌++◌, length, drop, slice_index}
use Rattle.njh_record.specs.Bytes.{field, number_at, two_bytes}
use Rattle.njh_record.specs.Stored.{Stored}

abbrev pub packed_record : Stored → List ℕ
packed_record r = (r.srcb ∷ two_bytes (length r.bytes)) ++ r.bytes

abbrev pub packed_bytes : List Stored → List ℕ
packed_bytes [] = []
packed_bytes (r ∷ records) = packed_record r ++ packed_bytes records

-- the record at the front of some bytes
abbrev pub first_record : List ℕ → Stored
first_record bytes = record { srcb = slice_index bytes 0; bytes = field 3 (number_at 1 bytes) bytes }

-- so many records from the front on
abbrev pub unpacked_records : ℕ → List ℕ → List Stored
unpacked_records zero bytes = []
unpacked_records (suc n) bytes = first_record bytes ∷ unpacked_records n (drop (3 + number_at 1 bytes) bytes)

-- a record's SRCB is a byte
abbrev pub HasByteSrcb : Stored → Type 0
HasByteSrcb r = r.srcb < 256

-- a record is of 256 bytes at most
abbrev pub IsShort : Stored → Type 0
IsShort r = length r.bytes ≤ 256
