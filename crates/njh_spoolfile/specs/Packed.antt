-- Records of a file in one row of the table of records: one as it stands, or several one after the other.
use Rattle.std.specs.Prelude.{ℕ, zero, suc, ◌+◌, ◌*◌, ◌/◌, ◌%◌, ◌==◌, nat_le, if◌then◌else◌}
use Rattle.std.specs.Prelude.{List, [], ◌∷◌, length, take, drop, flat_map, Option, None, Some}

-- the SRCB of a row in which several stand
abbrev pub several : ℕ
several = 256

-- a record among several: its SRCB, how many bytes it has, in two bytes, and those
abbrev pub packed_one : ℕ × List ℕ → List ℕ
packed_one r = r.0 ∷ length r.1 / 256 ∷ length r.1 % 256 ∷ r.1

abbrev pub packed : List (ℕ × List ℕ) → List ℕ
packed = flat_map packed_one

-- the first of several, and the bytes behind it
abbrev pub first_packed : List ℕ → Option ((ℕ × List ℕ) × List ℕ)
first_packed (srcb ∷ high ∷ low ∷ bytes) =
    if nat_le (high * 256 + low) (length bytes)
    then Some ((srcb, take (high * 256 + low) bytes), drop (high * 256 + low) bytes) else None
first_packed _ = None

-- All of them, no more than so many. What is none is given as it stands, and no hub has a record of this SRCB.
abbrev pub unpacked_up_to : ℕ → List ℕ → List (ℕ × List ℕ)
unpacked_up_to zero bytes = (several, bytes) ∷ []
unpacked_up_to (suc most) bytes = elim (first_packed bytes) [
  | None ↦ (several, bytes) ∷ []
  | Some first ↦ first.0 ∷ elim first.1 [ [] ↦ [] | b ∷ bs ↦ unpacked_up_to most first.1 ]
]

-- Each has three bytes at least, so there are no more than bytes.
abbrev pub unpacked : List ℕ → List (ℕ × List ℕ)
unpacked bytes = unpacked_up_to (length bytes) bytes

-- the records of a row of this SRCB and these bytes
abbrev pub unpacked_row : ℕ → List ℕ → List (ℕ × List ℕ)
unpacked_row srcb bytes = if srcb == several then unpacked bytes else (srcb, bytes) ∷ []

-- each with its place in the file, from this one on
abbrev pub placed_from : ℕ → List (ℕ × List ℕ) → List (ℕ × ℕ × List ℕ)
placed_from place [] = []
placed_from place (r ∷ rs) = (place, r.0, r.1) ∷ placed_from (place + 1) rs
