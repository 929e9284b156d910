-- Where a header's general section begins, as a function over the sections one by one. It gives exactly what HasGeneral
-- and LacksGeneral say: the law `one_general_section`.
use Rattle.std.specs.Prelude.{ℕ, zero, suc, ◌+◌, List, length, drop, Result, Ok, Err, ◌==◌, nat_lt, cond, ◌||◌}
use Rattle.njh_record.specs.Bytes.{number_at}
use Rattle.njh_header.specs.declared.fault.HeaderFault.{HeaderFault}
use Rattle.njh_header.specs.declared.fault.HeaderFault.TheVariants.{TooShort, NoGeneralSection, SectionOverrun}

-- What is at the front of the sections that are left.
pub data Front : Type 0 where
  Ends : Front
  Cut : Front
  Small : Front
  General : Front
  Other : Front

-- a general section has to have this size
abbrev pub front_of : ℕ → List ℕ → Front
front_of size rest =
    cond (length rest == 0) Ends
    (cond (nat_lt (length rest) 4 || nat_lt (number_at 0 rest) 4) Cut
    (cond (number_at 2 rest == 0)
    (cond (nat_lt (number_at 0 rest) size || nat_lt (length rest) size) Small General)
    (cond (nat_lt (length rest) (number_at 0 rest)) Cut Other)))

-- from a place on, over at most so many sections
abbrev pub walk : ℕ → ℕ → ℕ → List ℕ → Result ℕ HeaderFault
walk zero size place rest = Err NoGeneralSection
walk (suc k) size place rest =
    let next = walk k size (place + number_at 0 rest) (drop (number_at 0 rest) rest) in
    elim (front_of size rest) [
      | Ends ↦ Err NoGeneralSection
      | Cut ↦ Err SectionOverrun
      | Small ↦ Err TooShort
      | General ↦ Ok place
      | Other ↦ next
    ]

abbrev pub general_section : ℕ → List ℕ → Result ℕ HeaderFault
general_section size bytes = cond (nat_lt (length bytes) 4) (Err TooShort) (walk (length bytes) size 4 (drop 4 bytes))
