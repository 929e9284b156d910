-- TTBs and their TTRs (NJE over TCP/IP): bytes are TTBs, and then a rest that is no whole TTB. Of a head nothing is
-- looked at but the length that it tells.
use Rattle.std.specs.Prelude.{◌≡◌, ℕ, ◌+◌, ◌-◌, ◌<◌, ◌≤◌, List, [], ◌∷◌, ◌++◌, length, drop, flat_map, map, Option, Some}
use Rattle.std.specs.Prelude.{None, IsSome}
use Rattle.std.specs.List.{AllByRecursion}
use Rattle.byteorder.specs.Endian.{big_number}
use Rattle.njh_tcp.specs.Limits.{ttb_head, ttr_head, shortest_ttb, longest_ttr}
use Rattle.njh_tcp.specs.Faults.{head_fault}
use Rattle.njh_tcp.specs.declared.fault.TtbFault.{TtbFault}
use Rattle.njh_tcp.specs.declared.fault.TtbFault.TheVariants.{ShortTtb}

-- the length that a head tells: its third and fourth byte, the higher first
abbrev pub length_in : List ℕ → ℕ
length_in head = big_number 2 (drop 2 head)

-- a TTR: its head, and its data
pub record Ttr : Type 0 where
  pub head : List ℕ
  pub held : List ℕ

abbrev pub bytes_of_ttr : Ttr → List ℕ
bytes_of_ttr ttr = ttr.head ++ ttr.held

-- Its head has four bytes and tells how many data follow, 1 to 4,098.
pub record IsTtr (ttr : Ttr) : Type 0 where
  pub size : length ttr.head ≡ ttr_head
  pub tells : length_in ttr.head ≡ length ttr.held
  pub some : 0 < length ttr.held
  pub short : length ttr.held ≤ longest_ttr

-- a TTB: its head, its TTRs, and the end
pub record Ttb : Type 0 where
  pub head : List ℕ
  pub ttrs : List Ttr
  pub end : List ℕ

abbrev pub bytes_of_ttrs : List Ttr → List ℕ
bytes_of_ttrs ttrs = flat_map bytes_of_ttr ttrs

abbrev pub bytes_of_ttb : Ttb → List ℕ
bytes_of_ttb ttb = ttb.head ++ bytes_of_ttrs ttb.ttrs ++ ttb.end

-- Its head has eight bytes and tells the length of all of it. The end is the head of a TTR that tells no data.
pub record IsTtb (ttb : Ttb) : Type 0 where
  pub size : length ttb.head ≡ ttb_head
  pub tells : length_in ttb.head ≡ length (bytes_of_ttb ttb)
  pub each : AllByRecursion IsTtr ttb.ttrs
  pub end_size : length ttb.end ≡ ttr_head
  pub end_tells : length_in ttb.end ≡ 0

-- What has come of a TTB that isn't whole: a part of its head; its head, TTRs, and a part of the next TTR's head; these,
-- that whole head, and a part of its data. Or what is no TTB, and all that follows: a head that tells too little; a head
-- and TTRs, and a TTR's head that doesn't fit.
pub data Partial : Type 0 where
  in_head : List ℕ → Partial
  in_ttr_head : List ℕ → List Ttr → List ℕ → Partial
  in_ttr : List ℕ → List Ttr → List ℕ → List ℕ → Partial
  wrong_head : List ℕ → List ℕ → Partial
  wrong_ttr_head : List ℕ → List Ttr → List ℕ → List ℕ → Partial

abbrev pub bytes_of_partial : Partial → List ℕ
bytes_of_partial (in_head part) = part
bytes_of_partial (in_ttr_head head ttrs part) = head ++ bytes_of_ttrs ttrs ++ part
bytes_of_partial (in_ttr head ttrs next part) = head ++ bytes_of_ttrs ttrs ++ next ++ part
bytes_of_partial (wrong_head head after) = head ++ after
bytes_of_partial (wrong_ttr_head head ttrs next after) = head ++ bytes_of_ttrs ttrs ++ next ++ after

-- how many bytes of the TTB are behind its head, these TTRs and the head of one more, which may be the end
abbrev pub bytes_behind : List ℕ → List Ttr → ℕ
bytes_behind head ttrs = length_in head - (shortest_ttb + length (bytes_of_ttrs ttrs))

-- A TTB has begun with this head and these TTRs, and has room for the end.
pub record HasBegun (head : List ℕ) (ttrs : List Ttr) : Type 0 where
  pub size : length head ≡ ttb_head
  pub each : AllByRecursion IsTtr ttrs
  pub room : shortest_ttb + length (bytes_of_ttrs ttrs) ≤ length_in head

abbrev pub IsPartial : Partial → Type 0
IsPartial (in_head part) = length part < ttb_head
IsPartial (in_ttr_head head ttrs part) = HasBegun head ttrs × (length part < ttr_head)
IsPartial (in_ttr head ttrs next part) =
    HasBegun head ttrs × (length next ≡ ttr_head) × (head_fault (bytes_behind head ttrs) (length_in next) ≡ None)
    × (length part < length_in next)
IsPartial (wrong_head head after) = (length head ≡ ttb_head) × (length_in head < shortest_ttb)
IsPartial (wrong_ttr_head head ttrs next after) =
    HasBegun head ttrs × (length next ≡ ttr_head) × IsSome (head_fault (bytes_behind head ttrs) (length_in next))

-- The bytes are these TTBs, and then this rest.
pub record Splits (bytes : List ℕ) (ttbs : List Ttb) (partial : Partial) : Type 0 where
  pub whole : bytes ≡ flat_map bytes_of_ttb ttbs ++ bytes_of_partial partial
  pub each : AllByRecursion IsTtb ttbs
  pub last : IsPartial partial

-- what stands in bytes, in order: the data of whole TTRs, and last what is wrong
pub data Item : Type 0 where
  Whole : List ℕ → Item
  Wrong : TtbFault → Item

abbrev pub items_of_ttrs : List Ttr → List Item
items_of_ttrs ttrs = map (λ ttr. Whole ttr.held) ttrs

abbrev pub wrong_items : Option TtbFault → List Item
wrong_items None = []
wrong_items (Some fault) = Wrong fault ∷ []

abbrev pub items_of_partial : Partial → List Item
items_of_partial (in_head part) = []
items_of_partial (in_ttr_head head ttrs part) = items_of_ttrs ttrs
items_of_partial (in_ttr head ttrs next part) = items_of_ttrs ttrs
items_of_partial (wrong_head head after) = Wrong (ShortTtb (length_in head)) ∷ []
items_of_partial (wrong_ttr_head head ttrs next after) =
    items_of_ttrs ttrs ++ wrong_items (head_fault (bytes_behind head ttrs) (length_in next))

abbrev pub items_of : List Ttb → Partial → List Item
items_of ttbs partial = flat_map (λ ttb. items_of_ttrs ttb.ttrs) ttbs ++ items_of_partial partial
