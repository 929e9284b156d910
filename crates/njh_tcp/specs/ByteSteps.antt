-- What bytes do to a rest, as functions.
use Rattle.std.specs.Prelude.{◌≡◌, ℕ, ◌+◌, ◌-◌, ◌<◌, ◌≤◌, ◌==◌, if◌then◌else◌, List, [], ◌∷◌, ◌++◌, length, drop, nat_lt}
use Rattle.std.specs.Prelude.{Option, Some, None}
use Rattle.std.specs.List.{cons_option}
use Rattle.njh_tcp.specs.Limits.{ttb_head, ttr_head, shortest_ttb}
use Rattle.njh_tcp.specs.Faults.{head_fault}
use Rattle.njh_tcp.specs.Blocks.{length_in, Item, Whole, Wrong}
use Rattle.njh_tcp.specs.Hearing.{Outcome, Hears, heard_of}
use Rattle.njh_tcp.specs.Reading.{Part, InHead, InTtrHead, InTtr, Rest, Open, Shut, rest_of, outcome_list}
use Rattle.njh_tcp.specs.declared.contact.Contact.{Contact}
use Rattle.njh_tcp.specs.declared.fault.TtbFault.{TtbFault}
use Rattle.njh_tcp.specs.declared.fault.TtbFault.TheVariants.{ShortTtb}

-- what ends in a TTB, if anything, and the part that comes then
pub record PartStep : Type 0 where
  pub item : Option Item
  pub part : Part

abbrev pub goes_to : Part → PartStep
goes_to part = record { item = None; part = part }

abbrev pub ends_with : Item → Part → PartStep
ends_with item part = record { item = Some item; part = part }

-- after the head of a TTB that tells such a length
abbrev pub after_head : ℕ → PartStep
after_head size =
    if nat_lt size shortest_ttb then ends_with (Wrong (ShortTtb size)) (InHead [])
    else goes_to (InTtrHead (size - shortest_ttb) [])

-- after the head of a TTR that tells such a length
abbrev pub fitting : Option TtbFault → PartStep → PartStep
fitting (Some fault) step = ends_with (Wrong fault) (InHead [])
fitting None step = step

abbrev pub after_ttr_head : ℕ → ℕ → PartStep
after_ttr_head behind size =
    fitting (head_fault behind size)
    (if size == 0 then goes_to (InHead []) else goes_to (InTtr (behind - size) size []))

-- a part of which so much has come: it goes on, or, if it is whole, another begins
unfoldable pub part_step : Part → PartStep
part_step (InHead held) = if nat_lt (length held) ttb_head then goes_to (InHead held) else after_head (length_in held)
part_step (InTtrHead behind held) =
    if nat_lt (length held) ttr_head then goes_to (InTtrHead behind held) else after_ttr_head behind (length_in held)
part_step (InTtr behind size held) =
    if nat_lt (length held) size then goes_to (InTtr behind size held)
    else ends_with (Whole held) (InTtrHead (behind - ttr_head) [])

abbrev pub with_byte : Part → ℕ → Part
with_byte (InHead held) byte = InHead (held ++ byte ∷ [])
with_byte (InTtrHead behind held) byte = InTtrHead behind (held ++ byte ∷ [])
with_byte (InTtr behind size held) byte = InTtr behind size (held ++ byte ∷ [])

-- what is given, if anything, and the rest then
pub record RestStep : Type 0 where
  pub outcome : Option Outcome
  pub rest : Rest

abbrev pub heard_in : Contact → Option Item → Part → RestStep
heard_in contact None part = record { outcome = None; rest = Open contact part }
heard_in contact (Some item) part =
    let heard = heard_of (Hears contact) item in
    record { outcome = heard.outcome; rest = rest_of heard.hearing part }

unfoldable pub rest_step : Rest → ℕ → RestStep
rest_step (Open contact part) byte =
    let step = part_step (with_byte part byte) in heard_in contact step.item step.part
rest_step (Shut fault) byte = record { outcome = None; rest = Shut fault }

-- what one call takes of a piece: all up to the end of what is given or refused first, or the whole
pub record Fed : Type 0 where
  pub taken : ℕ
  pub outcome : Option Outcome
  pub rest : Rest

abbrev pub ahead : ℕ → Fed → Fed
ahead n fed = record fed { taken = n + fed.taken }

abbrev pub stop_or : RestStep → Fed → Fed
stop_or here later = elim here.outcome [
  | Some outcome ↦ record { taken = 1; outcome = Some outcome; rest = here.rest }
  | None ↦ ahead 1 later
]

abbrev pub feed_outcome : Rest → List ℕ → Fed
feed_outcome rest [] = record { taken = 0; outcome = None; rest = rest }
feed_outcome rest (byte ∷ bytes) = stop_or (rest_step rest byte) (feed_outcome (rest_step rest byte).rest bytes)

-- what is given of bytes after a rest, and the rest that they leave
abbrev pub outcomes_after : Rest → List ℕ → List Outcome
outcomes_after rest [] = []
outcomes_after rest (byte ∷ bytes) =
    cons_option (rest_step rest byte).outcome (outcomes_after (rest_step rest byte).rest bytes)

abbrev pub rest_after : Rest → List ℕ → Rest
rest_after rest [] = rest
rest_after rest (byte ∷ bytes) = rest_after (rest_step rest byte).rest bytes

-- the same of pieces, one after another
abbrev pub outcomes_of_pieces : Rest → List (List ℕ) → List Outcome
outcomes_of_pieces rest [] = []
outcomes_of_pieces rest (piece ∷ pieces) = outcomes_after rest piece ++ outcomes_of_pieces (rest_after rest piece) pieces

abbrev pub rest_after_pieces : Rest → List (List ℕ) → Rest
rest_after_pieces rest [] = rest
rest_after_pieces rest (piece ∷ pieces) = rest_after_pieces (rest_after rest piece) pieces

-- A piece of which so much was taken gives what was given first, if anything, and then what the part that is left gives
-- after the new rest.
pub record GoesOn (rest : Rest) (piece : List ℕ) (taken : ℕ) (outcome : Option Outcome) (new : Rest) : Type 0 where
  pub within : taken ≤ length piece
  pub some : 0 < length piece → 0 < taken
  pub outcomes : outcomes_after rest piece ≡ outcome_list outcome ++ outcomes_after new (drop taken piece)
  pub left : rest_after rest piece ≡ rest_after new (drop taken piece)
