-- What a reader of TTBs gives of bytes, and what of them matters for what follows.
use Rattle.std.specs.Prelude.{◌≡◌, ℕ, ◌-◌, ◌<◌, ◌≤◌, List, [], ◌∷◌, ◌++◌, length, take, Option, Some, None}
use Rattle.njh_tcp.specs.Blocks.{Ttb, Partial, in_head, in_ttr_head, in_ttr, wrong_head, wrong_ttr_head, Splits}
use Rattle.njh_tcp.specs.Blocks.{length_in, bytes_behind, items_of}
use Rattle.njh_tcp.specs.Hearing.{Outcome, Hearing, Hears, Refused, outcomes_of, hearing_after}
use Rattle.njh_tcp.specs.declared.contact.Contact.{Contact}
use Rattle.njh_tcp.specs.declared.contact.Contact.TheVariants.{Over}
use Rattle.njh_tcp.specs.declared.fault.TtbFault.{TtbFault}

-- Which part of a TTB is coming, and what has come of it: its head; the head of a TTR, and how many bytes of the TTB are
-- behind that; the data of a TTR, how many bytes of the TTB are behind these, and how many they are.
pub data Part : Type 0 where
  InHead : List ℕ → Part
  InTtrHead : ℕ → List ℕ → Part
  InTtr : ℕ → ℕ → List ℕ → Part

pub data Rest : Type 0 where
  Open : Contact → Part → Rest
  Shut : TtbFault → Rest

-- nothing has come
abbrev pub afresh : Contact → Rest
afresh contact = Open contact (InHead [])

-- as it is after a text
abbrev pub contact_over : Rest → Rest
contact_over (Open contact part) = Open Over part
contact_over (Shut fault) = Shut fault

-- the fault that ended it, if one did
abbrev pub fault_in : Rest → Option TtbFault
fault_in (Open contact part) = None
fault_in (Shut fault) = Some fault

-- (Of what is no TTB no part is coming.)
abbrev pub part_of : Partial → Part
part_of (in_head part) = InHead part
part_of (in_ttr_head head ttrs part) = InTtrHead (bytes_behind head ttrs) part
part_of (in_ttr head ttrs next part) = InTtr (bytes_behind head ttrs - length_in next) (length_in next) part
part_of (wrong_head head after) = InHead []
part_of (wrong_ttr_head head ttrs next after) = InHead []

-- it goes on
abbrev pub IsRight : Partial → Type 0
IsRight (in_head part) = Unit {0}
IsRight (in_ttr_head head ttrs part) = Unit {0}
IsRight (in_ttr head ttrs next part) = Unit {0}
IsRight (wrong_head head after) = ⊥
IsRight (wrong_ttr_head head ttrs next after) = ⊥

abbrev pub rest_of : Hearing → Part → Rest
rest_of (Hears contact) part = Open contact part
rest_of (Refused fault) part = Shut fault

-- A reader that was made for such a contact has given this of these bytes, and is left so.
pub record Reads (contact : Contact) (bytes : List ℕ) (outcomes : List Outcome) (rest : Rest) : Type 0 where
  pub ttbs : List Ttb
  pub partial : Partial
  pub splits : Splits bytes ttbs partial
  pub outcomes_are : outcomes ≡ outcomes_of (Hears contact) (items_of ttbs partial)
  pub rest_is : rest ≡ rest_of (hearing_after (Hears contact) (items_of ttbs partial)) (part_of partial)

abbrev pub outcome_list : Option Outcome → List Outcome
outcome_list (Some outcome) = outcome ∷ []
outcome_list None = []

-- After bytes of which this was given a piece comes, and so many bytes of it are taken: up to and including the end of
-- the first TTR that is given or refused, or of what is wrong, or all if there is none.
pub record TakesFirst (contact : Contact) (seen : List ℕ) (outcomes : List Outcome) (piece : List ℕ) (taken : ℕ)
    (outcome : Option Outcome) (rest : Rest) : Type 0 where
  pub within : taken ≤ length piece
  pub through : Reads contact (seen ++ take taken piece) (outcomes ++ outcome_list outcome) rest
  pub none_before : (k : ℕ) → k < taken → (r : Rest) × Reads contact (seen ++ take k piece) outcomes r
  pub all : outcome ≡ None → taken ≡ length piece
