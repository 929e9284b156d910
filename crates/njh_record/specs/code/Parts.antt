-- What reading knows on its way: what comes first in the bytes, and what the items so far add.
use Rattle.std.specs.Prelude.{◌≡◌, ℕ, ◌<◌, ◌≤◌, Bool, true, false, List, [], ◌∷◌, ◌+◌, ◌++◌, length, Result, Ok, Err}
use Rattle.std.specs.Borrow.{Bor}
use Rattle.njh_record.specs.Bytes.{AreBytes}
use Rattle.njh_record.specs.declared.RecordFault.{RecordFault}
use Rattle.njh_record.specs.declared.RecordFault.TheVariants as faults
use Rattle.njh_record.specs.declared.item.Item as own
use Rattle.njh_record.specs.declared.item.Item.TheVariants as own_items
use Rattle.njh_record.specs.declared.unspelling.SpellingPart.{SpellingPart}
use Rattle.njh_record.specs.declared.unspelling.SpellingPart.TheVariants as part
use Rattle.njh_record.specs.declared.End.{End}
use Rattle.njh_record.specs.declared.End.TheVariants.{Record, Abort}
use Rattle.njh_record.specs.Spelling.{Item, blanks, repeat, literal, item_bytes, end_byte}
use Rattle.njh_record.specs.Reading.{IsBadScb}
use Rattle.njh_record.specs.Unspelled.{Front, OfItem, OfEnd, Bad, Cut, Fault, Unspelled, with_front, ReadsAs}

-- The items of the code as those of the definition.
abbrev pub item_of : own.Item → Item
item_of (own_items.Blanks count) = blanks count
item_of (own_items.Repeat byte count) = repeat count byte
item_of (own_items.Literal bytes) = literal bytes.now

-- a run has room for its count in its control byte
abbrev pub IsCounted : Item → Type 0
IsCounted (blanks n) = n < 32
IsCounted (repeat n byte) = n < 32
IsCounted (literal bytes) = Unit {0}

-- the bytes are the front of an item, and not the whole of it
pub record IsCutItem (bytes : List ℕ) : Type 0 where
  pub item : Item
  pub counted : IsCounted item
  pub missing : List ℕ
  pub some : 0 < length missing
  pub parts : bytes ++ missing ≡ item_bytes item

-- the bytes begin with a byte that is no string control byte
abbrev pub BeginsBad : List ℕ → Type 0
BeginsBad [] = ⊥
BeginsBad (byte ∷ rest) = IsBadScb byte

-- this comes first in the bytes
abbrev pub StandsFirst : List ℕ → Front → Type 0
StandsFirst bytes (OfItem item rest) = IsCounted item × (bytes ≡ item_bytes item ++ rest)
StandsFirst bytes (OfEnd end rest) = bytes ≡ end_byte end ∷ rest
StandsFirst bytes Bad = BeginsBad bytes
StandsFirst bytes Cut = IsCutItem bytes

-- what the code finds first is there
abbrev pub LeadsToPart : List ℕ → Result (SpellingPart × Bor (List ℕ)) RecordFault → Type 0
LeadsToPart bytes (Ok (part.Item item, rest)) = StandsFirst bytes (OfItem (item_of item) rest.now)
LeadsToPart bytes (Ok (part.End end, rest)) = StandsFirst bytes (OfEnd end rest.now)
LeadsToPart bytes (Err faults.BadScb) = StandsFirst bytes Bad
LeadsToPart bytes (Err faults.Truncated) = StandsFirst bytes Cut
LeadsToPart bytes (Err (faults.TooLong used)) = ⊥

-- a record takes more bytes if it has the room for all of them
abbrev pub Takes : Bool → List ℕ → List ℕ → List ℕ → Type 0
Takes true old more new = (new ≡ old ++ more) × (length old + length more ≤ 256)
Takes false old more new = 256 < length old + length more

-- a record holds what was added, or was given more than it can hold
abbrev pub Holds : Bool → List ℕ → List ℕ → Type 0
Holds true added contents = (contents ≡ added) × (length added ≤ 256)
Holds false added contents = 256 < length added

-- the bytes up to a rest were read, and a record holds what they add: what the rest reads as, the whole does with that
-- in front
pub record HasRead (bytes rest contents : List ℕ) (fits : Bool) : Type 0 where
  pub adds : List ℕ
  pub reads : (read : Result Unspelled Fault) → ReadsAs rest read → ReadsAs bytes (with_front adds read)
  pub left : AreBytes rest
  pub within : length rest ≤ length bytes
  pub holds : Holds fits adds contents

-- what of a record is kept: nothing after a fault or an abort
abbrev pub kept_by : Result (ℕ × End) RecordFault → List ℕ → List ℕ
kept_by (Ok (n, Record)) contents = contents
kept_by (Ok (n, Abort)) contents = []
kept_by (Err fault) contents = []
