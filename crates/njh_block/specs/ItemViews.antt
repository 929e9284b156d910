-- What the records that the code gives and takes are.
use Rattle.std.specs.Prelude.{◌≡◌, ℕ, ◌≤◌, length, List, [], ◌∷◌, Option, Some, None, Result, Ok, Err, ◌==◌, cond}
use Rattle.njh_block.specs.declared.fault.BlockFault.{BlockFault}
use Rattle.njh_block.specs.declared.item.Item.{Item as Given}
use Rattle.njh_block.specs.declared.item.Item.TheVariants as given
use Rattle.njh_block.specs.declared.out.Out.{Out}
use Rattle.njh_block.specs.declared.out.Out.TheVariants as out
use Rattle.njh_block.specs.declared.rcb.Form.TheVariants as form
use Rattle.std.specs.Borrow.{Bor}
use Rattle.njh_block.specs.Blocks.{Item, Data, Aborted, Long, Control, General, First, control_byte, form_of}

-- the item, if these bytes are in the record
abbrev pub given_item : List ℕ → Given → Item
given_item bytes (given.Data rcb srcb) = Data rcb.byte srcb bytes
given_item bytes (given.Abort rcb srcb) = Aborted rcb.byte srcb
given_item bytes (given.Long rcb srcb) = Long rcb.byte srcb
given_item bytes (given.Control rcb srcb) = Control (control_byte rcb) srcb
given_item bytes (given.General srcb rest) = General srcb rest.now

abbrev pub first_shown : Result (Option (Given × Bor (List ℕ))) BlockFault → List ℕ → Result (Option First) BlockFault
first_shown (Ok None) bytes = Ok None
first_shown (Ok (Some x)) bytes = Ok (Some (record { item = given_item bytes x.0; rest = x.1.now }))
first_shown (Err e) bytes = Err e

-- the bytes that an item leaves in the record
abbrev pub contents_of : Item → List ℕ
contents_of (Data rcb srcb bytes) = bytes
contents_of (Aborted rcb srcb) = []
contents_of (Long rcb srcb) = []
contents_of (Control rcb srcb) = []
contents_of (General srcb rest) = []

abbrev pub contents_after : Result (Option First) BlockFault → List ℕ
contents_after (Ok None) = []
contents_after (Ok (Some x)) = contents_of x.item
contents_after (Err e) = []

-- the bytes that the first of some items leaves in the record
abbrev pub first_contents : List Item → List ℕ
first_contents [] = []
first_contents (i ∷ is) = contents_of i

-- a general record at the front of some bytes
abbrev pub general_at : List ℕ → Option (ℕ × List ℕ)
general_at [] = None
general_at (rcb ∷ []) = None
general_at (rcb ∷ srcb ∷ rest) = cond (rcb == 0xf0) (Some (srcb, rest)) None

-- ---- what is written

abbrev pub outgoing_item : Out → Item
outgoing_item (out.Data rcb srcb bytes) = Data rcb.byte srcb bytes.now
outgoing_item (out.Abort rcb srcb) = Aborted rcb.byte srcb
outgoing_item (out.Control rcb srcb) = Control (control_byte rcb) srcb
outgoing_item (out.General srcb bytes) = General srcb bytes.now

-- It can be written: a spelling comes after its RCB, and its bytes are few enough.
abbrev pub IsWritable : Out → Type 0
IsWritable (out.Data rcb srcb bytes) = (form_of rcb.byte ≡ form.Spelled) × (length bytes.now ≤ 256)
IsWritable (out.Abort rcb srcb) = form_of rcb.byte ≡ form.Spelled
IsWritable (out.Control rcb srcb) = Unit {0}
IsWritable (out.General srcb bytes) = length bytes.now ≤ 41
