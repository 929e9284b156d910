-- The grammar of a block (IBM SC23-0070, multileaving): a text is a block control byte, a function control sequence and
-- records, up to its end or to a 00 in the place of an RCB.
use Rattle.std.specs.Prelude.{◌≡◌, ℕ, ◌<◌, ◌≤◌, ◌⊎◌, false, List, [], ◌∷◌, ◌++◌, length, slice_index, IsTrue}
use Rattle.std.specs.List.{flat_map}
use Rattle.njh_record.specs.Spelling.{Spelling}
use Rattle.njh_record.specs.declared.End.{End}
use Rattle.njh_record.specs.declared.End.TheVariants.{Record, Abort}
use Rattle.njh_block.specs.declared.fault.BlockFault.{BlockFault}
use Rattle.njh_block.specs.declared.fault.BlockFault.TheVariants.{TooShort, BadBcb, BadFcs, BadRcb, BadRecord}
use Rattle.njh_block.specs.declared.rcb.ControlRcb.{ControlRcb}
use Rattle.njh_block.specs.declared.rcb.Form.TheVariants as form
use Rattle.njh_block.specs.Blocks.{Item, Data, Aborted, Long, Control, General, Block, control_byte, form_of, is_bcb}
use Rattle.njh_block.specs.Blocks.{is_fcs}

-- an RCB, an SRCB and a spelling
pub record IsSpelled (rcb srcb : ℕ) (contents : List ℕ) (end : End) (bytes : List ℕ) : Type 0 where
  pub form : form_of rcb ≡ form.Spelled
  pub spelling : List ℕ
  pub parts : bytes ≡ rcb ∷ srcb ∷ spelling
  pub spelled : Spelling spelling contents end

-- a 00 and another byte
abbrev pub BeginsZeroAndMore : List ℕ → Type 0
BeginsZeroAndMore [] = ⊥
BeginsZeroAndMore (b ∷ []) = ⊥
BeginsZeroAndMore (b ∷ c ∷ rest) = b ≡ 0

-- an RCB and an SRCB, with a 00 after them that another byte follows
abbrev pub IsTwoBytes : ℕ → ℕ → List ℕ → List ℕ → Type 0
IsTwoBytes rcb srcb bytes after =
    ((bytes ≡ rcb ∷ srcb ∷ []) × ¬ BeginsZeroAndMore after) ⊎ ((bytes ≡ rcb ∷ srcb ∷ 0 ∷ []) × (0 < length after))

-- The bytes are those of the item, if these follow them in the text.
abbrev pub Covers : Item → List ℕ → List ℕ → Type 0
Covers (Data rcb srcb contents) bytes after = IsSpelled rcb srcb contents Record bytes × (length contents ≤ 256)
Covers (Long rcb srcb) bytes after =
    (contents : List ℕ) × IsSpelled rcb srcb contents Record bytes × (256 < length contents)
Covers (Aborted rcb srcb) bytes after = (contents : List ℕ) × IsSpelled rcb srcb contents Abort bytes
Covers (Control rcb srcb) bytes after = (c : ControlRcb) × (rcb ≡ control_byte c) × IsTwoBytes rcb srcb bytes after
Covers (General srcb rest) bytes after = (bytes ≡ 0xf0 ∷ srcb ∷ rest) × (after ≡ [])

-- An item, and the bytes of the text that it covers.
pub record TextRecord : Type 0 where
  pub item : Item
  pub bytes : List ℕ

abbrev pub covered_bytes : List TextRecord → List ℕ
covered_bytes parts = flat_map (λ (p : TextRecord). p.bytes) parts

abbrev pub items_of : List TextRecord → List Item
items_of [] = []
items_of (p ∷ ps) = p.item ∷ items_of ps

-- each part covers its bytes, if those of the later parts and these follow it
abbrev pub EachCovers : List TextRecord → List ℕ → Type 0
EachCovers [] after = Unit {0}
EachCovers (p ∷ ps) after = Covers p.item p.bytes (covered_bytes ps ++ after) × EachCovers ps after

-- A text's block control byte, function control sequence and whole records, and what comes after these.
pub record Front (text : List ℕ) (bcb : ℕ) (fcs : ℕ × ℕ) (parts : List TextRecord) (after : List ℕ) : Type 0 where
  pub good_bcb : IsTrue (is_bcb bcb)
  pub good_fcs : IsTrue (is_fcs fcs)
  pub joined : text ≡ bcb ∷ fcs.0 ∷ fcs.1 ∷ (covered_bytes parts ++ after)
  pub each : EachCovers parts after

-- the end of the text, or a 00 with anything after it
abbrev pub IsEnd : List ℕ → Type 0
IsEnd [] = Unit {0}
IsEnd (b ∷ rest) = b ≡ 0

-- The text is this block.
pub record IsBlock (text : List ℕ) (block : Block) : Type 0 where
  pub parts : List TextRecord
  pub after : List ℕ
  pub front : Front text block.bcb block.fcs parts after
  pub ends : IsEnd after
  pub items : block.items ≡ items_of parts

-- a byte 01 to 7F in the place of an RCB
abbrev pub IsBadRcb : List ℕ → Type 0
IsBadRcb [] = ⊥
IsBadRcb (rcb ∷ rest) = (0 < rcb) × (rcb < 0x80)

-- an RCB that begins no record
abbrev pub IsBadRecord : List ℕ → Type 0
IsBadRecord [] = ⊥
IsBadRecord (rcb ∷ rest) =
    (0x80 ≤ rcb) × ((item : Item) (bytes after : List ℕ) → rcb ∷ rest ≡ bytes ++ after → ¬ Covers item bytes after)

-- after a good front comes something bad
pub record StopsAt (IsBad : List ℕ → Type 0) (text : List ℕ) : Type 0 where
  pub bcb : ℕ
  pub fcs : ℕ × ℕ
  pub parts : List TextRecord
  pub after : List ℕ
  pub front : Front text bcb fcs parts after
  pub bad : IsBad after

-- Why the text is no block: what comes first from the left.
abbrev pub IsFault : List ℕ → BlockFault → Type 0
IsFault text TooShort = length text < 3
IsFault text BadBcb = (2 < length text) × (is_bcb (slice_index text 0) ≡ false)
IsFault text BadFcs =
    (2 < length text) × IsTrue (is_bcb (slice_index text 0)) × (is_fcs (slice_index text 1, slice_index text 2) ≡ false)
IsFault text BadRcb = StopsAt IsBadRcb text
IsFault text BadRecord = StopsAt IsBadRecord text
