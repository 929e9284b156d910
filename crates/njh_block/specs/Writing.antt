-- A block that is being written (IBM SC23-0070, multileaving).
use Rattle.std.specs.Prelude.{◌≡◌, ℕ, ◌≤◌, Bool, true, false, List, [], ◌∷◌, ◌++◌, ◌-◌, length, take, drop, slice_index}
use Rattle.std.specs.Prelude.{not, ◌&&◌, nat_le, IsTrue}
use Rattle.std.specs.List.{list_any}
use Rattle.std.specs.Result.{result_unwrap_or}
use Rattle.njh_block.specs.declared.rcb.ControlRcb.{ControlRcb}
use Rattle.njh_block.specs.declared.rcb.Form.TheVariants as form
use Rattle.njh_block.specs.Blocks.{Item, Data, Aborted, Long, Control, General, control_byte, form_of, is_bcb, is_fcs}
use Rattle.njh_block.specs.Blocks.{items_in, text_of}

-- What the text may hold at most, its first bytes, and the items so far.
pub record Writing : Type 0 where
  pub limit : ℕ
  pub bcb : ℕ
  pub fcs : ℕ × ℕ
  pub items : List Item

-- An item as it is written: its RCB is of its form, and its bytes are few enough.
abbrev pub IsWritten : Item → Type 0
IsWritten (Data rcb srcb bytes) = (form_of rcb ≡ form.Spelled) × (length bytes ≤ 256)
IsWritten (Aborted rcb srcb) = form_of rcb ≡ form.Spelled
IsWritten (Long rcb srcb) = ⊥
IsWritten (Control rcb srcb) = (c : ControlRcb) × (rcb ≡ control_byte c)
IsWritten (General srcb rest) = length rest ≤ 41

abbrev pub is_general : Item → Bool
is_general (Data rcb srcb bytes) = false
is_general (Aborted rcb srcb) = false
is_general (Long rcb srcb) = false
is_general (Control rcb srcb) = false
is_general (General srcb rest) = true

-- Items as they are written one after the other: nothing comes after a general one.
abbrev pub AreWritten : List Item → Type 0
AreWritten [] = Unit {0}
AreWritten (i ∷ is) = IsWritten i × (is_general i ≡ true → is ≡ []) × AreWritten is

-- whether one more item has room: nothing does after a general one
abbrev pub has_room : Writing → Item → Bool
has_room w i = not (list_any is_general w.items) && nat_le (length (text_of w.bcb w.fcs (w.items ++ i ∷ []))) w.limit

-- the block with one more item
abbrev pub with_last : Item → Writing → Writing
with_last i w = record w { items = w.items ++ i ∷ [] }

-- the items as they are read back: a general one takes the closing 00 too
abbrev pub read_back : List Item → List Item
read_back [] = []
read_back (Data rcb srcb bytes ∷ is) = Data rcb srcb bytes ∷ read_back is
read_back (Aborted rcb srcb ∷ is) = Aborted rcb srcb ∷ read_back is
read_back (Long rcb srcb ∷ is) = Long rcb srcb ∷ read_back is
read_back (Control rcb srcb ∷ is) = Control rcb srcb ∷ read_back is
read_back (General srcb rest ∷ is) = General srcb (rest ++ 0 ∷ []) ∷ read_back is

-- ---- the text so far

-- the text without the closing 00
abbrev pub without_end : List ℕ → List ℕ
without_end text = take (length text - 1) text

-- The items so far are those that the text without its end is read as.
abbrev pub items_so_far : List ℕ → List Item
items_so_far text = result_unwrap_or (items_in (drop 3 (without_end text))) []

abbrev pub writing_of : ℕ → List ℕ → Writing
writing_of limit text =
    record {
      limit = limit;
      bcb = slice_index text 0;
      fcs = (slice_index text 1, slice_index text 2);
      items = items_so_far text;
    }

-- The text is that of the block, and it is told whether a general record ended it.
pub record IsWriting (w : Writing) (text : List ℕ) (ended : Bool) : Type 0 where
  pub low : 300 ≤ w.limit
  pub high : w.limit ≤ 4096
  pub good_bcb : IsTrue (is_bcb w.bcb)
  pub good_fcs : IsTrue (is_fcs w.fcs)
  pub bytes : text ≡ text_of w.bcb w.fcs w.items
  pub each : AreWritten w.items
  pub general : ended ≡ list_any is_general w.items
  pub within : length text ≤ w.limit
