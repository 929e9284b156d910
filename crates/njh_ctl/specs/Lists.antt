-- Lists that come in parts, and what is told of a part.
use Rattle.std.specs.Prelude.{◌≡◌, ◌≤◌, ◌++◌, Bool, true, false, List, [], ◌∷◌, bytes_eq, codes, Option, Some, is_some}
use Rattle.std.specs.Option.{option_map}
use Rattle.serde_json.specs.Data.{Data, array, boolean, depth, null, number, object, put, string}
use Rattle.serde_json.specs.Read.{max_depth, read}
use Rattle.serde_json.specs.View.{items_of}
use Rattle.njh_ctl.specs.Answers.{list_in, string_in}
use Rattle.njh_ctl.specs.Chosen.{FileView, IsFile, Wanted, has_choice, is_as_wanted, is_chosen, wanted_by}
use Rattle.njh_ctl.specs.Questions.{Text}
use Rattle.njh_ctl.specs.Shown.{IsCustomerRow, IsFileRow, Rows}
use Rattle.njh_ctl.specs.ShownLines.{IsLineRow}
use Rattle.njh_ctl.specs.ShownMessages.{AreLineMessages}
use Rattle.njh_ctl.specs.Told.{Told, with_came, with_told}
use Rattle.njh_ctl.specs.declared.parted_list.PartedList.{PartedList}
use Rattle.njh_ctl.specs.declared.parted_list.PartedList.TheVariants as parted

-- the customers; a customer's lines, or that of a name; the messages of a customer's line of a name; a customer's files
-- that are chosen
pub data ListView : Type 0 where
  Customers : ListView
  Lines : Text → Option Text → ListView
  Messages : Text → Text → ListView
  Files : Text → Wanted → ListView

abbrev pub list_view : PartedList → ListView
list_view parted.Customers = Customers
list_view (parted.Lines customer line) = Lines customer.now (option_map (λ line. line.now) line)
list_view (parted.Messages customer line) = Messages customer.now line.now
list_view (parted.Files customer filter) = Files customer.now (wanted_by filter)

-- the member of an answer that has the items
abbrev pub key_of : ListView → Text
key_of Customers = codes "customers"
key_of (Lines customer line) = codes "lines"
key_of (Messages customer line) = codes "lines"
key_of (Files customer wanted) = codes "files"

-- ---- which items are looked for

abbrev pub is_filtered : ListView → Bool
is_filtered Customers = false
is_filtered (Lines customer line) = is_some line
is_filtered (Messages customer line) = true
is_filtered (Files customer wanted) = has_choice wanted.choice

abbrev pub IsLooked : ListView → Data → Bool → Type 0
IsLooked Customers d is = is ≡ true
IsLooked (Lines customer line) d is =
    (name : Text) × (string_in (codes "name") d ≡ Some name) × (is ≡ is_as_wanted name line)
IsLooked (Messages customer line) d is =
    (name : Text) × (string_in (codes "name") d ≡ Some name) × (is ≡ bytes_eq name line)
IsLooked (Files customer wanted) d is = (f : FileView) × IsFile d f × (is ≡ is_chosen wanted f)

abbrev pub kept_one : Bool → Data → List Data
kept_one true d = d ∷ []
kept_one false d = []

-- an item is put behind those that are kept so far, if it is looked for
pub record KeepsOne (list : ListView) (d : Data) (before after : List Data) : Type 0 where
  pub is : Bool
  pub looked : IsLooked list d is
  pub all : after ≡ before ++ kept_one is d

-- of these items those are kept that are looked for, in their order
pub data Keeps (list : ListView) : List Data → List Data → Type 0 where
  keeps_none : Keeps list [] []
  keeps_one_more : (ds kept : List Data) (d : Data) (is : Bool) → Keeps list ds kept → IsLooked list d is
      → Keeps list (ds ++ (d ∷ [])) (kept ++ kept_one is d)

-- ---- what is told of them

abbrev pub RowOf : ListView → Data → Text → Type 0
RowOf Customers = IsCustomerRow
RowOf (Lines customer line) = IsLineRow customer
RowOf (Messages customer line) = AreLineMessages customer
RowOf (Files customer wanted) = IsFileRow customer

-- an answer with these items in the place of its own
abbrev pub with_items : Text → List Data → Data → Data
with_items key items null = null
with_items key items (boolean b) = boolean b
with_items key items (number n) = number n
with_items key items (string s) = string s
with_items key items (array ds) = array ds
with_items key items (object ms) = object (put key (array (items_of items)) ms)

-- this answer's text, unless it is too deep for a reader
abbrev pub IsTextOf : Data → Text → Type 0
IsTextOf d text = depth d ≤ max_depth → read text ≡ Some d

-- nothing if none is kept
abbrev pub KeptCame : Text → List Data → Data → Told → Told → Type 0
KeptCame key [] d old new = new ≡ old
KeptCame key (k ∷ kept) d old new =
    (text : Text) × IsTextOf (with_items key (k ∷ kept) d) text × (new ≡ with_came text old)

abbrev pub CameWhere : (filtered : Bool) → Text → Text → List Data → Data → Told → Told → Type 0
CameWhere true key body kept d old new = KeptCame key kept d old new
CameWhere false key body kept d old new = new ≡ with_came body old

abbrev pub KeptWhere : (json : Bool) → ListView → Text → List Data → Data → Told → Told → Type 0
KeptWhere true list body kept d old new = CameWhere (is_filtered list) (key_of list) body kept d old new
KeptWhere false list body kept d old new = (text : Text) × Rows (RowOf list) kept text × (new ≡ with_told text old)

-- a part is told: its rows for people; as it came, or if only some is looked for with these items alone
pub record PartTold (list : ListView) (body : Text) (d : Data) (old new : Told) : Type 0 where
  pub items : List Data
  pub kept : List Data
  pub found : list_in (key_of list) d ≡ Some (items_of items)
  pub keeps : Keeps list items kept
  pub told : KeptWhere old.json list body kept d old new
