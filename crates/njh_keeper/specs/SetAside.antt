-- A whole file that can't be put back is set aside: it stays in the spool file under its number and its key, with a
-- mark, and each start tries it again.
use Rattle.std.specs.Prelude.{◌≡◌, ℕ, ◌==◌, Bool, true, false, List, [], ◌∷◌, drop, map, if◌then◌else◌}
use Rattle.std.specs.Prelude.{Option, Some, None, is_some, option_map, slice_get}
use Rattle.std.specs.List.{cons_option}
use Rattle.njh_hub.specs.Parts.{entries_of}
use Rattle.njh_hub.specs.WholeHub.{Part, part_at_open}
use Rattle.njh_spoolfile.specs.Kept.{File, SpoolContents, Whole, kept}
use Rattle.njh_table.specs.TableFile.{TableFile}
use Rattle.njh_keeper.specs.Opened.{hub_fault, hub_with, number_of, whole_fault, with_whole}
use Rattle.njh_keeper.specs.Refusal.{Refusal}

-- ---- the mark

-- The mark is a "!" (33) before the customer's name; no name has one.
abbrev pub is_aside : List ℕ → Bool
is_aside [] = false
is_aside (c ∷ text) = c == 33

-- a customer's text without the mark, and with it
abbrev pub taken_up : List ℕ → List ℕ
taken_up text = if is_aside text then drop 1 text else text

abbrev pub set_aside : List ℕ → List ℕ
set_aside text = 33 ∷ taken_up text

-- a file's row with it, and without it
abbrev pub file_aside : File → File
file_aside file = record file { customer = set_aside file.customer }

abbrev pub file_taken_up : File → File
file_taken_up file = record file { customer = taken_up file.customer }

abbrev pub whole_taken_up : Whole → Whole
whole_taken_up w = record w { file = file_taken_up w.file }

-- a spool without any mark
abbrev pub all_taken_up : SpoolContents → SpoolContents
all_taken_up spool = record spool { files = map (λ e. (e.0, file_taken_up e.1)) spool.files }

-- ---- one after the other is tried

-- A row as it is written: without the mark if its file is put back, with it if that fails, and as it was if it is no
-- customer's of the tables.
abbrev pub row_tried : (is_theirs fails : Bool) → File → File
row_tried false fails file = file
row_tried true false file = file_taken_up file
row_tried true true file = file_aside file

-- a whole file after it was tried, mark or no mark, with customers of these names and parts
abbrev pub tried : List (List ℕ) → List Part → Whole → Whole
tried names parts w = record w {
  file = row_tried (is_some (number_of names (taken_up w.file.customer)))
      (is_some (hub_fault names parts (whole_taken_up w))) w.file;
}

-- what is told of it if it isn't put back
abbrev pub refusal : List (List ℕ) → List Part → Whole → Option Refusal
refusal names parts w = option_map
    (λ fault. record { id = w.id; file = file_taken_up w.file; fault = fault })
    (hub_fault names parts (whole_taken_up w))

-- of some whole files each, after those before it
abbrev pub all_tried : List (List ℕ) → List Part → List Whole → List Whole
all_tried names parts [] = []
all_tried names parts (w ∷ ws) =
    let now = tried names parts w in
    now ∷ all_tried names (hub_with names parts now) ws

abbrev pub refusals : List (List ℕ) → List Part → List Whole → List Refusal
refusals names parts [] = []
refusals names parts (w ∷ ws) =
    cons_option (refusal names parts w) (refusals names (hub_with names parts (tried names parts w)) ws)

-- ---- a spool is tried

abbrev pub row_of : Whole → ℕ × File
row_of w = (w.id, w.file)

abbrev pub spool_with : List Whole → SpoolContents → SpoolContents
spool_with ws spool = record spool { files = map row_of ws }

abbrev pub names_in : TableFile → List (List ℕ)
names_in table = map (λ c. c.name) table.customers

abbrev pub fresh_hub : TableFile → List Part
fresh_hub table = map part_at_open (entries_of table)

-- a spool after a start with these tables, in which nothing else changed
abbrev pub spool_tried : TableFile → SpoolContents → SpoolContents
spool_tried table spool = spool_with (all_tried (names_in table) (fresh_hub table) (kept spool)) spool

-- the files that it sets aside, in order, each with its fault
abbrev pub all_refused : TableFile → SpoolContents → List Refusal
all_refused table spool = refusals (names_in table) (fresh_hub table) (kept spool)

-- this is the first of them, and no other is known
abbrev pub IsFirstRefused : TableFile → SpoolContents → List Refusal → Type 0
IsFirstRefused table spool known =
    (first : Refusal) × (known ≡ first ∷ []) × (slice_get (all_refused table spool) 0 ≡ Some first)

-- ---- a customer alone

-- of a customer's files those that can be put back one after the other
abbrev pub put_back : Part → List Whole → List Whole
put_back p [] = []
put_back p (w ∷ ws) = elim (whole_fault p w) [ None ↦ w ∷ put_back (with_whole p w) ws | Some fault ↦ put_back p ws ]
