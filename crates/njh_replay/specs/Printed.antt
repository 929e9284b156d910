-- What is printed.
use Rattle.std.specs.Prelude.{◌≡◌, ℕ, ◌+◌, List, [], ◌∷◌, ◌++◌, Option, slice_index_or, unwrap_or}
use Rattle.std.specs.List.{flat_map}
use Rattle.std.specs.Io.KnownBytes.{Appends}
use Rattle.hex.specs.Hex.{encode_lower}
use Rattle.njh_table.specs.declared.LineId.{LineId}
use Rattle.njh_io.specs.Written.{AppendsBeginning}
use Rattle.njh_ebcdic.specs.Characters.{shown_text}
use Rattle.njh_ebcdic.specs.Names.{without_end_blanks}
use Rattle.njh_hub.specs.Files.{FileView, files_at, printed_file_line}
use Rattle.njh_hub.specs.Views.{summary_line}
use Rattle.njh_hub.specs.declared.file_summary.FileSummaryView.{FileSummaryView}
use Rattle.njh_hub.specs.WholeHub.{Part, part, hub_event}
use Rattle.njh_hub.specs.declared.event.Event.{Event}
use Rattle.njh_hub.specs.declared.event.Event.TheVariants.{Bytes, Tick, Garbled, Lost, Routes, Order}
use Rattle.njh_customer.specs.Orders.{replies_to}
use Rattle.njh_replay.specs.LineNames.{name_at}

-- a frame: the name of its line, a blank, its bytes in lower-case hex, and the end of the line
abbrev pub frame_text : List ℕ → List ℕ → List ℕ
frame_text name frame = name ++ 32 ∷ [] ++ encode_lower frame ++ 10 ∷ []

-- a frame with its line, by the names of the lines
abbrev pub pair_text : List (List (List ℕ)) → LineId × List ℕ → List ℕ
pair_text names pair = frame_text (unwrap_or (name_at names pair.0) []) pair.1

-- frames in their order, each with its line
abbrev pub frames_text : List (List (List ℕ)) → List (LineId × List ℕ) → List ℕ
frames_text names [] = []
frames_text names (pair ∷ pairs) = pair_text names pair ++ frames_text names pairs

-- a line that isn't a frame's: the name of a customer, a blank, what it is told, and the end of the line
unfoldable pub told_line : List ℕ → List ℕ → List ℕ
told_line name told = shown_text (without_end_blanks name) ++ 32 ∷ [] ++ shown_text told ++ 10 ∷ []

-- replies to an order of the customer of this name, each with its number
abbrev pub replies_text : List ℕ → List (List ℕ) → List ℕ
replies_text name replies = flat_map (told_line name) replies

-- what is answered where an event is an order, by the names of the customers; all other events are answered by frames
abbrev pub answers_text : List (List ℕ) → List Part → Event → List ℕ
answers_text customers parts (Bytes id piece) = []
answers_text customers parts (Tick id) = []
answers_text customers parts (Garbled id) = []
answers_text customers parts (Lost id) = []
answers_text customers parts (Routes c routes) = []
answers_text customers parts (Order c order) =
    replies_text (slice_index_or customers c []) (replies_to order (part c parts).customer)

-- what a hub sends and answers by events, in their order, by the names of the lines and of the customers
abbrev pub run_text : List (List (List ℕ)) → List (List ℕ) → List Part → List Event → List ℕ
run_text names customers parts [] = []
run_text names customers parts (event ∷ events) =
    let x = hub_event parts event in
    frames_text names x.sent ++ (answers_text customers parts event ++ run_text names customers x.parts events)

-- a file of the customer of this name: what NJH001 says of it after its number
unfoldable pub file_text : List ℕ → FileView → List ℕ
file_text name file = told_line name (printed_file_line file)

-- the same of a file as it is shown without its records
unfoldable pub summary_text : List ℕ → FileSummaryView → List ℕ
summary_text name file = told_line name (summary_line file)

-- files of one customer
abbrev pub files_text : List ℕ → List FileView → List ℕ
files_text name files = flat_map (file_text name) files

-- the files of customers of these names, of which the first is the hub's customer of a number
abbrev pub files_from : ℕ → List (List ℕ) → List Part → List ℕ
files_from c [] parts = []
files_from c (name ∷ names) parts = files_text name (files_at c parts) ++ files_from (c + 1) names parts

-- The text of these frames came after what had been written; the names of the lines stayed.
abbrev pub IsPrinted : (names later : List (List (List ℕ))) (old new : Option (List ℕ)) (pairs : List (LineId × List ℕ))
    → Type 0
IsPrinted names later old new pairs = (later ≡ names) × Appends old new (frames_text names pairs)

-- The same of a frame that may be printed in part.
abbrev pub IsPrintedInPart : (names later : List (List (List ℕ))) (old new : Option (List ℕ)) (pair : LineId × List ℕ)
    → Type 0
IsPrintedInPart names later old new pair = (later ≡ names) × AppendsBeginning old new (pair_text names pair)
