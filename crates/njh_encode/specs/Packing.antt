-- The blocks that carry a file's records.
use Rattle.std.specs.Prelude.{◌≡◌, ℕ, ◌+◌, ◌%◌, ◌≤◌, ◌==◌, true, false, List, [], ◌∷◌, ◌++◌, length, map, flat_map}
use Rattle.std.specs.Prelude.{Result, Ok, Err, cond, max, min, replicate}
use Rattle.std.specs.Str.{is_utf8}
use Rattle.njh_record.specs.Bytes.{two_bytes}
use Rattle.njh_block.specs.declared.rcb.Form.TheVariants as form
use Rattle.njh_block.specs.Blocks.{Block, Item, Data, Aborted, Long, Control, General, form_of, read_block, text_of}
use Rattle.njh_block.specs.Writing.{Writing, has_room}
use Rattle.njh_encode.specs.declared.fault.Reason.{Reason}
use Rattle.njh_encode.specs.declared.fault.Reason.TheVariants.{NoText}
use Rattle.njh_encode.specs.declared.line_states.LineState.{LineState}
use Rattle.njh_encode.specs.declared.posting.Posting.{Posting}
use Rattle.njh_encode.specs.Encoded.{ReadsFrame, bytes_line, bytes_of_frame, frame_of_block, next_block}
use Rattle.njh_encode.specs.Characters.{bytes_of_text}
use Rattle.njh_encode.specs.LineStates.{counted}

-- ---- a file's records

-- a prefix, and a general section with the number, the job's name, the user who gave it, origin and execution
abbrev pub job_record : Posting → List ℕ
job_record p =
    (0 ∷ 100 ∷ 0 ∷ 0 ∷ 0 ∷ 96 ∷ 0 ∷ 0 ∷ []) ++ two_bytes p.number ++ replicate 18 0 ++ p.owner ++ p.owner
    ++ replicate 24 0 ++ p.origin ++ p.owner ++ p.destination ++ p.receiver

-- a prefix, and a general section with the destination
abbrev pub data_set_record : Posting → List ℕ
data_set_record p = (0 ∷ 24 ∷ 0 ∷ 0 ∷ 0 ∷ 20 ∷ 0 ∷ 0 ∷ []) ++ p.destination ++ p.receiver

abbrev pub trailer_record : List ℕ
trailer_record = 0 ∷ 4 ∷ 0 ∷ 0 ∷ []

-- the record of a line of text, which has to be in UTF-8: an empty line is a blank, since a record without bytes ends
-- the file
unfoldable pub record_of_line : List ℕ → Result (List ℕ) Reason
record_of_line line =
    cond (length line == 0) (Ok (0x40 ∷ [])) (cond (is_utf8 line) (bytes_of_text 256 line) (Err NoText))

abbrev pub onto_records : List ℕ → Result (List (List ℕ)) Reason → Result (List (List ℕ)) Reason
onto_records r (Ok records) = Ok (r ∷ records)
onto_records r (Err reason) = Err reason

abbrev pub then_records : Result (List ℕ) Reason → Result (List (List ℕ)) Reason → Result (List (List ℕ)) Reason
then_records (Ok r) records = onto_records r records
then_records (Err reason) records = Err reason

-- the records of lines of text, or why the first bad one has none
abbrev pub records_of : List (List ℕ) → Result (List (List ℕ)) Reason
records_of [] = Ok []
records_of (line ∷ lines) = then_records (record_of_line line) (records_of lines)

-- a record on the stream SYSOUT 1
abbrev pub sysout : ℕ → List ℕ → Item
sysout srcb bytes = Data 0x99 srcb bytes

-- what a file is on its stream: job header, data set header, lines, trailer, and the end of file
abbrev pub file_items : Posting → List (List ℕ) → List Item
file_items p lines =
    sysout 0xc0 (job_record p) ∷ sysout 0xe0 (data_set_record p) ∷ map (sysout 0x80) lines
    ++ sysout 0xd0 trailer_record ∷ sysout 0x80 [] ∷ []

-- ---- blocks

-- how many bytes a text has at most: as many as the line signed on with, from 300 to 4,096; 1,024 if it didn't
unfoldable pub text_limit : ℕ → ℕ
text_limit size = cond (size == 0) 1024 (min (max size 300) 4096)

-- a block of the line's next count, with these records
abbrev pub block_of : LineState → List Item → Block
block_of state items = record { bcb = 0x80 + state.count % 16; fcs = (0x8f, 0xcf); items = items }

abbrev pub writing_on : LineState → List Item → Writing
writing_on state items = record {
  limit = text_limit state.size;
  bcb = 0x80 + state.count % 16;
  fcs = (0x8f, 0xcf);
  items = items;
}

-- records as blocks, if these are in the first one already: each goes into the block before it, as long as that has
-- room
abbrev pub packed : LineState → List Item → List Item → List Block
packed state begun [] = block_of state begun ∷ []
packed state begun (item ∷ items) =
    elim (has_room (writing_on state begun) item) [
      | true ↦ packed state (begun ++ item ∷ []) items
      | false ↦ block_of state begun ∷ packed (counted state) (item ∷ []) items
    ]

-- what is kept of the line after blocks
abbrev pub counted_by : List Block → LineState → LineState
counted_by [] state = state
counted_by (b ∷ blocks) state = counted_by blocks (counted state)

-- the lines of a script with blocks
abbrev pub blocks_script : List ℕ → List Block → List ℕ
blocks_script name blocks = flat_map (λ b. bytes_line name (bytes_of_frame (frame_of_block b))) blocks

-- a file as its peer sends it: a block with the request, and those with its records
abbrev pub file_blocks : LineState → Posting → List (List ℕ) → List Block
file_blocks state p lines =
    next_block state (Control 0x90 0x99) ∷ packed (counted state) [] (file_items p lines)

-- the records of blocks, one after the other
abbrev pub items_of_blocks : List Block → List Item
items_of_blocks blocks = flat_map (λ b. b.items) blocks

-- a record with its bytes, as it is written
abbrev pub IsData : Item → Type 0
IsData (Data rcb srcb bytes) = (form_of rcb ≡ form.Spelled) × (length bytes ≤ 256)
IsData (Aborted rcb srcb) = ⊥
IsData (Long rcb srcb) = ⊥
IsData (Control rcb srcb) = ⊥
IsData (General srcb rest) = ⊥

-- a block's text is that block
abbrev pub ReadsItself : Block → Type 0
ReadsItself b = read_block (text_of b.bcb b.fcs b.items) ≡ Ok b

-- The bytes of a block's frame are that frame and no other.
abbrev pub ReadsAsFrame : Block → Type 0
ReadsAsFrame b = ReadsFrame (frame_of_block b)
