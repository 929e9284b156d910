-- The lines of a frame (IBM GA27-3004), or of the block that a text is (IBM SC23-0070, multileaving): one for its head,
-- one for each record, and one for bytes after its end.
use Rattle.std.specs.Prelude.{ℕ, zero, suc, ◌-◌, ◌==◌, Bool, List, [], ◌∷◌, ◌++◌, length, drop, codes, cond, flat_map}
use Rattle.std.specs.Prelude.{Option, Some, None, Result, Ok, Err}
use Rattle.njh_bisync.specs.Frames.{Received, Enquiry, Ack0, Nak, Eot, Text, Spoiled}
use Rattle.njh_block.specs.Blocks.{Item, Block, First, read_block, first_record}
use Rattle.njh_block.specs.declared.fault.BlockFault.{BlockFault}
use Rattle.njh_block.specs.declared.fault.BlockFault.TheVariants as block
use Rattle.njh_decode.specs.Words.{label, number_words}
use Rattle.njh_decode.specs.Faults.{block_fault_words}
use Rattle.njh_decode.specs.Heads.{head_words}
use Rattle.njh_decode.specs.Records.{record_words}

-- a record: two blanks, what it says, and the end of the line
unfoldable pub record_line : Bool → Item → List ℕ
record_line hex item = label (codes "  ") ++ record_words hex item ++ 10 ∷ []

abbrev pub record_lines : Bool → List Item → List ℕ
record_lines hex items = flat_map (record_line hex) items

-- what follows a record that is there
abbrev pub behind_record : Result (Option First) BlockFault → Option (List ℕ)
behind_record (Ok (Some x)) = Some x.rest
behind_record (Ok None) = None
behind_record (Err fault) = None

-- what is left after the records that come one after the other, of at most so many
abbrev pub left_within : ℕ → List ℕ → List ℕ
left_within zero bytes = bytes
left_within (suc k) bytes =
    elim (behind_record (first_record bytes)) [ None ↦ bytes | Some rest ↦ left_within k rest ]

-- the place after the last record that is whole: that of the 00 that ends the block, that of an RCB that begins no
-- record, or the text's end
unfoldable pub records_end : List ℕ → ℕ
records_end text = length text - length (left_within (length text) (drop 3 text))

-- how many bytes come after the 00 that ends the block
unfoldable pub unread_count : List ℕ → ℕ
unread_count text = length text - records_end text - 1

-- where in a text its fault is: the text's end, the BCB, the FCS, or the RCB that is bad or has no record after it
unfoldable pub fault_place : List ℕ → BlockFault → ℕ
fault_place text block.TooShort = length text
fault_place text block.BadBcb = 0
fault_place text block.BadFcs = 1
fault_place text block.BadRcb = records_end text
fault_place text block.BadRecord = records_end text

-- a block: its head, and each record in order, none left out
unfoldable pub block_lines : Bool → Block → List ℕ
block_lines hex b = head_words b.bcb b.fcs ++ 10 ∷ [] ++ record_lines hex b.items

unfoldable pub unread_words : ℕ → List ℕ
unread_words n = label (codes "  unread bytes: ") ++ number_words n

-- bytes after the end of a block, if there are any
unfoldable pub unread_line : ℕ → List ℕ
unread_line n = cond (n == 0) [] (unread_words n ++ 10 ∷ [])

-- a text that is no block
unfoldable pub fault_line : List ℕ → BlockFault → List ℕ
fault_line text fault =
    label (codes "no block: ") ++ label (block_fault_words fault) ++ label (codes " at ")
    ++ number_words (fault_place text fault) ++ 10 ∷ []

abbrev pub block_or_fault : Bool → List ℕ → Result Block BlockFault → List ℕ
block_or_fault hex text (Ok b) = block_lines hex b ++ unread_line (unread_count text)
block_or_fault hex text (Err fault) = fault_line text fault

unfoldable pub text_lines : Bool → List ℕ → List ℕ
text_lines hex text = block_or_fault hex text (read_block text)

-- what a frame says
unfoldable pub frame_lines : Bool → Received → List ℕ
frame_lines hex Enquiry = label (codes "ENQ") ++ 10 ∷ []
frame_lines hex Ack0 = label (codes "ACK0") ++ 10 ∷ []
frame_lines hex Nak = label (codes "NAK") ++ 10 ∷ []
frame_lines hex Eot = label (codes "EOT") ++ 10 ∷ []
frame_lines hex (Text text) = text_lines hex text
frame_lines hex Spoiled = label (codes "spoiled") ++ 10 ∷ []

-- what frames say, one after the other
abbrev pub lines_of : Bool → List Received → List ℕ
lines_of hex frames = flat_map (frame_lines hex) frames
