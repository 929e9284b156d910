-- What the records of a block say (IBM SC23-0070): control records, nodal messages, headers and data.
use Rattle.std.specs.Prelude.{ℕ, ◌==◌, Bool, List, [], ◌++◌, length, slice_index, codes, nat_le, nat_lt, cond}
use Rattle.std.specs.Prelude.{is_some, Result, Ok, Err}
use Rattle.hex.specs.Hex.{encode_lower}
use Rattle.njh_record.specs.Bytes.{field}
use Rattle.njh_block.specs.Blocks.{Item, Data, Aborted, Long, Control, General, stream_number}
use Rattle.njh_header.specs.Headers.{JobHeader, job_header, DataSetHeader, data_set_header}
use Rattle.njh_header.specs.SignOns.{SignOn, sign_on}
use Rattle.njh_header.specs.declared.fault.HeaderFault.{HeaderFault}
use Rattle.njh_nmr.specs.Nodal.{Nodal, nodal_of}
use Rattle.njh_nmr.specs.declared.fault.NmrFault.{NmrFault}
use Rattle.njh_decode.specs.Words.{label, byte_words, field_words, number_words, stream_words, user_words}
use Rattle.njh_ebcdic.specs.CodePage.{text_words}
use Rattle.njh_decode.specs.Faults.{header_fault_words, nmr_fault_words}

-- ---- two-byte records and general control records

-- a two-byte record
unfoldable pub control_words : ℕ → ℕ → List ℕ
control_words rcb srcb =
    cond (rcb == 0x90) (label (codes "request ") ++ stream_words srcb)
    (cond (rcb == 0xa0) (label (codes "permission ") ++ stream_words srcb)
    (cond (rcb == 0xb0) (label (codes "refusal ") ++ stream_words srcb)
    (cond (rcb == 0xc0) (label (codes "transmission complete ") ++ stream_words srcb)
    (cond (rcb == 0xd0) (label (codes "ready ") ++ byte_words srcb)
    (label (codes "block sequence error, expected ") ++ byte_words srcb)))))

-- a sign-on's node and block size; its passwords are not told
unfoldable pub node_and_size_words : SignOn → List ℕ
node_and_size_words s =
    label (codes ": node ") ++ field_words s.node ++ label (codes ", block size ") ++ number_words s.block

-- the features of a sign-on from its length byte on, if they are whole
unfoldable pub features_words : List ℕ → List ℕ
features_words rest =
    cond (nat_lt (length rest) 39) [] (label (codes ", features ") ++ encode_lower (field 35 4 rest))

abbrev pub sign_on_or_fault : List ℕ → Result SignOn HeaderFault → List ℕ
sign_on_or_fault rest (Ok s) = node_and_size_words s ++ features_words rest
sign_on_or_fault rest (Err fault) = label (codes ": ") ++ label (header_fault_words fault)

unfoldable pub sign_on_words : List ℕ → List ℕ
sign_on_words rest = sign_on_or_fault rest (sign_on rest)

-- a general control record
unfoldable pub general_words : ℕ → List ℕ → List ℕ
general_words srcb rest =
    cond (srcb == 0xc9) (label (codes "sign-on I") ++ sign_on_words rest)
    (cond (srcb == 0xd1) (label (codes "sign-on J") ++ sign_on_words rest)
    (cond (srcb == 0xd2) (label (codes "sign-on K"))
    (cond (srcb == 0xc2) (label (codes "sign-off")) (label (codes "general control ") ++ byte_words srcb))))

-- ---- nodal messages

-- the ends of a command, whose user is its sender
unfoldable pub command_ends_words : Nodal → List ℕ
command_ends_words n =
    label (codes "command from ") ++ user_words n.origin n.user ++ label (codes " to ") ++ field_words n.to

-- the ends of a message, whose user is its receiver
unfoldable pub message_ends_words : Nodal → List ℕ
message_ends_words n =
    label (codes "message from ") ++ field_words n.origin ++ label (codes " to ") ++ user_words n.to n.user

abbrev pub is_command : List ℕ → Bool
is_command bytes = nat_le 0x80 (slice_index bytes 0)

unfoldable pub ends_words : Bool → Nodal → List ℕ
ends_words command n = cond command (command_ends_words n) (message_ends_words n)

unfoldable pub quoted_words : List ℕ → List ℕ
quoted_words bytes = label (codes " '") ++ text_words bytes ++ label (codes "'")

abbrev pub message_or_fault : List ℕ → Result Nodal NmrFault → List ℕ
message_or_fault bytes (Ok n) = ends_words (is_command bytes) n ++ label (codes ":") ++ quoted_words n.message
message_or_fault bytes (Err fault) = label (codes "no nodal message: ") ++ label (nmr_fault_words fault)

unfoldable pub message_words : List ℕ → List ℕ
message_words bytes = message_or_fault bytes (nodal_of bytes)

-- ---- records of streams

unfoldable pub job_file_words : JobHeader → List ℕ
job_file_words h =
    label (codes " job header: ") ++ field_words h.origin.node ++ label (codes ".") ++ number_words h.number

unfoldable pub job_name_words : JobHeader → List ℕ
job_name_words h = label (codes ", name ") ++ field_words h.name ++ label (codes ", user ") ++ field_words h.user

unfoldable pub job_ends_words : JobHeader → List ℕ
job_ends_words h =
    label (codes ", from ") ++ user_words h.origin.node h.origin.user
    ++ label (codes ", execution ") ++ user_words h.execution.node h.execution.user

abbrev pub job_or_fault : Result JobHeader HeaderFault → List ℕ
job_or_fault (Ok h) = job_file_words h ++ job_name_words h ++ job_ends_words h
job_or_fault (Err fault) = label (codes " no job header: ") ++ label (header_fault_words fault)

unfoldable pub job_words : List ℕ → List ℕ
job_words bytes = job_or_fault (job_header bytes)

abbrev pub data_set_or_fault : Result DataSetHeader HeaderFault → List ℕ
data_set_or_fault (Ok h) =
    label (codes " data set header: destination ") ++ user_words h.destination.node h.destination.user
data_set_or_fault (Err fault) = label (codes " no data set header: ") ++ label (header_fault_words fault)

unfoldable pub data_set_words : List ℕ → List ℕ
data_set_words bytes = data_set_or_fault (data_set_header bytes)

-- bytes under an SRCB
unfoldable pub data_words : ℕ → List ℕ → List ℕ
data_words srcb bytes = label (codes " data ") ++ byte_words srcb ++ quoted_words bytes

-- a record of a stream by its SRCB; one without bytes is the end of its file
unfoldable pub file_record_words : ℕ → List ℕ → List ℕ
file_record_words srcb bytes =
    cond (length bytes == 0) (label (codes " end of file"))
    (cond (srcb == 0xc0) (job_words bytes)
    (cond (srcb == 0xe0) (data_set_words bytes)
    (cond (srcb == 0xd0) (label (codes " job trailer")) (data_words srcb bytes))))

-- whose record it is
unfoldable pub owner_words : ℕ → List ℕ
owner_words rcb = cond (rcb == 0x9a) (label (codes "nodal message")) (stream_words rcb)

-- what it carries: of a stream a part of a file, else data
unfoldable pub contents_words : ℕ → ℕ → List ℕ → List ℕ
contents_words rcb srcb bytes =
    cond (is_some (stream_number rcb)) (file_record_words srcb bytes) (data_words srcb bytes)

-- a record that was spelled whole
unfoldable pub spelled_words : ℕ → ℕ → List ℕ → List ℕ
spelled_words rcb srcb bytes =
    cond (rcb == 0x9a) (message_words bytes)
    (stream_words rcb ++ contents_words rcb srcb bytes)

-- the bytes of a record beside it, if they are asked for and there are any
unfoldable pub hex_words : Bool → List ℕ → List ℕ
hex_words hex bytes = cond (length bytes == 0) [] (cond hex (label (codes " ") ++ encode_lower bytes) [])

unfoldable pub record_words : Bool → Item → List ℕ
record_words hex (Data rcb srcb bytes) = spelled_words rcb srcb bytes ++ hex_words hex bytes
record_words hex (Aborted rcb srcb) = owner_words rcb ++ label (codes " abort")
record_words hex (Long rcb srcb) = owner_words rcb ++ label (codes " C3 TooLong")
record_words hex (Control rcb srcb) = control_words rcb srcb
record_words hex (General srcb rest) = general_words srcb rest
