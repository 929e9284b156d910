-- What the hub says in EBCDIC, a definition a text, in the order of their numbers:
--   replies to a command: 001 a file, 002 how many, 003 held, 004 released, 005 cancelled, 006 rerouted, 010 no such
--   file, 011 no command, 012 being sent;
--   to the owner of a file, or in reply: 020 a node that nobody has, 021 a full quota, 022 the hub itself, 023 back by
--   the line that it came on.
use Rattle.std.specs.Prelude.{ℕ, List, [], ◌∷◌, ◌++◌, length, Option, Some, None, codes}
use Rattle.njh_ebcdic.specs.Users.{User}
use Rattle.njh_header.specs.FileNames.{FileName}
use Rattle.njh_ebcdic.specs.Names.{digits, ebcdic, without_end_blanks}
use Rattle.njh_record.specs.declared.Kind.{Kind}
use Rattle.njh_record.specs.declared.Kind.TheVariants.{In, Out}
use Rattle.njh_spool.specs.declared.State.{State}
use Rattle.njh_spool.specs.declared.State.TheVariants.{Ready, Held, Refused, Sending}
use Rattle.njh_spool.specs.CustomerSpool.{WholeFile}
use Rattle.njh_header.specs.FileHeaders.{name_of, destination_of}

-- ---- what they are made of

-- node, full stop, number
abbrev pub file_name : FileName → List ℕ
file_name name = without_end_blanks name.node ++ 0x4b ∷ digits name.number

abbrev pub name_text : Option FileName → List ℕ
name_text None = []
name_text (Some name) = file_name name

-- a blank user is left out with its blank
abbrev pub user_text : List ℕ → List ℕ
user_text [] = []
user_text (b ∷ bytes) = 0x40 ∷ b ∷ bytes

-- METZ PAUL
abbrev pub destination_text : Option User → List ℕ
destination_text None = []
destination_text (Some place) = without_end_blanks place.node ++ user_text (without_end_blanks place.user)

abbrev pub kind_text : Kind → List ℕ
kind_text In = ebcdic (codes "IN")
kind_text Out = ebcdic (codes "OUT")

abbrev pub state_text : State → List ℕ
state_text Ready = ebcdic (codes "READY")
state_text Held = ebcdic (codes "HELD")
state_text Refused = ebcdic (codes "REFUSED")
state_text Sending = ebcdic (codes "SENDING")

-- ---- the replies to a command

-- what is said of a file: LYON.42 TO METZ PAUL OUT 4 RECORDS READY
unfoldable pub file_text : Option FileName → Option User → Kind → ℕ → State → List ℕ
file_text name destination kind records state =
    name_text name
    ++ ebcdic (codes " TO ") ++ destination_text destination
    ++ ebcdic (codes " ") ++ kind_text kind
    ++ ebcdic (codes " ") ++ digits records
    ++ ebcdic (codes " RECORDS ") ++ state_text state

-- NJH001 LYON.42 TO METZ PAUL OUT 4 RECORDS READY
abbrev pub listing_line : Option FileName → Option User → Kind → ℕ → State → List ℕ
listing_line name destination kind records state =
    ebcdic (codes "NJH001 ") ++ file_text name destination kind records state

abbrev pub file_line : WholeFile → List ℕ
file_line f = listing_line (name_of f.records) (destination_of f.kind f.records) f.kind (length f.records) f.state

-- NJH002 2 FILES
abbrev pub files_line : ℕ → List ℕ
files_line n = ebcdic (codes "NJH002 ") ++ digits n ++ ebcdic (codes " FILES")

-- NJH003 LYON.42 HELD 1
abbrev pub held_text : FileName → ℕ → List ℕ
held_text name n = ebcdic (codes "NJH003 ") ++ file_name name ++ ebcdic (codes " HELD ") ++ digits n

-- NJH004 LYON.42 RELEASED 1
abbrev pub released_text : FileName → ℕ → List ℕ
released_text name n = ebcdic (codes "NJH004 ") ++ file_name name ++ ebcdic (codes " RELEASED ") ++ digits n

-- NJH005 LYON.42 CANCELLED 1
abbrev pub cancelled_text : FileName → ℕ → List ℕ
cancelled_text name n = ebcdic (codes "NJH005 ") ++ file_name name ++ ebcdic (codes " CANCELLED ") ++ digits n

-- NJH006 LYON.42 REROUTED TO METZ 1
abbrev pub rerouted_to : FileName → List ℕ → ℕ → List ℕ
rerouted_to name node n =
    ebcdic (codes "NJH006 ") ++ file_name name ++ ebcdic (codes " REROUTED TO ") ++ without_end_blanks node
    ++ ebcdic (codes " ") ++ digits n

-- NJH010 LYON.42 NOT FOUND
abbrev pub not_found : FileName → List ℕ
not_found name = ebcdic (codes "NJH010 ") ++ file_name name ++ ebcdic (codes " NOT FOUND")

-- NJH011 BAD COMMAND
abbrev pub bad_command : List ℕ
bad_command = ebcdic (codes "NJH011 BAD COMMAND")

-- NJH012 LYON.42 IS BEING SENT
abbrev pub being_sent_text : FileName → List ℕ
being_sent_text name = ebcdic (codes "NJH012 ") ++ file_name name ++ ebcdic (codes " IS BEING SENT")

-- ---- what notices say too

-- NJH020 NODE ROME UNKNOWN
abbrev pub node_unknown : List ℕ → List ℕ
node_unknown node = ebcdic (codes "NJH020 NODE ") ++ without_end_blanks node ++ ebcdic (codes " UNKNOWN")

-- NJH021 SPOOL FULL LYON.42
abbrev pub spool_full : FileName → List ℕ
spool_full name = ebcdic (codes "NJH021 SPOOL FULL ") ++ file_name name

-- NJH022 NO FILES FOR HUB
abbrev pub no_files_for : List ℕ → List ℕ
no_files_for hub = ebcdic (codes "NJH022 NO FILES FOR ") ++ without_end_blanks hub

-- NJH023 LYON.42 ROUTED BACK
abbrev pub routed_back : FileName → List ℕ
routed_back name = ebcdic (codes "NJH023 ") ++ file_name name ++ ebcdic (codes " ROUTED BACK")
