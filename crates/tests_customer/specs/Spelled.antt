-- Bytes written by hand: as hex, and as text in EBCDIC.
use Prim.Native.String.{String}
use Rattle.std.specs.Prelude.{ℕ, ◌+◌, ◌-◌, ◌*◌, ◌==◌, nat_lt, cond, not, List, [], ◌∷◌, ◌++◌, map, filter, length}
use Rattle.std.specs.Prelude.{replicate, codes}

-- the value of a hex digit, by its ASCII code
abbrev digit : ℕ → ℕ
digit code = cond (nat_lt code 0x3a) (code - 0x30) (code - 0x57)

abbrev pairs : List ℕ → List ℕ
pairs [] = []
pairs (high ∷ []) = []
pairs (high ∷ low ∷ more) = (16 * digit high + digit low) ∷ pairs more

-- digits of lower case, with blanks where they read better
abbrev pub hex : String → List ℕ
hex text = pairs (filter (λ code. not (code == 0x20)) (codes text))

-- blank, full stop, 0 to 9, A to I, J to R, S to Z
abbrev letter : ℕ → ℕ
letter code =
    cond (code == 0x20) 0x40
    (cond (code == 0x2e) 0x4b
    (cond (nat_lt code 0x3a) (code + 0xc0)
    (cond (nat_lt code 0x4a) (code + 0x80)
    (cond (nat_lt code 0x53) (code + 0x87) (code + 0x8f)))))

abbrev pub ebcdic : String → List ℕ
ebcdic text = map letter (codes text)

abbrev pub blanks_past : String → ℕ
blanks_past text = 8 - length (codes text)

-- a name in its field of eight bytes
abbrev pub field : String → List ℕ
field text = ebcdic text ++ replicate (blanks_past text) 0x40

-- The same as it is spelled after other bytes of a literal: a string control byte stands for its blanks, of which
-- there are two at least.
abbrev pub named : String → List ℕ
named text = ebcdic text ++ (0x80 + blanks_past text) ∷ []

-- it begins a literal of its own, with so many bytes before it
abbrev pub literal : ℕ → String → ℕ
literal before text = 0xc0 + before + length (codes text)

-- ---- the records of a file

-- Under SRCB C0 the job header of a user at LYON, under a job number below 256; its execution node is METZ.
abbrev pub job_header : ℕ → ℕ → String → List ℕ
job_header rcb number user =
    rcb ∷ hex "c0 c2 0064 a3 00 c1 60 a3 00 c1" ++ number ∷ hex "b2 00"
    ++ hex "cc d7c1e8d9d6d3d340 c1d5d5c1 84 b8 00 c4" ++ named "LYON"
    ++ literal 0 user ∷ named user ++ hex "c4 d4c5e3e9 8c 00"

-- under SRCB E0 the data set header of a file to a user at a node
abbrev pub data_set_header : ℕ → String → String → List ℕ
data_set_header rcb node user =
    rcb ∷ hex "e0 c2 0018 a3 00" ++ literal 3 node ∷ hex "14 0000" ++ named node ++ literal 0 user ∷ named user
    ++ hex "00"

-- HELLO with its length before it
abbrev pub hello : ℕ → List ℕ
hello rcb = rcb ∷ hex "80 c6 05 c8c5d3d3d6 00"

abbrev pub trailer : ℕ → List ℕ
trailer rcb = rcb ∷ hex "d0 c4 0004 0000 00"

abbrev pub file_end : ℕ → List ℕ
file_end rcb = rcb ∷ hex "80 00"

-- ---- nodal messages

-- by flag and length, from a node to a user at a node
abbrev pub nodal_message : ℕ → String → String → String → List ℕ → List ℕ
nodal_message flag to user from message =
    hex "9a 80" ++ literal 4 to ∷ flag ∷ hex "77 00" ++ length message ∷ named to
    ++ literal 1 user ∷ 0x00 ∷ named user ++ literal 0 from ∷ named from
    ++ (0xc1 + length message) ∷ 0x00 ∷ message ++ hex "00"

-- a user at LYON commands something
abbrev pub says : String → String → List ℕ
says user text = nodal_message 0xa0 "BUREAU" user "LYON" (ebcdic text)

-- a user at LYON is told something
abbrev pub hears : String → String → List ℕ
hears user text = nodal_message 0x20 "LYON" user "BUREAU" (ebcdic text)

-- ---- blocks

-- a text without a byte 10, in its frame
abbrev pub text : List ℕ → List ℕ
text bytes = hex "1002" ++ bytes ++ hex "1026"

-- a block that lets all streams go on
abbrev pub block : ℕ → List ℕ → List ℕ
block bcb records = text (bcb ∷ hex "8f cf" ++ records ++ hex "00")
