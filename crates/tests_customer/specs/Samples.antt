-- A customer with two lines, and what its peers send at first.
use Prim.Native.String.{String}
use Rattle.std.specs.Prelude.{◌≡◌, ℕ, ◌+◌, false, List, [], ◌∷◌, ◌++◌, None, refl}
use Rattle.njh_table.specs.Entries.{CustomerEntry}
use Rattle.njh_table.specs.declared.Role.TheVariants.{Answer}
use Rattle.tests_customer.specs.Spelled.{hex, field, text, block, job_header, data_set_header, hello, trailer, file_end}
use Rattle.tests_customer.specs.Spelled.{says, hears}
use Rattle.tests_customer.specs.Played.{PlayedEvent, on}

-- the line to LYON, and the line to METZ
abbrev pub a1 : ℕ
a1 = 0

abbrev pub a2 : ℕ
a2 = 1

-- a customer of this quota, whose network calls the hub BUREAU
abbrev pub customer_of_quota : ℕ → CustomerEntry
customer_of_quota quota = record {
  hub = field "BUREAU";
  quota = quota;
  files = 8;
  lines =
      record { node = field "LYON"; role = Answer; block = 1024; streams = 4; password = [] }
      ∷ record { node = field "METZ"; role = Answer; block = 1024; streams = 4; password = [] } ∷ [];
  up = false ∷ false ∷ [];
  routes =
      record { node = field "LYON"; line = 0; second = None }
      ∷ record { node = field "METZ"; line = 1; second = None } ∷ [];
}

abbrev pub acme : CustomerEntry
acme = customer_of_quota 100

-- ---- contact and sign-on

abbrev pub enquiry : List ℕ
enquiry = hex "012d"

abbrev pub ack0 : List ℕ
ack0 = hex "1070"

abbrev pub nak : List ℕ
nak = hex "3d"

-- a sign-on by SRCB, node and size of texts, with blank passwords
abbrev pub sign_on : String → String → String → List ℕ
sign_on srcb node size =
    hex "1002 a0 8fcf f0" ++ hex srcb ++ hex "29" ++ field node ++ hex "01 00000000 0000" ++ hex size
    ++ hex "4040404040404040 4040404040404040 00 00000000 00 1026"

abbrev pub lyon_signs_on : List ℕ
lyon_signs_on = sign_on "c9" "LYON" "0400"

abbrev pub metz_signs_on : List ℕ
metz_signs_on = sign_on "c9" "METZ" "0400"

abbrev pub bureau_signs_on : List ℕ
bureau_signs_on = sign_on "d1" "BUREAU" "0400"

-- a peer that takes texts of 300 bytes
abbrev pub with_small_texts : ℕ → String → List PlayedEvent
with_small_texts l node = on l enquiry ack0 ∷ on l (sign_on "c9" node "012c") bureau_signs_on ∷ []

abbrev pub lyon_is_up : List PlayedEvent
lyon_is_up = on a1 enquiry ack0 ∷ on a1 lyon_signs_on bureau_signs_on ∷ []

abbrev pub metz_is_up : List PlayedEvent
metz_is_up = on a2 enquiry ack0 ∷ on a2 metz_signs_on bureau_signs_on ∷ []

-- ---- files, on SYSOUT 1

-- the stream that a request, a permission, a refusal or a completion is about
abbrev pub request : List ℕ
request = hex "90 99 00"

abbrev pub permission : List ℕ
permission = hex "a0 99 00"

abbrev pub refusal : List ℕ
refusal = hex "b0 99 00"

abbrev pub completion : List ℕ
completion = hex "c0 99 00"

-- a job of a user at LYON, whose output goes to PAUL at METZ
abbrev pub file : ℕ → String → List ℕ
file number user =
    job_header 0x99 number user ++ data_set_header 0x99 "METZ" "PAUL" ++ hello 0x99 ++ trailer 0x99 ++ file_end 0x99

-- it comes on a1, in the two blocks from this one on
abbrev pub file_comes : ℕ → ℕ → String → List PlayedEvent
file_comes bcb number user =
    on a1 (block bcb request) (block bcb permission)
    ∷ on a1 (block (bcb + 1) (file number user)) (block (bcb + 1) completion) ∷ []

-- a job of ANNA at LYON, to be run at METZ
abbrev pub job : ℕ → ℕ → List ℕ
job rcb number = job_header rcb number "ANNA" ++ hello rcb ++ trailer rcb ++ file_end rcb

-- it comes on SYSIN 1 of a1
abbrev pub job_comes : ℕ → ℕ → List PlayedEvent
job_comes bcb number =
    on a1 (block bcb (hex "90 98 00")) (block bcb (hex "a0 98 00"))
    ∷ on a1 (block (bcb + 1) (job 0x98 number)) (block (bcb + 1) (hex "c0 98 00")) ∷ []

-- LYON.42 of ANNA is in the spool, and a2 is up
abbrev pub file_is_ready : List PlayedEvent
file_is_ready = lyon_is_up ++ file_comes 0x80 42 "ANNA" ++ metz_is_up

-- ---- what these are in bytes

sign_on_in_bytes :
    lyon_signs_on
    ≡ hex "1002 a08fcff0c929d3e8d6d540404040010000000000000400"
    ++ hex "40404040404040404040404040404040 000000000000 1026"
sign_on_in_bytes = refl

list_in_bytes :
    block 0x80 (says "ANNA" "LIST")
    ≡ hex "1002 808fcf 9a80 caa0770004c2e4d9c5c1e482 c500c1d5d5c184 c4d3e8d6d584 c500d3c9e2e300 00 1026"
list_in_bytes = refl

reply_in_bytes :
    block 0x80 (hears "ANNA" "NJH002 0 FILES")
    ≡ hex "1002 808fcf 9a80 c82077000ed3e8d6d584 c500c1d5d5c184 c6c2e4d9c5c1e482"
    ++ hex "cf00d5d1c8f0f0f240f040c6c9d3c5e200 00 1026"
reply_in_bytes = refl

file_in_bytes :
    text (hex "81 8fcf" ++ file 42 "ANNA" ++ hex "00")
    ≡ hex "1002 818fcf 99c0c20064a300c160a300c12ab200ccd7c1e8d9d6d3d340c1d5d5c184b800c4d3e8d6d584c4c1d5d5c184"
    ++ hex "c4d4c5e3e98c00 99e0c20018a300c7140000d4c5e3e984c4d7c1e4d38400 9980c605c8c5d3d3d600 99d0c400040000 00"
    ++ hex "998000 00 1026"
file_in_bytes = refl
