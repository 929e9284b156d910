-- Whole runs: what users command about their files.
use Prim.Native.String.{String}
use Rattle.std.specs.Prelude.{ℕ, List, [], ◌∷◌, ◌++◌, refl}
use Rattle.tests_customer.specs.Spelled.{hex, job_header, data_set_header, trailer, file_end, says, hears, block}
use Rattle.tests_customer.specs.Played.{Plays, on}
use Rattle.tests_customer.specs.Samples.{a1, a2, acme, ack0, request, permission, completion, lyon_is_up, metz_is_up}
use Rattle.tests_customer.specs.Samples.{file_comes}

-- ANNA and EVA have a file of the same name each.
users_hold_their_own_files :
    Plays acme
    (lyon_is_up ++ file_comes 0x80 42 "ANNA" ++ file_comes 0x82 42 "EVA"
    ++ on a1 (block 0x84 (says "ANNA" "HOLD LYON.42")) (block 0x84 (hears "ANNA" "NJH003 LYON.42 HELD 1"))
    ∷ on a1 (block 0x85 (says "ANNA" "HOLD LYON.99")) (block 0x85 (hears "ANNA" "NJH010 LYON.99 NOT FOUND"))
    ∷ on a1 (block 0x86 (says "ANNA" "HOLD LYON")) (block 0x86 (hears "ANNA" "NJH011 BAD COMMAND"))
    ∷ on a1 (block 0x87 (says "EVA" "LIST"))
    (block 0x87 (hears "EVA" "NJH001 LYON.42 TO METZ PAUL OUT 4 RECORDS READY" ++ hears "EVA" "NJH002 1 FILES"))
    ∷ on a1 (block 0x88 (says "ANNA" "LIST"))
    (block 0x88 (hears "ANNA" "NJH001 LYON.42 TO METZ PAUL OUT 4 RECORDS HELD" ++ hears "ANNA" "NJH002 1 FILES"))
    ∷ on a1 (block 0x89 (says "ANNA" "RELEASE LYON.42")) (block 0x89 (hears "ANNA" "NJH004 LYON.42 RELEASED 1"))
    ∷ [])
unfolding Plays
users_hold_their_own_files = refl

two_files_of_a_name_are_cancelled :
    Plays acme
    (lyon_is_up ++ file_comes 0x80 42 "ANNA" ++ file_comes 0x82 42 "ANNA"
    ++ on a1 (block 0x84 (says "ANNA" "CANCEL LYON.42")) (block 0x84 (hears "ANNA" "NJH005 LYON.42 CANCELLED 2"))
    ∷ on a1 (block 0x85 (says "ANNA" "LIST")) (block 0x85 (hears "ANNA" "NJH002 0 FILES"))
    ∷ [])
unfolding Plays
two_files_of_a_name_are_cancelled = refl

-- Of two files of a name METZ refused the second, and the first is being sent: that one is left as it is.
one_of_two_is_being_sent :
    Plays acme
    (lyon_is_up ++ file_comes 0x80 42 "ANNA" ++ file_comes 0x82 42 "ANNA" ++ metz_is_up
    ++ on a2 ack0 (block 0x80 (request ++ hex "90 a9 00"))
    ∷ on a2 (block 0x80 (hex "b0 a9 00")) ack0
    ∷ on a1 (block 0x84 (says "ANNA" "RELEASE LYON.42"))
    (block 0x84 (hears "ANNA" "NJH004 LYON.42 RELEASED 1" ++ hears "ANNA" "NJH012 LYON.42 IS BEING SENT"))
    ∷ on a1 (block 0x85 (says "ANNA" "HOLD LYON.42"))
    (block 0x85 (hears "ANNA" "NJH003 LYON.42 HELD 1" ++ hears "ANNA" "NJH012 LYON.42 IS BEING SENT"))
    ∷ on a1 (block 0x86 (says "ANNA" "REROUTE LYON.42 LYON"))
    (block 0x86 (hears "ANNA" "NJH006 LYON.42 REROUTED TO LYON 1" ++ hears "ANNA" "NJH012 LYON.42 IS BEING SENT"))
    ∷ on a1 (block 0x87 (says "ANNA" "REROUTE LYON.42 BUREAU")) (block 0x87 (hears "ANNA" "NJH022 NO FILES FOR BUREAU"))
    ∷ on a1 (block 0x88 (says "ANNA" "REROUTE LYON.42 PARIS")) (block 0x88 (hears "ANNA" "NJH020 NODE PARIS UNKNOWN"))
    ∷ on a1 (block 0x89 (says "ANNA" "REROUTE LYON.9 PARIS")) (block 0x89 (hears "ANNA" "NJH010 LYON.9 NOT FOUND"))
    ∷ on a1 (block 0x8a (says "ANNA" "LIST"))
    (block 0x8a
    (hears "ANNA" "NJH001 LYON.42 TO METZ PAUL OUT 4 RECORDS SENDING"
    ++ hears "ANNA" "NJH001 LYON.42 TO LYON PAUL OUT 4 RECORDS HELD"
    ++ hears "ANNA" "NJH002 2 FILES"))
    ∷ [])
unfolding Plays
one_of_two_is_being_sent = refl

-- A file with a continuation of 131 blanks after its job header, so that its destination lies in two blocks of the
-- spool.
abbrev long_headed : String → List ℕ
long_headed node =
    job_header 0x99 42 "ANNA" ++ hex "99 c0 9f9f9f9f 87 00" ++ data_set_header 0x99 node "PAUL" ++ trailer 0x99
    ++ file_end 0x99

-- It is asked for at once on the line to its new node, and goes out with these eight bytes changed and no others.
file_is_rerouted :
    Plays acme
    (lyon_is_up
    ++ on a1 (block 0x80 request) (block 0x80 permission)
    ∷ on a1 (block 0x81 (long_headed "METZ")) (block 0x81 completion)
    ∷ on a1 (block 0x82 (says "ANNA" "REROUTE LYON.42 LYON"))
    (block 0x82 (request ++ hears "ANNA" "NJH006 LYON.42 REROUTED TO LYON 1"))
    ∷ on a1 (block 0x83 (says "ANNA" "LIST"))
    (block 0x83 (hears "ANNA" "NJH001 LYON.42 TO LYON PAUL OUT 4 RECORDS SENDING" ++ hears "ANNA" "NJH002 1 FILES"))
    ∷ on a1 (block 0x84 permission) (block 0x84 (long_headed "LYON"))
    ∷ [])
unfolding Plays
file_is_rerouted = refl
