-- Whole runs: files that come in, and those that the hub doesn't take.
use Rattle.std.specs.Prelude.{ℕ, List, [], ◌∷◌, ◌++◌, refl}
use Rattle.njh_table.specs.Entries.{CustomerEntry}
use Rattle.tests_customer.specs.Spelled.{hex, job_header, data_set_header, hello, trailer, file_end, says, hears, block}
use Rattle.tests_customer.specs.Played.{Plays, on}
use Rattle.tests_customer.specs.Samples.{a1, acme, customer_of_quota, ack0, request, permission, refusal, completion}
use Rattle.tests_customer.specs.Samples.{lyon_is_up, file_comes}

-- ANNA hears at once that nobody has PARIS
file_for_an_unknown_node :
    Plays acme
    (lyon_is_up
    ++ on a1 (block 0x80 request) (block 0x80 permission)
    ∷ on a1 (block 0x81 (job_header 0x99 42 "ANNA" ++ data_set_header 0x99 "PARIS" "PAUL"))
    (block 0x81 (refusal ++ hears "ANNA" "NJH020 NODE PARIS UNKNOWN"))
    ∷ [])
unfolding Plays
file_for_an_unknown_node = refl

-- The hub takes no files for itself, and sends none back by the line that it came on. What comes of a file after its
-- refusal is ignored.
files_that_do_not_go_on :
    Plays acme
    (lyon_is_up
    ++ on a1 (block 0x80 request) (block 0x80 permission)
    ∷ on a1 (block 0x81 (job_header 0x99 42 "ANNA" ++ data_set_header 0x99 "BUREAU" "PAUL"))
    (block 0x81 (refusal ++ hears "ANNA" "NJH022 NO FILES FOR BUREAU"))
    ∷ on a1 (block 0x82 (hello 0x99 ++ trailer 0x99)) ack0
    ∷ on a1 (block 0x83 request) (block 0x82 permission)
    ∷ on a1 (block 0x84 (job_header 0x99 42 "ANNA" ++ data_set_header 0x99 "LYON" "PAUL"))
    (block 0x83 (refusal ++ hears "ANNA" "NJH023 LYON.42 ROUTED BACK"))
    ∷ [])
unfolding Plays
files_that_do_not_go_on = refl

file_is_stored :
    Plays acme
    (lyon_is_up ++ file_comes 0x80 42 "ANNA"
    ++ on a1 (block 0x82 (says "ANNA" "LIST"))
    (block 0x82 (hears "ANNA" "NJH001 LYON.42 TO METZ PAUL OUT 4 RECORDS READY" ++ hears "ANNA" "NJH002 1 FILES"))
    ∷ [])
unfolding Plays
file_is_stored = refl

-- The third takes the place of the first, which is gone, and is listed last.
files_are_listed_as_they_came :
    Plays acme
    (lyon_is_up ++ file_comes 0x80 1 "ANNA" ++ file_comes 0x82 2 "ANNA"
    ++ on a1 (block 0x84 (says "ANNA" "CANCEL LYON.1")) (block 0x84 (hears "ANNA" "NJH005 LYON.1 CANCELLED 1"))
    ∷ file_comes 0x85 3 "ANNA"
    ++ on a1 (block 0x87 (says "ANNA" "LIST"))
    (block 0x87
    (hears "ANNA" "NJH001 LYON.2 TO METZ PAUL OUT 4 RECORDS READY"
    ++ hears "ANNA" "NJH001 LYON.3 TO METZ PAUL OUT 4 RECORDS READY"
    ++ hears "ANNA" "NJH002 2 FILES"))
    ∷ [])
unfolding Plays
files_are_listed_as_they_came = refl

-- A record of 257 bytes cancels its file, and the message after it is obeyed.
record_too_long :
    Plays acme
    (lyon_is_up
    ++ on a1 (block 0x80 request) (block 0x80 permission)
    ∷ on a1
    (block 0x81
    (job_header 0x99 42 "ANNA" ++ hex "99 80 bfc1 bfc1 bfc1 bfc1 bfc1 bfc1 bfc1 bfc1 a9c1 00" ++ says "ANNA" "LIST"))
    (block 0x81 (refusal ++ hears "ANNA" "NJH002 0 FILES"))
    ∷ [])
unfolding Plays
record_too_long = refl

-- ---- two blocks of the spool, 504 bytes

abbrev small : CustomerEntry
small = customer_of_quota 2

-- with the 103 of the job header, the 27 of the data set header, and 259 of a record of 256 bytes
abbrev large_front : List ℕ
large_front =
    job_header 0x99 42 "ANNA" ++ data_set_header 0x99 "METZ" "PAUL"
    ++ hex "99 80 bfc1 bfc1 bfc1 bfc1 bfc1 bfc1 bfc1 bfc1 a8c1 00"

-- and 108 and 7
abbrev full_file : List ℕ
full_file = large_front ++ hex "99 80 bfc2 bfc2 bfc2 acc2 00" ++ trailer 0x99 ++ file_end 0x99

abbrev overfull_file : List ℕ
overfull_file = large_front ++ hex "99 80 bfc2 bfc2 bfc2 adc2 00" ++ trailer 0x99 ++ file_end 0x99

file_fills_the_quota :
    Plays small
    (lyon_is_up ++ on a1 (block 0x80 request) (block 0x80 permission)
    ∷ on a1 (block 0x81 full_file) (block 0x81 completion) ∷ [])
unfolding Plays
file_fills_the_quota = refl

file_passes_the_quota_by_a_byte :
    Plays small
    (lyon_is_up
    ++ on a1 (block 0x80 request) (block 0x80 permission)
    ∷ on a1 (block 0x81 overfull_file) (block 0x81 (refusal ++ hears "ANNA" "NJH021 SPOOL FULL LYON.42"))
    ∷ [])
unfolding Plays
file_passes_the_quota_by_a_byte = refl

request_with_the_quota_used :
    Plays small
    (lyon_is_up
    ++ on a1 (block 0x80 request) (block 0x80 permission)
    ∷ on a1 (block 0x81 full_file) (block 0x81 completion)
    ∷ on a1 (block 0x82 request) (block 0x82 refusal)
    ∷ [])
unfolding Plays
request_with_the_quota_used = refl
