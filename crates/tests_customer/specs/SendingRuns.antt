-- Whole runs: files that go out, and what keeps them from it.
use Rattle.std.specs.Prelude.{ℕ, List, [], ◌∷◌, ◌++◌, refl}
use Rattle.njh_customer.specs.declared.signal.Signal.TheVariants.{Tick, Lost}
use Rattle.tests_customer.specs.Spelled.{hex, ebcdic, nodal_message, job_header, data_set_header, trailer, file_end}
use Rattle.tests_customer.specs.Spelled.{says}
use Rattle.tests_customer.specs.Spelled.{hears, text, block}
use Rattle.tests_customer.specs.Played.{Plays, PlayedEvent, on, signal}
use Rattle.tests_customer.specs.Samples.{
  a1,
  a2,
  acme,
  customer_of_quota,
  ack0,
  lyon_is_up,
  metz_is_up,
  with_small_texts,
  request,
  permission,
  completion,
  file,
  file_comes,
  file_is_ready,
  job,
  job_comes,
}

-- It goes out as it came, and is gone when METZ has it.
file_goes_out_whole :
    Plays acme
    (file_is_ready
    ++ on a2 ack0 (block 0x80 request)
    ∷ on a2 (block 0x80 permission) (block 0x81 (file 42 "ANNA"))
    ∷ on a2 (block 0x81 completion) ack0
    ∷ on a1 (block 0x82 (says "ANNA" "LIST")) (block 0x82 (hears "ANNA" "NJH002 0 FILES"))
    ∷ [])
unfolding Plays
file_goes_out_whole = refl

-- METZ suspends SYSOUT 1 at first, so nothing of the file has gone when it is cancelled.
file_is_cancelled_while_it_is_sent :
    Plays acme
    (file_is_ready
    ++ on a2 ack0 (block 0x80 request)
    ∷ on a2 (text (hex "80 8fc7" ++ permission ++ hex "00")) ack0
    ∷ on a2 ack0 []
    ∷ on a1 (block 0x82 (says "ANNA" "HOLD LYON.42")) (block 0x82 (hears "ANNA" "NJH012 LYON.42 IS BEING SENT"))
    ∷ on a1 (block 0x83 (says "ANNA" "CANCEL LYON.42")) (block 0x83 (hears "ANNA" "NJH005 LYON.42 CANCELLED 1"))
    ∷ signal Tick a2 (block 0x81 (hex "99 80 40"))
    ∷ [])
unfolding Plays
file_is_cancelled_while_it_is_sent = refl

-- The line is lost after the end of the file: METZ hasn't said that it has it, so it is asked for again.
file_is_sent_again_after_a_loss :
    Plays acme
    (file_is_ready
    ++ on a2 ack0 (block 0x80 request)
    ∷ on a2 (block 0x80 permission) (block 0x81 (file 42 "ANNA"))
    ∷ signal Lost a2 []
    ∷ on a1 (block 0x82 (says "ANNA" "LIST"))
    (block 0x82 (hears "ANNA" "NJH001 LYON.42 TO METZ PAUL OUT 4 RECORDS READY" ++ hears "ANNA" "NJH002 1 FILES"))
    ∷ metz_is_up ++ on a2 ack0 (block 0x80 request) ∷ [])
unfolding Plays
file_is_sent_again_after_a_loss = refl

-- HI of LYON to PAUL at METZ, in a record with two bytes more, which aren't sent on; it goes out after the request for
-- a file.
message_goes_on :
    Plays acme
    (file_is_ready
    ++ on a1 (block 0x82 (hex "9a 80 c82077 0002 d4c5e3e984 c500 d7c1e4d384 c4 d3e8d6d584 c500 c8c9 ffff 00")) ack0
    ∷ on a2 ack0 (block 0x80 (request ++ nodal_message 0x20 "METZ" "PAUL" "LYON" (ebcdic "HI")))
    ∷ [])
unfolding Plays
message_goes_on = refl

-- Jobs are asked for before output, and of each kind the oldest on the first stream; so the second job goes out on
-- SYSIN 2.
oldest_of_each_kind_is_first :
    Plays acme
    (lyon_is_up ++ file_comes 0x80 1 "ANNA" ++ job_comes 0x82 2 ++ file_comes 0x84 3 "ANNA" ++ job_comes 0x86 4
    ++ metz_is_up
    ++ on a2 ack0 (block 0x80 (hex "90 98 00 90 a8 00 90 99 00 90 a9 00"))
    ∷ on a2 (block 0x80 (hex "a0 a8 00")) (block 0x81 (job 0xa8 4))
    ∷ [])
unfolding Plays
oldest_of_each_kind_is_first = refl

-- With 15 blocks left and a file that goes out, all streams to the hub are suspended.
little_room_suspends_the_streams :
    Plays (customer_of_quota 16)
    (file_is_ready ++ on a2 ack0 (block 0x80 request) ∷ lyon_is_up ++ on a1 (block 0x80 []) (text (hex "80 80c0 00"))
    ∷ [])
unfolding Plays
little_room_suspends_the_streams = refl

room_enough_suspends_nothing :
    Plays (customer_of_quota 17) (file_is_ready ++ on a2 ack0 (block 0x80 request) ∷ lyon_is_up
    ++ on a1 (block 0x80 []) ack0 ∷ [])
unfolding Plays
room_enough_suspends_nothing = refl

-- ---- four streams in turn

-- on SYSOUT 1 to 4
abbrev on_each : (ℕ → List ℕ) → List ℕ
on_each records = records 0x99 ++ records 0xa9 ++ records 0xb9 ++ records 0xc9

abbrev on_last_three : (ℕ → List ℕ) → List ℕ
on_last_three records = records 0xa9 ++ records 0xb9 ++ records 0xc9

abbrev control : ℕ → ℕ → List ℕ
control rcb stream = rcb ∷ stream ∷ hex "00"

abbrev headers : ℕ → List ℕ
headers rcb = job_header rcb rcb "ANNA" ++ data_set_header rcb "METZ" "PAUL"

-- 69 bytes, in a record of 74
abbrev verse : ℕ → List ℕ
verse rcb =
    rcb ∷ hex "80 ff" ++ ebcdic "THE QUICK BROWN FOX JUMPS OVER THE LAZY DOG. THE DOG SLEEPS ON." ++ hex "c6"
    ++ ebcdic " MORE " ++ hex "00"

-- METZ takes texts of 300 bytes. The first block has 296 with all headers, the second 300 with all data; so the
-- trailers are left.
abbrev trailers_are_left : List PlayedEvent
trailers_are_left =
    lyon_is_up
    ++ on a1 (block 0x80 (on_each (control 0x90))) (block 0x80 (on_each (control 0xa0)))
    ∷ on a1 (block 0x81 (on_each (λ rcb. headers rcb ++ verse rcb ++ trailer rcb ++ file_end rcb)))
    (block 0x81 (on_each (control 0xc0)))
    ∷ with_small_texts a2 "METZ"
    ++ on a2 ack0 (block 0x80 (on_each (control 0x90)))
    ∷ on a2 (block 0x80 (on_each (control 0xa0)))
    (block 0x81
    (on_each (λ rcb. job_header rcb rcb "ANNA") ++ on_each (λ rcb. data_set_header rcb "METZ" "PAUL")))
    ∷ on a2 (block 0x81 []) (block 0x82 (on_each verse))
    ∷ []

-- the first is suspended
three_streams_end_in_turn :
    Plays acme (trailers_are_left ++ on a2 (text (hex "82 8fc7 00"))
    (block 0x83 (on_last_three trailer ++ on_last_three file_end)) ∷ [])
unfolding Plays
three_streams_end_in_turn = refl

all_is_suspended : Plays acme (trailers_are_left ++ on a2 (text (hex "82 cfcf 00")) ack0 ∷ [])
unfolding Plays
all_is_suspended = refl
