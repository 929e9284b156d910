-- Whole runs: what becomes of a customer's files by new routes.
use Prim.Native.String.{String}
use Rattle.std.specs.Prelude.{ℕ, List, [], ◌∷◌, ◌++◌, Some, None, refl}
use Rattle.njh_customer.specs.declared.signal.Signal.TheVariants.{Tick, Lost}
use Rattle.njh_table.specs.NewRoutes.{NewRoute, NoSecond}
use Rattle.tests_customer.specs.Spelled.{ebcdic, field, nodal_message, job_header, data_set_header, hello, trailer}
use Rattle.tests_customer.specs.Spelled.{file_end, says, hears, block}
use Rattle.tests_customer.specs.Played.{Plays, on, routes, signal}
use Rattle.tests_customer.specs.Samples.{
  a1,
  a2,
  acme,
  ack0,
  metz_is_up,
  request,
  permission,
  refusal,
  completion,
  file,
  file_is_ready,
}

abbrev to : String → ℕ → NewRoute
to node line = record { node = field node; line = Some line; second = NoSecond }

-- by a line that isn't the customer's
abbrev to_foreign : String → NewRoute
to_foreign node = record { node = field node; line = None; second = NoSecond }

-- what ANNA is told of her file when she lists her files
abbrev one_file : String → List ℕ
one_file line = hears "ANNA" line ++ hears "ANNA" "NJH002 1 FILES"

-- The file is Held when METZ has no route any more, also where it has one again, and goes when it is released. Routes
-- with a fault do nothing.
file_is_held_and_released :
    Plays acme
    (file_is_ready
    ++ routes (to "LYON" a1 ∷ to_foreign "METZ" ∷ [])
    ∷ routes (to "LYON" a1 ∷ to "LYON" a1 ∷ [])
    ∷ on a1 (block 0x82 (says "ANNA" "LIST")) (block 0x82 (one_file "NJH001 LYON.42 TO METZ PAUL OUT 4 RECORDS READY"))
    ∷ routes (to "LYON" a1 ∷ [])
    ∷ on a1 (block 0x83 (says "ANNA" "LIST")) (block 0x83 (one_file "NJH001 LYON.42 TO METZ PAUL OUT 4 RECORDS HELD"))
    ∷ on a2 ack0 []
    ∷ routes (to "LYON" a1 ∷ to "METZ" a2 ∷ [])
    ∷ on a2 ack0 []
    ∷ on a1 (block 0x84 (says "ANNA" "RELEASE LYON.42")) (block 0x84 (hears "ANNA" "NJH004 LYON.42 RELEASED 1"))
    ∷ signal Tick a2 (block 0x80 request)
    ∷ [])
unfolding Plays
file_is_held_and_released = refl

-- A file that is being sent goes on, and a message that waits on its line goes out with it. When the line is lost the
-- file is Ready, and no line asks for it until METZ has a route again.
file_that_is_sent_goes_on :
    Plays acme
    (file_is_ready
    ++ on a2 ack0 (block 0x80 request)
    ∷ on a1 (block 0x82 (nodal_message 0x20 "METZ" "PAUL" "LYON" (ebcdic "HI"))) ack0
    ∷ routes (to "LYON" a1 ∷ [])
    ∷ on a2 (block 0x80 permission) (block 0x81
    (nodal_message 0x20 "METZ" "PAUL" "LYON" (ebcdic "HI") ++ file 42 "ANNA"))
    ∷ signal Lost a2 []
    ∷ on a1 (block 0x83 (says "ANNA" "LIST")) (block 0x82 (one_file "NJH001 LYON.42 TO METZ PAUL OUT 4 RECORDS READY"))
    ∷ metz_is_up
    ++ on a2 ack0 []
    ∷ routes (to "METZ" a2 ∷ [])
    ∷ signal Tick a2 (block 0x80 request)
    ∷ [])
unfolding Plays
file_that_is_sent_goes_on = refl

-- A file that METZ refused is Held. One whose headers have come before goes on coming, and is Ready, though nobody asks
-- for it.
refused_is_held_and_partial_comes :
    Plays acme
    (file_is_ready
    ++ on a2 ack0 (block 0x80 request)
    ∷ on a2 (block 0x80 refusal) ack0
    ∷ on a1 (block 0x82 request) (block 0x82 permission)
    ∷ on a1 (block 0x83 (job_header 0x99 43 "ANNA" ++ data_set_header 0x99 "METZ" "PAUL")) ack0
    ∷ routes (to "LYON" a1 ∷ [])
    ∷ on a1 (block 0x84 (hello 0x99 ++ trailer 0x99 ++ file_end 0x99)) (block 0x83 completion)
    ∷ on a1 (block 0x85 (says "ANNA" "LIST"))
    (block 0x84
    (hears "ANNA" "NJH001 LYON.42 TO METZ PAUL OUT 4 RECORDS HELD"
    ++ hears "ANNA" "NJH001 LYON.43 TO METZ PAUL OUT 4 RECORDS READY"
    ++ hears "ANNA" "NJH002 2 FILES"))
    ∷ on a2 ack0 []
    ∷ [])
unfolding Plays
refused_is_held_and_partial_comes = refl
