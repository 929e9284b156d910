-- Whole runs: what is ordered for a customer.
use Prim.Native.String.{String}
use Rattle.std.specs.Prelude.{List, [], ◌∷◌, ◌++◌, refl}
use Rattle.njh_customer.specs.declared.given_order.GivenOrder.TheVariants.{Command}
use Rattle.tests_customer.specs.Spelled.{hex, ebcdic, field, says, hears, block}
use Rattle.tests_customer.specs.Played.{PlayedEvent, Plays, on, order}
use Rattle.tests_customer.specs.Samples.{a1, a2, acme, ack0, request, permission, lyon_is_up, file_comes}
use Rattle.tests_customer.specs.Samples.{file_is_ready}

-- a command in the name of a user at LYON
abbrev commands : String → String → PlayedEvent
commands user text = order (Command (record { node = field "LYON"; user = field user }) (ebcdic text))

-- The file of another user stays, and no reply waits on a line.
files_of_the_owner_are_held :
    Plays acme
    (lyon_is_up ++ file_comes 0x80 42 "ANNA" ++ file_comes 0x82 42 "EVA"
    ++ commands "EVA" "HOLD LYON.42"
    ∷ on a1 (block 0x84 []) ack0
    ∷ on a1 (block 0x85 (says "EVA" "LIST"))
    (block 0x84 (hears "EVA" "NJH001 LYON.42 TO METZ PAUL OUT 4 RECORDS HELD" ++ hears "EVA" "NJH002 1 FILES"))
    ∷ on a1 (block 0x86 (says "ANNA" "LIST"))
    (block 0x85 (hears "ANNA" "NJH001 LYON.42 TO METZ PAUL OUT 4 RECORDS READY" ++ hears "ANNA" "NJH002 1 FILES"))
    ∷ [])
unfolding Plays
files_of_the_owner_are_held = refl

-- METZ permits the file as it is cancelled: the stream gives it up, and METZ is told so.
file_is_cancelled_while_it_is_asked_for :
    Plays acme
    (file_is_ready
    ++ on a2 ack0 (block 0x80 request)
    ∷ commands "ANNA" "CANCEL LYON.42"
    ∷ on a2 (block 0x80 permission) (block 0x81 (hex "99 80 40"))
    ∷ on a1 (block 0x82 (says "ANNA" "LIST")) (block 0x82 (hears "ANNA" "NJH002 0 FILES"))
    ∷ [])
unfolding Plays
file_is_cancelled_while_it_is_asked_for = refl
