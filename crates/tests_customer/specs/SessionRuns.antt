-- Whole runs: sessions, counts and tries.
use Rattle.std.specs.Prelude.{[], ◌∷◌, ◌++◌, refl}
use Rattle.njh_customer.specs.declared.signal.Signal.TheVariants.{Garbled, Lost}
use Rattle.tests_customer.specs.Spelled.{hex, text, block, says, hears}
use Rattle.tests_customer.specs.Played.{Plays, on, signal}
use Rattle.tests_customer.specs.Samples.{a1, a2, acme, enquiry, ack0, nak, lyon_signs_on, bureau_signs_on, lyon_is_up}
use Rattle.tests_customer.specs.Samples.{with_small_texts}

nothing_comes : Plays acme []
unfolding Plays
nothing_comes = refl

contact_and_sign_on : Plays acme lyon_is_up
unfolding Plays
contact_and_sign_on = refl

list_without_files :
    Plays acme
    (with_small_texts a1 "LYON" ++ on a1 (block 0x80 (says "ANNA" "LIST")) (block 0x80 (hears "ANNA" "NJH002 0 FILES"))
    ∷ [])
unfolding Plays
list_without_files = refl

-- Sixteen counts, and 0 again. The same block once more has the last frame sent again; a count out of turn ends the
-- session.
counts_go_round :
    Plays acme
    (lyon_is_up
    ++ on a1 (block 0x80 []) ack0
    ∷ on a1 (block 0x81 []) ack0
    ∷ on a1 (block 0x82 []) ack0
    ∷ on a1 (block 0x83 []) ack0
    ∷ on a1 (block 0x84 []) ack0
    ∷ on a1 (block 0x85 []) ack0
    ∷ on a1 (block 0x86 []) ack0
    ∷ on a1 (block 0x87 []) ack0
    ∷ on a1 (block 0x88 []) ack0
    ∷ on a1 (block 0x89 []) ack0
    ∷ on a1 (block 0x8a []) ack0
    ∷ on a1 (block 0x8b []) ack0
    ∷ on a1 (block 0x8c []) ack0
    ∷ on a1 (block 0x8d []) ack0
    ∷ on a1 (block 0x8e []) ack0
    ∷ on a1 (block 0x8f []) ack0
    ∷ on a1 (block 0x80 []) ack0
    ∷ on a1 (block 0x80 []) ack0
    ∷ on a1 (block 0x85 []) (block 0x80 (hex "e0 81 00"))
    ∷ on a1 nak []
    ∷ [])
unfolding Plays
counts_go_round = refl

-- a text to be disregarded is the first try, and each NAK one more
five_tries :
    Plays acme
    (lyon_is_up
    ++ on a1 (hex "1002 80 8f 102d") nak
    ∷ on a1 nak bureau_signs_on
    ∷ on a1 nak bureau_signs_on
    ∷ on a1 nak bureau_signs_on
    ∷ on a1 nak bureau_signs_on
    ∷ on a1 nak []
    ∷ on a1 enquiry ack0
    ∷ [])
unfolding Plays
five_tries = refl

garbled_then_lost : Plays acme (lyon_is_up ++ signal Garbled a1 nak ∷ on a1 [] [] ∷ signal Lost a1 [] ∷ on a1 nak []
    ∷ [])
unfolding Plays
garbled_then_lost = refl

-- what is dropped with half a frame, and frames in pieces
frames_in_pieces :
    Plays acme
    (on a1 (hex "01") []
    ∷ signal Garbled a1 []
    ∷ on a1 (hex "2d") []
    ∷ on a1 (hex "01") []
    ∷ on a2 (hex "01") []
    ∷ on a1 (hex "2d") ack0
    ∷ on a2 (hex "2d") ack0
    ∷ on a1 lyon_signs_on bureau_signs_on
    ∷ [])
unfolding Plays
frames_in_pieces = refl

-- ---- texts that are no blocks are answered NAK

block_too_short : Plays acme (lyon_is_up ++ on a1 (text (hex "80 8f")) nak ∷ [])
unfolding Plays
block_too_short = refl

no_block_control_byte : Plays acme (lyon_is_up ++ on a1 (text (hex "b0 8fcf 00")) nak ∷ [])
unfolding Plays
no_block_control_byte = refl

no_function_control_sequence : Plays acme (lyon_is_up ++ on a1 (text (hex "80 0fcf 00")) nak ∷ [])
unfolding Plays
no_function_control_sequence = refl

no_record_control_byte : Plays acme (lyon_is_up ++ on a1 (text (hex "80 8fcf 05 00")) nak ∷ [])
unfolding Plays
no_record_control_byte = refl

record_without_srcb : Plays acme (lyon_is_up ++ on a1 (text (hex "80 8fcf 99")) nak ∷ [])
unfolding Plays
record_without_srcb = refl

record_cut_short : Plays acme (lyon_is_up ++ on a1 (text (hex "80 8fcf 99 80 c3 c1 00")) nak ∷ [])
unfolding Plays
record_cut_short = refl
