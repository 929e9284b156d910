-- Whole runs: a file goes by the second line of its route.
use Rattle.std.specs.Prelude.{ℕ, List, [], ◌∷◌, ◌++◌, false, Some, None, refl}
use Rattle.njh_customer.specs.declared.signal.Signal.TheVariants.{Tick, Lost}
use Rattle.njh_table.specs.Entries.{CustomerEntry}
use Rattle.njh_table.specs.declared.Role.TheVariants.{Answer}
use Rattle.tests_customer.specs.Spelled.{ebcdic, field, nodal_message, says, hears, block}
use Rattle.tests_customer.specs.Played.{Plays, PlayedEvent, on, signal}
use Rattle.tests_customer.specs.Samples.{
  a1,
  a2,
  acme,
  enquiry,
  ack0,
  metz_signs_on,
  bureau_signs_on,
  metz_is_up,
  request,
  permission,
  refusal,
  completion,
  file,
  file_is_ready,
}

-- the second line to METZ
abbrev a3 : ℕ
a3 = 2

abbrev acme_of_three_lines : CustomerEntry
acme_of_three_lines = record acme {
  lines = acme.lines ++ record { node = field "METZ"; role = Answer; block = 1024; streams = 4; password = [] } ∷ [];
  up = false ∷ false ∷ false ∷ [];
  routes =
      record { node = field "LYON"; line = a1; second = None }
      ∷ record { node = field "METZ"; line = a2; second = Some a3 } ∷ [];
}

-- LYON.42 of ANNA is in the spool, and both lines to METZ are up; the second has nothing of it
abbrev both_are_up : List PlayedEvent
both_are_up = file_is_ready ++ on a3 enquiry ack0 ∷ on a3 metz_signs_on bureau_signs_on ∷ on a3 ack0 [] ∷ []

-- When the first line is lost the second asks for the file, and sends it to its end though the first comes back; a
-- message that comes then is for the first.
file_goes_by_the_second_line :
    Plays acme_of_three_lines
    (both_are_up
    ++ signal Lost a2 []
    ∷ signal Tick a3 (block 0x80 request)
    ∷ metz_is_up
    ++ on a2 ack0 []
    ∷ on a1 (block 0x82 (nodal_message 0x20 "METZ" "PAUL" "LYON" (ebcdic "HI"))) ack0
    ∷ on a3 ack0 []
    ∷ on a2 ack0 (block 0x80 (nodal_message 0x20 "METZ" "PAUL" "LYON" (ebcdic "HI")))
    ∷ on a3 (block 0x80 permission) (block 0x81 (file 42 "ANNA"))
    ∷ on a3 (block 0x81 completion) ack0
    ∷ on a1 (block 0x83 (says "ANNA" "LIST")) (block 0x82 (hears "ANNA" "NJH002 0 FILES"))
    ∷ [])
unfolding Plays
file_goes_by_the_second_line = refl

-- METZ refuses the file on its first line. When that is lost the file is Ready, since it went by that line until then,
-- and the second asks for it at once.
refused_file_goes_by_the_second_line :
    Plays acme_of_three_lines
    (both_are_up
    ++ on a2 ack0 (block 0x80 request)
    ∷ on a2 (block 0x80 refusal) ack0
    ∷ signal Lost a2 []
    ∷ on a3 ack0 (block 0x80 request)
    ∷ [])
unfolding Plays
refused_file_goes_by_the_second_line = refl
