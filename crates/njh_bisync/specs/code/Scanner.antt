-- What the scanner and what it finds mean.
use Rattle.std.specs.Prelude.{ℕ, Bool, true, false, List, Option, Some, None}
use Rattle.njh_bisync.specs.Frames as grammar
use Rattle.njh_bisync.specs.Frames.{Received}
use Rattle.njh_bisync.specs.Reading.{Rest, Nothing, AfterSoh, AfterDle, InText}
use Rattle.njh_bisync.specs.declared.scanner.Place.{Place}
use Rattle.njh_bisync.specs.declared.scanner.Place.TheVariants.{Between, Soh, Dle, Inside, InsideDle}
use Rattle.njh_bisync.specs.declared.scanner.Ended.{Ended}
use Rattle.njh_bisync.specs.declared.scanner.Ended.TheVariants as ended
use Rattle.njh_bisync.specs.declared.scanner.Scanner.{Scanner}

-- the data of a text, if it is good so far
abbrev pub good_data : Bool → List ℕ → Option (List ℕ)
good_data true held = None
good_data false held = Some held

abbrev pub rest_at : Place → Option (List ℕ) → Rest
rest_at Between good = Nothing
rest_at Soh good = AfterSoh
rest_at Dle good = AfterDle
rest_at Inside good = InText good false
rest_at InsideDle good = InText good true

abbrev pub rest_in : Scanner → Rest
rest_in scanner = rest_at scanner.place (good_data scanner.spoiled scanner.held.items)

abbrev pub frame_in : List ℕ → Ended → Received
frame_in held ended.Enquiry = grammar.Enquiry
frame_in held ended.Ack0 = grammar.Ack0
frame_in held ended.Nak = grammar.Nak
frame_in held ended.Eot = grammar.Eot
frame_in held ended.Text = grammar.Text held
frame_in held ended.Spoiled = grammar.Spoiled
