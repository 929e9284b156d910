-- What the scanner and what it finds mean.
use Rattle.std.specs.Prelude.{ℕ, List, [], drop, Option, Some, None, Result, Ok, Err}
use Rattle.njh_tcp.specs.Carried as carried
use Rattle.njh_tcp.specs.Carried.{Carried}
use Rattle.njh_tcp.specs.Blocks.{Wrong}
use Rattle.njh_tcp.specs.Hearing.{Outcome, Hearing, Hears, Refused}
use Rattle.njh_tcp.specs.ByteSteps.{PartStep, goes_to, ends_with, Fed, ahead, feed_outcome}
use Rattle.njh_tcp.specs.Reading.{Part, Rest, Open, Shut, InHead, InTtrHead, InTtr}
use Rattle.njh_tcp.specs.declared.contact.Contact.{Contact}
use Rattle.njh_tcp.specs.declared.contact.Contact.TheVariants.{Over}
use Rattle.njh_tcp.specs.declared.fault.TtbFault.{TtbFault}
use Rattle.njh_tcp.specs.declared.place.Place.{Place}
use Rattle.njh_tcp.specs.declared.place.Place.TheVariants.{Head, TtrHead, Ttr}
use Rattle.njh_tcp.specs.declared.ended.Kind.{Kind}
use Rattle.njh_tcp.specs.declared.ended.Kind.TheVariants as kind
use Rattle.njh_tcp.specs.declared.ended.Ended.{Ended}
use Rattle.njh_tcp.specs.declared.ended.Ended.TheVariants as ended

-- the part of which so much has come
abbrev pub part_at : Place → List ℕ → List ℕ → Part
part_at Head head held = InHead head
part_at (TtrHead behind) head held = InTtrHead behind head
part_at (Ttr behind size) head held = InTtr behind size held

abbrev pub rest_at : Result Place TtbFault → Contact → List ℕ → List ℕ → Rest
rest_at (Ok place) contact head held = Open contact (part_at place head held)
rest_at (Err fault) contact head held = Shut fault

-- what a place behind a whole head, or a fault there, is as a step
abbrev pub step_to : Result Place TtbFault → PartStep
step_to (Ok place) = goes_to (part_at place [] [])
step_to (Err fault) = ends_with (Wrong fault) (InHead [])

-- what data of a kind carry
abbrev pub carried_as : List ℕ → Kind → Option Carried
carried_as held kind.Enquiry = Some carried.Enquiry
carried_as held kind.Ack0 = Some carried.Ack0
carried_as held kind.Text = Some (carried.Text (drop 2 held))
carried_as held kind.Strange = None

-- what ended, while the data of a TTR are held
abbrev pub outcome_in : List ℕ → Ended → Outcome
outcome_in held ended.Enquiry = Ok carried.Enquiry
outcome_in held ended.Ack0 = Ok carried.Ack0
outcome_in held ended.Text = Ok (carried.Text (drop 2 held))
outcome_in held (ended.Wrong fault) = Err fault

-- who hears on behind it
abbrev pub hearing_on : Contact → Option Ended → Hearing
hearing_on contact None = Hears contact
hearing_on contact (Some ended.Enquiry) = Hears contact
hearing_on contact (Some ended.Ack0) = Hears contact
hearing_on contact (Some ended.Text) = Hears Over
hearing_on contact (Some (ended.Wrong fault)) = Refused fault

-- the rest then, where the place behind the TTR was set already
abbrev pub heard_rest : Hearing → Rest → Rest
heard_rest (Hears contact) (Open other part) = Open contact part
heard_rest (Hears contact) (Shut fault) = Shut fault
heard_rest (Refused fault) rest = Shut fault

-- what is taken of a piece of which so much was taken first, with this outcome, or none, and this rest then
abbrev pub fed_on : ℕ → Option Outcome → Rest → List ℕ → Fed
fed_on n (Some outcome) rest piece = record { taken = n; outcome = Some outcome; rest = rest }
fed_on n None rest piece = ahead n (feed_outcome rest (drop n piece))
