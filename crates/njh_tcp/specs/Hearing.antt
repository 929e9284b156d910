-- Which TTRs are given, by whether texts have begun (NJE over TCP/IP, the contact).
use Rattle.std.specs.Prelude.{ℕ, List, [], ◌∷◌, Option, Some, None, Result, Ok, Err}
use Rattle.std.specs.List.{cons_option}
use Rattle.njh_tcp.specs.Carried.{Carried, Enquiry, Ack0, Text, carried_by}
use Rattle.njh_tcp.specs.Faults.{strange}
use Rattle.njh_tcp.specs.Blocks.{Item, Whole, Wrong}
use Rattle.njh_tcp.specs.declared.contact.Contact.{Contact}
use Rattle.njh_tcp.specs.declared.contact.Contact.TheVariants.{Called, Calling, Over}
use Rattle.njh_tcp.specs.declared.fault.TtbFault.{TtbFault}

-- what is given, or, last, why nothing more is
abbrev pub Outcome : Type 0
Outcome = Result Carried TtbFault

pub data Hearing : Type 0 where
  Hears : Contact → Hearing
  Refused : TtbFault → Hearing

-- what is given of an item, if anything, and how it is heard on
pub record Heard : Type 0 where
  pub outcome : Option Outcome
  pub hearing : Hearing

abbrev pub given : Carried → Contact → Heard
given carried contact = record { outcome = Some (Ok carried); hearing = Hears contact }

abbrev pub absorbed : Contact → Heard
absorbed contact = record { outcome = None; hearing = Hears contact }

abbrev pub refused : TtbFault → Heard
refused fault = record { outcome = Some (Err fault); hearing = Refused fault }

-- A text is given. An enquiry is given at the end that was dialled, before any text, and refused elsewhere. An Ack0 is
-- given at the end that dialled, before any text, and elsewhere it is a keep-alive. All else is refused.
abbrev pub heard_as : Contact → List ℕ → Option Carried → Heard
heard_as contact held (Some (Text text)) = given (Text text) Over
heard_as Called held (Some Enquiry) = given Enquiry Called
heard_as Calling held (Some Enquiry) = refused (strange held)
heard_as Over held (Some Enquiry) = refused (strange held)
heard_as Calling held (Some Ack0) = given Ack0 Calling
heard_as Called held (Some Ack0) = absorbed Called
heard_as Over held (Some Ack0) = absorbed Over
heard_as contact held None = refused (strange held)

-- After a refusal nothing is given.
abbrev pub heard_of : Hearing → Item → Heard
heard_of (Refused fault) item = record { outcome = None; hearing = Refused fault }
heard_of (Hears contact) (Whole held) = heard_as contact held (carried_by held)
heard_of (Hears contact) (Wrong fault) = refused fault

-- the same of items, one after another
abbrev pub outcomes_of : Hearing → List Item → List Outcome
outcomes_of hearing [] = []
outcomes_of hearing (item ∷ items) =
    cons_option (heard_of hearing item).outcome (outcomes_of (heard_of hearing item).hearing items)

abbrev pub hearing_after : Hearing → List Item → Hearing
hearing_after hearing [] = hearing
hearing_after hearing (item ∷ items) = hearing_after (heard_of hearing item).hearing items
