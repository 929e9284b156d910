-- What a frame is whose text is lent, and what a call of a reader gives.
use Rattle.std.specs.Prelude.{Result, Ok, Err, IfOk}
use Rattle.njh_tcp.specs.Carried as carried
use Rattle.njh_tcp.specs.Carried.{Carried, IsShort}
use Rattle.njh_tcp.specs.Hearing.{Outcome}
use Rattle.njh_tcp.specs.declared.fault.TtbFault.{TtbFault}
use Rattle.njh_tcp.specs.declared.frame.TcpFrame.{TcpFrame}
use Rattle.njh_tcp.specs.declared.frame.TcpFrame.TheVariants.{Enquiry, Ack0, Text}

abbrev pub carried_of : TcpFrame → Carried
carried_of Enquiry = carried.Enquiry
carried_of Ack0 = carried.Ack0
carried_of (Text lent) = carried.Text lent.now

abbrev pub outcome_of : Result TcpFrame TtbFault → Outcome
outcome_of (Ok frame) = Ok (carried_of frame)
outcome_of (Err fault) = Err fault

-- what is given is no longer than a text may be
abbrev pub IsShortOutcome : Result TcpFrame TtbFault → Type 0
IsShortOutcome told = IfOk told (λ frame. IsShort (carried_of frame))
