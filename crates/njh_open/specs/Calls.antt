-- What becomes of an OPEN that was sent (NJE over TCP/IP).
use Rattle.std.specs.Prelude.{ℕ, ◌==◌, if◌then◌else◌, Option, Some, None, length, nat_le}
use Rattle.njh_tcp.specs.Controls.{control_in}
use Rattle.njh_tcp.specs.declared.control.ControlRecord.{ControlRecord}
use Rattle.njh_tcp.specs.declared.control.ControlRecord.TheVariants.{Open, Ack, Nak}
use Rattle.njh_open.specs.Waits.{Wait, late_at}
use Rattle.njh_open.specs.declared.caller.CallOutcome.{CallOutcome}
use Rattle.njh_open.specs.declared.caller.CallOutcome.TheVariants.{Waits, Acknowledged, Refused, NoAnswer}

-- what came as an answer: whatever names an ACK or a NAK has
abbrev pub answered : Option ControlRecord → CallOutcome
answered (Some (Ack hosts)) = Acknowledged
answered (Some (Nak hosts reason)) = Refused (record { 0 = reason })
answered (Some (Open hosts)) = NoAnswer
answered None = NoAnswer

abbrev pub call_outcome : Wait → ℕ → CallOutcome
call_outcome wait now =
    if length wait.came == 33 then answered (control_in wait.came) else
    if nat_le (late_at wait) now then NoAnswer else Waits
