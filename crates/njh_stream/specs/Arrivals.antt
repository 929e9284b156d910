-- What the code's arrivals are.
use Rattle.std.specs.Prelude.{ℕ, ◌≤◌, List, length}
use Rattle.njh_block.specs.Blocks.{rcb_of}
use Rattle.njh_block.specs.Codes.{kind_of}
use Rattle.njh_block.specs.declared.answer.Answer.{Answer}
use Rattle.njh_block.specs.declared.rcb.ControlRcb.{ControlRcb}
use Rattle.njh_block.specs.declared.rcb.Rcb.{Rcb}
use Rattle.njh_spool.specs.CustomerSpool.{CustomerSpool}
use Rattle.njh_spool.specs.Spools.{spool_at}
use Rattle.njh_table.specs.declared.LineId.{LineId}
use Rattle.njh_table.specs.TableFile.{TableFile, customer_at, entry_of}
use Rattle.njh_stream.specs.declared.receiver.Receiver.{Receiver}
use Rattle.njh_stream.specs.declared.arrival.Arrival as code
use Rattle.njh_stream.specs.declared.arrival.Arrival.TheVariants as variants
use Rattle.njh_stream.specs.Receiving.{Arrival, Request, Data, Long, Abort, ReceiverStep, received_arrival}

abbrev pub arrival_of : code.Arrival → Arrival
arrival_of variants.Request = Request
arrival_of (variants.Record srcb bytes) = Data srcb bytes.now
arrival_of variants.TooLong = Long
arrival_of variants.Abort = Abort

-- a record that a block can bring
abbrev pub IsShort : Arrival → Type 0
IsShort Request = Unit {0}
IsShort (Data srcb bytes) = length bytes ≤ 256
IsShort Long = Unit {0}
IsShort Abort = Unit {0}

-- what an arrival on a stream of a line does, by the tables and the customers' spools
abbrev pub received_on : TableFile → List CustomerSpool → LineId → ℕ → Receiver → Arrival → ReceiverStep
received_on tables spools id stream receiver arrival =
    received_arrival (entry_of (customer_at tables id.customer)) id.number (kind_of stream) receiver arrival
    (spool_at id.customer spools)

-- an answer carries the RCB of its stream
abbrev pub answer_on : ℕ → ControlRcb → Answer
answer_on stream rcb = let of_stream : Rcb = record { byte = rcb_of stream } in record { rcb = rcb; stream = of_stream }
