use Rattle.std.proofs.Common.{◌≡◌, ◌++◌, length}
use Rattle.std.specs.Prelude.{Some}
use Rattle.njh_bisync.specs.ByteSteps.{Fed, feed_outcome}
use Rattle.njh_bisync.specs.Reading.{Nothing}
use Rattle.njh_bisync.specs.declared.frame.Control.TheVariants as control
use Rattle.njh_tcp.specs.Carried.{Carried, Enquiry, Ack0, Text, IsShort}
use Rattle.njh_tcp.specs.Written.{line_bytes, frame_of}
use Rattle.njh_tcp.proofs.laws.line_reads_the_same.Goals as goal

-- a frame that was read whole
abbrev whole : Carried → Fed
whole carried = record { taken = length (line_bytes carried); frame = Some (frame_of carried); rest = Nothing }

pub returns : goal.returns
returns c = λ carried more.
    elim carried as (λ k. IsShort k → feed_outcome Nothing (line_bytes k ++ more) ≡ whole k) [
      | Enquiry ↦ λ _. c.control_reads_back.ensures.fed control.Enquiry more
      | Ack0 ↦ λ _. c.control_reads_back.ensures.fed control.Ack0 more
      | Text text ↦ λ short. c.text_reads_back.ensures.fed text more short
    ]
