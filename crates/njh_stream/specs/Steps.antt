-- What a step of a stream to the hub is.
use Rattle.std.specs.Prelude.{◌≡◌, ℕ, List, slice_set}
use Rattle.std.specs.Option.{option_map}
use Rattle.njh_spool.specs.CustomerSpool.{CustomerSpool}
use Rattle.njh_stream.specs.declared.receiver.Receiver.{Receiver}
use Rattle.njh_stream.specs.declared.receiver.StreamStep.{StreamStep}
use Rattle.njh_stream.specs.Arrivals.{answer_on}
use Rattle.njh_stream.specs.Receiving.{ReceiverStep}

-- A step of customer c's stream is as an arrival does: what the stream is about then, the answer with the stream's RCB,
-- what the owner of the file is told, and the customers' files.
pub record IsStepOf (done : ReceiverStep) (stream c : ℕ) (old new : List CustomerSpool) (after : Receiver)
    (step : StreamStep) : Type 0 where
  pub receiver : after ≡ done.receiver
  pub answer : step.answer ≡ option_map (answer_on stream) done.answer
  pub notice : step.notice ≡ done.notice
  pub spool : new ≡ slice_set old c done.spool
