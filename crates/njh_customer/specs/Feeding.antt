-- Bytes on one line: each frame that they make whole acts at once. The bytes come one by one, so it doesn't matter how
-- they were cut.
use Rattle.std.specs.Prelude.{ℕ, ◌+◌, List, [], ◌∷◌, ◌++◌, Option, Some, None}
use Rattle.njh_bisync.specs.Frames.{Received}
use Rattle.njh_bisync.specs.Reading.{Rest}
use Rattle.njh_bisync.specs.ByteSteps.{rest_step}
use Rattle.njh_customer.specs.Customer.{Customer}
use Rattle.njh_customer.specs.Alone.{CustomerStep, after_frame}

-- a frame acts, if one ended
abbrev pub acted_on : ℕ → Option Received → Customer → CustomerStep
acted_on l None c = record { after = c; frame = [] }
acted_on l (Some received) c = after_frame l received c

-- After one byte: what has come of the next frame, the customer, and the frame that was sent.
pub record ByteStep : Type 0 where
  pub rest : Rest
  pub after : Customer
  pub frame : List ℕ

abbrev pub byte_step : Rest → Customer → ℕ → ℕ → ByteStep
byte_step rest c l byte =
    let t = rest_step rest byte in
    let step = acted_on l t.frame c in
    record { rest = t.rest; after = step.after; frame = step.frame }

-- What one step takes of a piece: the bytes up to the end of the first frame that is answered, or all.
pub record Taking : Type 0 where
  pub rest : Rest
  pub after : Customer
  pub frame : List ℕ
  pub taken : ℕ

abbrev pub later_by : ℕ → Taking → Taking
later_by n t = record t { taken = n + t.taken }

abbrev pub or_later : ℕ → Rest → CustomerStep → Taking → Taking
or_later n rest step later =
    elim step.frame [
      | [] ↦ later_by n later
      | b ∷ bytes ↦ record { rest = rest; after = step.after; frame = b ∷ bytes; taken = n }
    ]

abbrev pub take_step : Rest → Customer → ℕ → List ℕ → Taking
take_step rest c l [] = record { rest = rest; after = c; frame = []; taken = 0 }
take_step rest c l (byte ∷ bytes) =
    let x = byte_step rest c l byte in
    or_later 1 x.rest (record { after = x.after; frame = x.frame }) (take_step x.rest x.after l bytes)

-- All that bytes on a line lead to, with the frames that are sent, each with its line.
pub record LineRun : Type 0 where
  pub rest : Rest
  pub after : Customer
  pub sent : List (ℕ × List ℕ)

-- a frame with its line, if one was sent
abbrev pub sent_on : ℕ → List ℕ → List (ℕ × List ℕ)
sent_on l [] = []
sent_on l (b ∷ frame) = (l, b ∷ frame) ∷ []

abbrev pub sent_first : List (ℕ × List ℕ) → LineRun → LineRun
sent_first front r = record r { sent = front ++ r.sent }

abbrev pub bytes_run : Rest → Customer → ℕ → List ℕ → LineRun
bytes_run rest c l [] = record { rest = rest; after = c; sent = [] }
bytes_run rest c l (byte ∷ bytes) =
    let x = byte_step rest c l byte in
    sent_first (sent_on l x.frame) (bytes_run x.rest x.after l bytes)
