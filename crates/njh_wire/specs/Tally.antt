-- What a wire of a line counts of what passes on it.
use Rattle.std.specs.Prelude.{◌≡◌, ℕ, List, [], ◌∷◌}
use Rattle.njh_turns.specs.Wires.{WireAct, Answered, Sent, Unsent}
use Rattle.njh_turns.specs.Wires.{Came, Quiet, Pending, Prompted, Closed, Absent, Failed}
use Rattle.njh_wire.specs.Standing.{Standing, plus_bytes}

-- Of which line a wire is, how many bytes its reads answered, and how many bytes of frames it took to send.
pub record Tally : Type 0 where
  pub place : ℕ
  pub came : ℕ
  pub went : ℕ

abbrev pub tally : {C : Type 0} → Standing C → Tally
tally s = record { place = s.place; came = s.came; went = s.went }

-- Bytes that a read answered count, and those of a frame that was taken. Nothing else does.
abbrev pub tally_by : WireAct → Tally → Tally
tally_by (Answered (Came piece)) t = record t { came = plus_bytes t.came piece }
tally_by (Answered Quiet) t = t
tally_by (Answered Pending) t = t
tally_by (Answered Prompted) t = t
tally_by (Answered Closed) t = t
tally_by (Answered Absent) t = t
tally_by (Answered Failed) t = t
tally_by (Sent frame) t = record t { went = plus_bytes t.went frame }
tally_by (Unsent frame) t = t

abbrev pub tally_after : Tally → List WireAct → Tally
tally_after t [] = t
tally_after t (act ∷ acts) = tally_after (tally_by act t) acts

-- What passed between two standings of a wire is what it counted. Where nothing did, it is the wire of the same line
-- and both counts are as before.
abbrev pub IsTallied : {C : Type 0} → Standing C → Standing C → List WireAct → Type 0
IsTallied before after acts = tally_after (tally before) acts ≡ tally after
