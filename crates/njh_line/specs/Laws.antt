-- What holds of the line table.
use Rattle.std.specs.Prelude.{ℕ, ◌≡◌, ◌==◌, Bool, true, false, Option, Some, cond}
use Rattle.njh_line.specs.declared.Phase.{Phase}
use Rattle.njh_line.specs.declared.Phase.TheVariants.{Up}
use Rattle.njh_line.specs.declared.counts.Counted.{Counted}
use Rattle.njh_line.specs.declared.counts.Counted.TheVariants.{Acts}
use Rattle.njh_line.specs.declared.session.Session.{Session}
use Rattle.njh_line.specs.declared.table.SessionOutcome.{SessionOutcome}
use Rattle.njh_line.specs.Counts.{count_verdict, bcb_type}
use Rattle.njh_line.specs.LineTable.{Input, Ack0, Garbled, Spoiled, Bad, Block}
use Rattle.njh_line.specs.Lines.{LineState}

-- a text to be disregarded, a text that is no block, and a block whose check failed
abbrev pub is_disregarded : Input → Bool
is_disregarded Spoiled = true
is_disregarded Bad = true
is_disregarded Garbled = true
is_disregarded _ = false

-- Nothing of the session moved but its tries: not its phase, turn, BCB, count, size, either FCS, nor the count of
-- refusals, nor why the last session ended or was refused. It goes on, and no record acts.
pub record MovesTriesAlone (s : Session) (x : SessionOutcome) : Type 0 where
  pub session : x.session ≡ record s { tries = x.session.tries }
  pub ended : x.verdict.ended ≡ false
  pub acts : x.verdict.acts ≡ false

-- The rest of the line is the same.
pub record KeepsRest (line after : LineState) : Type 0 where
  pub config : after.config ≡ line.config
  pub last : after.last ≡ line.last
  pub answers : after.answers ≡ line.answers
  pub messages : after.messages ≡ line.messages

abbrev pub is_up : Phase → Bool
is_up Up = true
is_up _ = false

abbrev pub is_acting : Counted → Bool
is_acting Acts = true
is_acting _ = false

-- a block that is acted on, and ACK0 where the line is up
abbrev pub sets_tries : Input → Session → Bool
sets_tries Ack0 s = is_up s.phase
sets_tries (Block bcb fcs first) s = is_acting (count_verdict s.last_bcb bcb)
sets_tries _ s = false

-- the last BCB, once a block with a checked count acts
abbrev pub last_bcb_by : Counted → ℕ → Option ℕ → Option ℕ
last_bcb_by Acts bcb last = cond (bcb_type bcb == 1) last (Some bcb)
last_bcb_by _ bcb last = last

abbrev pub last_bcb_after : Input → Session → Option ℕ
last_bcb_after (Block bcb fcs first) s = last_bcb_by (count_verdict s.last_bcb bcb) bcb s.last_bcb
last_bcb_after _ s = s.last_bcb
