-- Which inputs are answered.
use Rattle.std.specs.Prelude.{◌≡◌, true, false}
use Rattle.njh_bisync.specs.declared.frame.Control as frame
use Rattle.njh_line.specs.declared.Phase.TheVariants.{Down}
use Rattle.njh_line.specs.declared.config.Config.{Config}
use Rattle.njh_line.specs.declared.session.Session.{Session}
use Rattle.njh_line.specs.declared.table.SessionOutcome.{SessionOutcome}
use Rattle.njh_line.specs.declared.verdict.LineReply.TheVariants.{Nothing, Control, Next}
use Rattle.njh_line.specs.declared.verdict.Verdict.{Verdict}
use Rattle.njh_line.specs.LineTable.{Input, table_outcome}

-- Where the records act, the next block is sent, or ACK0 in its place.
abbrev pub IsAnsweredByNext : Verdict → Type 0
IsAnsweredByNext v = v.acts ≡ true → v.reply ≡ Next true

abbrev pub ActingIsAnswered : Type 0
ActingIsAnswered = (line : Config) (s : Session) (input : Input) → IsAnsweredByNext (table_outcome line input s).verdict

-- no record acts, and nothing or a control frame is sent
abbrev pub no_verdict : Verdict
no_verdict = record { ended = false; acts = false; reply = Nothing }

abbrev pub control_verdict : frame.Control → Verdict
control_verdict control = record { ended = false; acts = false; reply = Control control }

-- What comes does nothing, and the line is down; or a control frame is sent for it.
pub data LeavesDown (o : SessionOutcome) : Type 0 where
  does_nothing : o.verdict ≡ no_verdict → o.session.phase ≡ Down → LeavesDown o
  is_answered : (control : frame.Control) → o.verdict ≡ control_verdict control → LeavesDown o

-- So it is on a line that is down.
abbrev pub DownStaysDown : Type 0
DownStaysDown = (line : Config) (s : Session) (input : Input) → s.phase ≡ Down → LeavesDown (table_outcome line input s)
