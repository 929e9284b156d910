-- The line table (IBM GA27-3004): what each input does in each phase, and which frame answers it.
use Rattle.std.specs.Prelude.{ℕ, ◌+◌, true, false, min, Result, Ok, Err, ◌==◌, cond}
use Rattle.njh_bisync.specs.declared.frame.Control.TheVariants as control
use Rattle.njh_header.specs.SignOns.{SignOn}
use Rattle.njh_line.specs.declared.Phase.{Phase}
use Rattle.njh_line.specs.declared.Phase.TheVariants.{Down, Calling, Answered, SentI, Up}
use Rattle.njh_line.specs.declared.config.Config.{Config}
use Rattle.njh_table.specs.declared.Role.{Role}
use Rattle.njh_table.specs.declared.Role.TheVariants.{Call, Answer}
use Rattle.njh_line.specs.declared.counts.Counted.TheVariants.{Acts, Repeats, OutOfSequence}
use Rattle.njh_line.specs.declared.ending.SessionEnd.{SessionEnd}
use Rattle.njh_line.specs.declared.ending.SessionEnd.TheVariants as ends
use Rattle.njh_line.specs.declared.input.Input as declared_input
use Rattle.njh_line.specs.declared.input.Input.TheVariants as came
use Rattle.njh_line.specs.declared.opening.Opening.TheVariants.{Initial, Response}
use Rattle.njh_line.specs.declared.refusal.Refusal.{Refusal}
use Rattle.njh_line.specs.declared.session.Session.{Session}
use Rattle.njh_line.specs.declared.table.SessionOutcome.{SessionOutcome}
use Rattle.njh_line.specs.declared.verdict.LineReply.{LineReply}
use Rattle.njh_line.specs.declared.verdict.LineReply.TheVariants.{Nothing, Control, Again, SignOn as SendSignOn}
use Rattle.njh_line.specs.declared.verdict.LineReply.TheVariants.{Next, Sequence}
use Rattle.njh_line.specs.Counts.{count_verdict, expected_count, after_acting}
use Rattle.njh_line.specs.Openings.{First, fitting, shown_first}
use Rattle.njh_line.specs.Sessions.{entered_session, acknowledged_session, down_session, ended_session, refused_session}

-- What comes to a line.
pub data Input : Type 0 where
  Enquiry : Input
  Ack0 : Input
  Nak : Input
  Eot : Input
  Lost : Input
  Tick : Input
  Garbled : Input
  Spoiled : Input
  Bad : Input
  Block : (bcb : ℕ) → (fcs : ℕ × ℕ) → First → Input

-- an input whose bytes are lent
abbrev pub input_value : declared_input.Input → Input
input_value came.Enquiry = Enquiry
input_value came.Ack0 = Ack0
input_value came.Nak = Nak
input_value came.Eot = Eot
input_value came.Lost = Lost
input_value came.Tick = Tick
input_value came.Garbled = Garbled
input_value came.Spoiled = Spoiled
input_value came.Bad = Bad
input_value (came.Block bcb fcs first) = Block bcb fcs (shown_first first)

-- ---- the cells of the table: for a session, the session after the input, and what the input does

abbrev pub with_reply : LineReply → Session → SessionOutcome
with_reply reply s = record { session = s; verdict = record { ended = false; acts = false; reply = reply } }

abbrev pub none : Session → SessionOutcome
none s = with_reply Nothing s

abbrev pub enquiry : Session → SessionOutcome
enquiry s = with_reply (Control control.Enquiry) s

abbrev pub ack0 : Session → SessionOutcome
ack0 s = with_reply (Control control.Ack0) s

-- the line goes down, where it wasn't up
abbrev pub hang_up : Session → SessionOutcome
hang_up s = none (down_session s)

-- the session ends so, and something or nothing is sent for it
abbrev pub end_with : SessionEnd → LineReply → Session → SessionOutcome
end_with why reply s =
    record { session = ended_session why s; verdict = record { ended = true; acts = false; reply = reply } }

abbrev pub end : SessionEnd → Session → SessionOutcome
end why s = end_with why Nothing s

-- a try: five at the most
abbrev pub try_with : LineReply → Session → SessionOutcome
try_with reply s = cond (s.tries == 5) (end ends.Tries s) (with_reply reply (record s { tries = s.tries + 1 }))

abbrev pub try_again : Session → SessionOutcome
try_again s = try_with Again s

abbrev pub try_nak : Session → SessionOutcome
try_nak s = try_with (Control control.Nak) s

-- the peer calls, and the end that answers does
abbrev pub contact : Role → Session → SessionOutcome
contact Call s = none s
contact Answer s = ack0 (entered_session Answered s)

-- the session ends, and the peer calls
abbrev pub end_and_contact : Role → Session → SessionOutcome
end_and_contact role s =
    let x = contact role (ended_session ends.Contact s) in
    record { session = x.session; verdict = record x.verdict { ended = true } }

-- the end that calls does
abbrev pub call : Role → Session → SessionOutcome
call Call s = enquiry (record s { phase = Calling })
call Answer s = none s

-- the I block
abbrev pub i_block : Session → SessionOutcome
i_block s = with_reply (SendSignOn Initial) (entered_session SentI s)

-- the peer acknowledges: the next block, or nothing and the turn is the hub's
abbrev pub next_or_turn : Session → SessionOutcome
next_or_turn s = with_reply (Next false) (acknowledged_session s)

-- the next block where the turn is the hub's, else a try
abbrev pub next_in_turn : Session → SessionOutcome
next_in_turn s = cond s.has_turn (with_reply (Next true) s) (try_nak s)

-- the count rule, before a cell for a block that is acted on
abbrev pub by_count : ℕ → ℕ × ℕ → (Session → SessionOutcome) → Session → SessionOutcome
by_count bcb fcs acted s =
    elim (count_verdict s.last_bcb bcb) [
      | Acts ↦ acted (after_acting bcb fcs s)
      | Repeats ↦ try_again s
      | OutOfSequence ↦ end_with ends.OutOfSequence (Sequence (0x80 + expected_count s.last_bcb)) s
    ]

-- none came that fits where a sign-on was due
abbrev pub refuse : Refusal → Session → SessionOutcome
refuse why s = none (refused_session why s)

-- a sign-on that fits, or why none does
abbrev pub signed_on : LineReply → Config → Result SignOn Refusal → Session → SessionOutcome
signed_on reply line (Ok x) s = with_reply reply (record s { phase = Up; size = min line.block x.block })
signed_on reply line (Err why) s = refuse why s

-- an I that fits: the J block
abbrev pub i_sign_on : Config → First → Session → SessionOutcome
i_sign_on line first s = signed_on (SendSignOn Response) line (fitting Initial line first) s

-- a J that fits: the next block
abbrev pub j_sign_on : Config → First → Session → SessionOutcome
j_sign_on line first s = signed_on (Next true) line (fitting Response line first) s

-- the records act: the next block
abbrev pub act : Session → SessionOutcome
act s = record { session = s; verdict = record { ended = false; acts = true; reply = Next true } }

-- ---- the table

-- the cell of a phase in a row
abbrev pub cell : Phase → (down calling answered sent_i up : SessionOutcome) → SessionOutcome
cell Down down calling answered sent_i up = down
cell Calling down calling answered sent_i up = calling
cell Answered down calling answered sent_i up = answered
cell SentI down calling answered sent_i up = sent_i
cell Up down calling answered sent_i up = up

abbrev pub row : (down calling answered sent_i up : Session → SessionOutcome) → Session → SessionOutcome
row down calling answered sent_i up s = cell s.phase (down s) (calling s) (answered s) (sent_i s) (up s)

-- what a block that is acted on does: a row of its own
abbrev pub acting : Config → First → Session → SessionOutcome
acting line first s = row none none (i_sign_on line first) (j_sign_on line first) act s

-- a row for each input, and in it a cell for each phase: Down, Calling, Answered, SentI, Up
unfoldable pub table_outcome : Config → Input → Session → SessionOutcome
table_outcome line Enquiry s = row (contact line.role) none ack0 none (end_and_contact line.role) s
table_outcome line Ack0 s = row none i_block none none next_or_turn s
table_outcome line Nak s = row none none try_again try_again try_again s
table_outcome line Eot s = row none hang_up hang_up hang_up (end ends.Eot) s
table_outcome line Lost s = row none hang_up hang_up hang_up (end ends.Lost) s
table_outcome line (Block bcb fcs first) s =
    row none none (by_count bcb fcs (i_sign_on line first)) (by_count bcb fcs (j_sign_on line first))
    (by_count bcb fcs act) s
table_outcome line Spoiled s = row none none try_nak try_nak try_nak s
table_outcome line Bad s = row none none try_nak try_nak try_nak s
table_outcome line Garbled s = row none none try_nak try_nak try_nak s
table_outcome line Tick s = row (call line.role) enquiry try_nak try_nak next_in_turn s
