-- Why a session ends by an input, and why a sign-on is refused: by what comes, and by the session before it.
use Rattle.std.specs.Prelude.{◌≡◌, ℕ, Bool, Option, Some, None, Result, Ok, Err, is_some, ◌==◌, ◌&&◌, cond}
use Rattle.njh_line.specs.declared.Phase.{Phase}
use Rattle.njh_line.specs.declared.Phase.TheVariants.{Answered, SentI}
use Rattle.njh_line.specs.declared.config.Config.{Config}
use Rattle.njh_line.specs.declared.counts.Counted.{Counted}
use Rattle.njh_line.specs.declared.counts.Counted.TheVariants.{Acts, Repeats, OutOfSequence}
use Rattle.njh_line.specs.declared.ending.SessionEnd.{SessionEnd}
use Rattle.njh_line.specs.declared.ending.SessionEnd.TheVariants as ends
use Rattle.njh_line.specs.declared.opening.Opening.TheVariants.{Initial, Response}
use Rattle.njh_line.specs.declared.refusal.Refusal.{Refusal}
use Rattle.njh_line.specs.declared.session.Session.{Session}
use Rattle.njh_line.specs.declared.table.SessionOutcome.{SessionOutcome}
use Rattle.njh_line.specs.Counts.{count_verdict}
use Rattle.njh_line.specs.Laws.{is_acting, is_up}
use Rattle.njh_line.specs.LineTable.{Input, Enquiry, Ack0, Nak, Eot, Lost, Tick, Garbled, Spoiled, Bad, Block}
use Rattle.njh_line.specs.LineTable.{table_outcome}
use Rattle.njh_line.specs.Openings.{First, fitting}
use Rattle.njh_line.specs.Sessions.{in_session, one_refusal_more}

-- ---- by an input (IBM GA27-3004)

abbrev pub where_so : Bool → SessionEnd → Option SessionEnd
where_so so end = cond so (Some end) None

-- where five tries were made in a session, one more is due
abbrev pub tries_end : Session → Option SessionEnd
tries_end s = where_so (in_session s.phase && (s.tries == 5)) ends.Tries

-- an end that has the turn while it is up doesn't wait, and a tick is no try
abbrev pub tick_end : Session → Option SessionEnd
tick_end s = cond (is_up s.phase && s.has_turn) None (tries_end s)

-- by the count rule, in a session that made so many tries
abbrev pub count_end : Counted → (tries : ℕ) → Option SessionEnd
count_end Acts tries = None
count_end Repeats tries = where_so (tries == 5) ends.Tries
count_end OutOfSequence tries = Some ends.OutOfSequence

-- the end that an input makes, if it makes one
abbrev pub end_by : Input → Session → Option SessionEnd
end_by Enquiry s = where_so (is_up s.phase) ends.Contact
end_by Ack0 s = None
end_by Nak s = tries_end s
end_by Eot s = where_so (is_up s.phase) ends.Eot
end_by Lost s = where_so (is_up s.phase) ends.Lost
end_by Tick s = tick_end s
end_by Garbled s = tries_end s
end_by Spoiled s = tries_end s
end_by Bad s = tries_end s
end_by (Block bcb fcs first) s = cond (in_session s.phase) (count_end (count_verdict s.last_bcb bcb) s.tries) None

-- ---- a refusal

abbrev pub refusal_in : {A : Type 0} → Result A Refusal → Option Refusal
refusal_in (Ok x) = None
refusal_in (Err why) = Some why

-- why a block is refused, if it is acted on where a sign-on is due
abbrev pub block_refusal : Phase → Counted → Config → First → Option Refusal
block_refusal Answered n line first = cond (is_acting n) (refusal_in (fitting Initial line first)) None
block_refusal SentI n line first = cond (is_acting n) (refusal_in (fitting Response line first)) None
block_refusal _ n line first = None

-- the refusal that an input makes, if it makes one
abbrev pub refusal_by : Config → Input → Session → Option Refusal
refusal_by line (Block bcb fcs first) s = block_refusal s.phase (count_verdict s.last_bcb bcb) line first
refusal_by line _ s = None

-- how many were refused, once an input came
abbrev pub refusals_after : Config → Input → Session → ℕ
refusals_after line input s = cond (is_some (refusal_by line input s)) (one_refusal_more s.refusals) s.refusals

-- ---- what is kept of them

-- what comes now, or what was kept
abbrev pub latest : {A : Type 0} → Option A → Option A → Option A
latest (Some x) kept = Some x
latest None kept = kept

-- A session is over exactly where an end is made, and it is kept until the next one.
pub record TellsEnd (s : Session) (end : Option SessionEnd) (x : SessionOutcome) : Type 0 where
  pub over : x.verdict.ended ≡ is_some end
  pub last : x.session.last_end ≡ latest end s.last_end

abbrev pub EndsAreTold : Type 0
EndsAreTold = (line : Config) (s : Session) (input : Input) → TellsEnd s (end_by input s) (table_outcome line input s)

abbrev pub RefusalsAreTold : Type 0
RefusalsAreTold = (line : Config) (s : Session) (input : Input)
    → (table_outcome line input s).session.last_refusal ≡ latest (refusal_by line input s) s.last_refusal
