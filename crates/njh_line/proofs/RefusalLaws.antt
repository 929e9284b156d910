-- Which inputs add a refusal, and why it is one.
use Rattle.std.proofs.Common.{◌≡◌, ℕ, ◌+◌, Bool, true, false, Option, None, Result, Ok, Err, cond, ◌==◌, is_some, refl}
use Rattle.njh_bisync.specs.declared.frame.Control.TheVariants as control
use Rattle.njh_header.specs.SignOns.{SignOn}
use Rattle.njh_line.specs.declared.Phase.{Phase}
use Rattle.njh_line.specs.declared.config.Config.{Config}
use Rattle.njh_table.specs.declared.Role.{Role}
use Rattle.njh_table.specs.declared.Role.TheVariants.{Call, Answer}
use Rattle.njh_line.specs.declared.counts.Counted.{Counted}
use Rattle.njh_line.specs.declared.counts.Counted.TheVariants.{Acts, Repeats, OutOfSequence}
use Rattle.njh_line.specs.declared.ending.SessionEnd.TheVariants as why
use Rattle.njh_line.specs.declared.opening.Opening.TheVariants.{Initial, Response}
use Rattle.njh_line.specs.declared.refusal.Refusal.{Refusal}
use Rattle.njh_line.specs.declared.session.Session.{Session}
use Rattle.njh_line.specs.declared.table.SessionOutcome.{SessionOutcome}
use Rattle.njh_line.specs.declared.verdict.LineReply.{LineReply}
use Rattle.njh_line.specs.declared.verdict.LineReply.TheVariants.{Again, Control, Next}
use Rattle.njh_line.specs.Counts.{after_acting, count_verdict}
use Rattle.njh_line.specs.Ends.{RefusalsAreTold, block_refusal, latest, refusal_by, refusal_in, refusals_after}
use Rattle.njh_line.specs.Laws.{is_acting}
use Rattle.njh_line.specs.LineTable.{Input, Enquiry, Ack0, Nak, Eot, Lost, Tick, Garbled, Spoiled, Bad, Block}
use Rattle.njh_line.specs.LineTable.{table_outcome, call, cell, contact, end, end_and_contact, end_with, none}
use Rattle.njh_line.specs.LineTable.{signed_on, try_again, try_with, with_reply}
use Rattle.njh_line.specs.Openings.{fitting}
use Rattle.njh_line.specs.Sessions.{one_refusal_more}
use Rattle.njh_line.proofs.TableLaws.{every}

-- This refusal more, or none.
record Refuses (refusal : Option Refusal) (s : Session) (x : SessionOutcome) : Type 0 where
  pub count : x.session.refusals ≡ cond (is_some refusal) (one_refusal_more s.refusals) s.refusals
  pub told : x.session.last_refusal ≡ latest refusal s.last_refusal

abbrev RefusesNone : Session → SessionOutcome → Type 0
RefusesNone s x = Refuses None s x

try_keeps : (five : Bool) (reply : LineReply) (s : Session)
    → RefusesNone s (cond five (end why.Tries s) (with_reply reply (record s { tries = s.tries + 1 })))
try_keeps true reply s = record { count = refl; told = refl }
try_keeps false reply s = record { count = refl; told = refl }

trying_keeps : (p : Phase) (reply : LineReply) (s : Session)
    → RefusesNone s (cell p (none s) (none s) (try_with reply s) (try_with reply s) (try_with reply s))
trying_keeps p reply s =
    let try = try_keeps (s.tries == 5) reply s in
    let same : RefusesNone s (none s) = record { count = refl; told = refl } in
    every (λ q x. RefusesNone s x) p _ _ _ _ _ same same try try try

wait_keeps : (turn : Bool) (s : Session) → RefusesNone s
    (cond turn (with_reply (Next true) s) (try_with (Control control.Nak) s))
wait_keeps true s = record { count = refl; told = refl }
wait_keeps false s = try_keeps (s.tries == 5) _ s

contact_keeps : (role : Role) (s : Session) → RefusesNone s (contact role s)
contact_keeps Call s = record { count = refl; told = refl }
contact_keeps Answer s = record { count = refl; told = refl }

end_and_contact_keeps : (role : Role) (s : Session) → RefusesNone s (end_and_contact role s)
end_and_contact_keeps Call s = record { count = refl; told = refl }
end_and_contact_keeps Answer s = record { count = refl; told = refl }

call_keeps : (role : Role) (s : Session) → RefusesNone s (call role s)
call_keeps Call s = record { count = refl; told = refl }
call_keeps Answer s = record { count = refl; told = refl }

-- ---- a block

sign_on_refuses : (n : Counted) (reply sequence : LineReply) (line : Config) (sign_on : Result SignOn Refusal) (bcb : ℕ)
    (fcs : ℕ × ℕ) (s : Session)
    → Refuses (cond (is_acting n) (refusal_in sign_on) None) s (elim n as (λ x. SessionOutcome) [
      | Acts ↦ signed_on reply line sign_on (after_acting bcb fcs s)
      | Repeats ↦ try_again s
      | OutOfSequence ↦ end_with why.OutOfSequence sequence s
    ])
sign_on_refuses Acts reply sequence line (Ok x) bcb fcs s = record { count = refl; told = refl }
sign_on_refuses Acts reply sequence line (Err refusal) bcb fcs s = record { count = refl; told = refl }
sign_on_refuses Repeats reply sequence line sign_on bcb fcs s = try_keeps (s.tries == 5) Again s
sign_on_refuses OutOfSequence reply sequence line sign_on bcb fcs s = record { count = refl; told = refl }

up_keeps : (n : Counted) (acted : SessionOutcome) (sequence : LineReply) (s : Session) → RefusesNone s acted
    → RefusesNone s (elim n as (λ x. SessionOutcome) [
      | Acts ↦ acted
      | Repeats ↦ try_again s
      | OutOfSequence ↦ end_with why.OutOfSequence sequence s
    ])
up_keeps Acts acted sequence s e = e
up_keeps Repeats acted sequence s e = try_keeps (s.tries == 5) Again s
up_keeps OutOfSequence acted sequence s e = record { count = refl; told = refl }

refuses : (line : Config) (s : Session) (input : Input)
    → Refuses (refusal_by line input s) s (table_outcome line input s)
unfolding table_outcome
refuses line s Enquiry =
    every (λ q x. RefusesNone s x) s.phase _ _ _ _ _ (contact_keeps line.role s)
    (record { count = refl; told = refl }) (record { count = refl; told = refl }) (record { count = refl; told = refl })
    (end_and_contact_keeps line.role s)
refuses line s Ack0 =
    every (λ q x. RefusesNone s x) s.phase _ _ _ _ _ (record { count = refl; told = refl })
    (record { count = refl; told = refl }) (record { count = refl; told = refl }) (record { count = refl; told = refl })
    (record { count = refl; told = refl })
refuses line s Nak = trying_keeps s.phase _ s
refuses line s Eot =
    every (λ q x. RefusesNone s x) s.phase _ _ _ _ _ (record { count = refl; told = refl })
    (record { count = refl; told = refl }) (record { count = refl; told = refl }) (record { count = refl; told = refl })
    (record { count = refl; told = refl })
refuses line s Lost =
    every (λ q x. RefusesNone s x) s.phase _ _ _ _ _ (record { count = refl; told = refl })
    (record { count = refl; told = refl }) (record { count = refl; told = refl }) (record { count = refl; told = refl })
    (record { count = refl; told = refl })
refuses line s Tick =
    let try = try_keeps (s.tries == 5) _ s in
    every (λ q x. RefusesNone s x) s.phase _ _ _ _ _ (call_keeps line.role s) (record { count = refl; told = refl })
    try try (wait_keeps s.has_turn s)
refuses line s Garbled = trying_keeps s.phase _ s
refuses line s Spoiled = trying_keeps s.phase _ s
refuses line s Bad = trying_keeps s.phase _ s
refuses line s (Block bcb fcs first) =
    let n = count_verdict s.last_bcb bcb in
    every (λ q x. Refuses (block_refusal q n line first) s x) s.phase _ _ _ _ _ (record { count = refl; told = refl })
    (record { count = refl; told = refl }) (sign_on_refuses n _ _ line (fitting Initial line first) bcb fcs s)
    (sign_on_refuses n _ _ line (fitting Response line first) bcb fcs s)
    (up_keeps n _ _ s (record { count = refl; told = refl }))

pub counted : (line : Config) (s : Session) (input : Input)
    → (table_outcome line input s).session.refusals ≡ refusals_after line input s
counted line s input = (refuses line s input).count

pub told : RefusalsAreTold
told line s input = (refuses line s input).told
