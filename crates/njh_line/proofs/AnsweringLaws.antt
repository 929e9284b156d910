-- Which inputs are answered.
use Rattle.std.proofs.Common.{◌≡◌, ℕ, ◌+◌, Bool, true, false, cond, ◌==◌, Result, Ok, Err, refl, sym, subst, ◌∙◌}
use Rattle.njh_bisync.specs.declared.frame.Control.TheVariants as control
use Rattle.njh_header.specs.SignOns.{SignOn}
use Rattle.njh_line.specs.declared.Phase.{Phase}
use Rattle.njh_line.specs.declared.Phase.TheVariants.{Down, Calling, Answered, SentI, Up}
use Rattle.njh_line.specs.declared.config.Config.{Config}
use Rattle.njh_table.specs.declared.Role.{Role}
use Rattle.njh_table.specs.declared.Role.TheVariants as role
use Rattle.njh_line.specs.declared.counts.Counted.{Counted}
use Rattle.njh_line.specs.declared.counts.Counted.TheVariants.{Acts, Repeats, OutOfSequence}
use Rattle.njh_line.specs.declared.opening.Opening.TheVariants.{Initial, Response}
use Rattle.njh_line.specs.declared.ending.SessionEnd.{SessionEnd}
use Rattle.njh_line.specs.declared.ending.SessionEnd.TheVariants as why
use Rattle.njh_line.specs.declared.refusal.Refusal.{Refusal}
use Rattle.njh_line.specs.declared.session.Session.{Session}
use Rattle.njh_line.specs.declared.table.SessionOutcome.{SessionOutcome}
use Rattle.njh_line.specs.declared.verdict.LineReply.{LineReply}
use Rattle.njh_line.specs.declared.verdict.LineReply.TheVariants as reply
use Rattle.njh_line.specs.Answering.{IsAnsweredByNext, ActingIsAnswered, LeavesDown, does_nothing, is_answered}
use Rattle.njh_line.specs.Answering.{DownStaysDown}
use Rattle.njh_line.specs.Counts.{count_verdict, expected_count, after_acting}
use Rattle.njh_line.specs.LineTable as input
use Rattle.njh_line.specs.LineTable.{Input, table_outcome, cell, none, enquiry, ack0, hang_up, end, end_with}
use Rattle.njh_line.specs.LineTable.{end_and_contact, try_with, try_again, try_nak, with_reply, contact, call, i_block}
use Rattle.njh_line.specs.LineTable.{next_or_turn, next_in_turn, by_count, signed_on, i_sign_on, j_sign_on, act, refuse}
use Rattle.njh_line.specs.Openings.{fitting}

-- ---- records act

abbrev IsAnswered : SessionOutcome → Type 0
IsAnswered o = IsAnsweredByNext o.verdict

-- no record acts
still : (o : SessionOutcome) → o.verdict.acts ≡ false → IsAnswered o
still o quiet acts = absurd (cc (sym quiet ∙ acts))

tries : (r : LineReply) (s : Session) → IsAnswered (try_with r s)
tries r s = at_test (s.tries == 5)
  where
    at_test : (b : Bool) → IsAnswered (cond b (end why.Tries s) (with_reply r (record s { tries = s.tries + 1 })))
    at_test true = still (end why.Tries s) refl
    at_test false = still (with_reply r (record s { tries = s.tries + 1 })) refl

in_turn : (s : Session) → IsAnswered (next_in_turn s)
in_turn s = at_turn s.has_turn
  where
    at_turn : (b : Bool) → IsAnswered (cond b (with_reply (reply.Next true) s) (try_nak s))
    at_turn true = still (with_reply (reply.Next true) s) refl
    at_turn false = tries (reply.Control control.Nak) s

contacted : (r : Role) (s : Session) → IsAnswered (contact r s)
contacted role.Call s = still (none s) refl
contacted role.Answer s = still (contact role.Answer s) refl

ended_and_contacted : (r : Role) (s : Session) → IsAnswered (end_and_contact r s)
ended_and_contacted role.Call s = still (end_and_contact role.Call s) refl
ended_and_contacted role.Answer s = still (end_and_contact role.Answer s) refl

calls : (r : Role) (s : Session) → IsAnswered (call r s)
calls role.Call s = still (call role.Call s) refl
calls role.Answer s = still (none s) refl

signs_on : (r : LineReply) (line : Config) (o : Result SignOn Refusal) (s : Session) → IsAnswered (signed_on r line o s)
signs_on r line (Ok x) s = still (signed_on r line (Ok x) s) refl
signs_on r line (Err refusal) s = still (refuse refusal s) refl

by_counts : (bcb : ℕ) (fcs : ℕ × ℕ) (acted : Session → SessionOutcome) (s : Session)
    → IsAnswered (acted (after_acting bcb fcs s))
    → IsAnswered (by_count bcb fcs acted s)
by_counts bcb fcs acted s answered = at_count (count_verdict s.last_bcb bcb)
  where
    at_count :
        (n : Counted)
        → IsAnswered (elim n [
          | Acts ↦ acted (after_acting bcb fcs s)
          | Repeats ↦ try_again s
          | OutOfSequence ↦ end_with why.OutOfSequence (reply.Sequence (0x80 + expected_count s.last_bcb)) s
        ])
    at_count Acts = answered
    at_count Repeats = tries reply.Again s
    at_count OutOfSequence = still (end_with why.OutOfSequence (reply.Sequence (0x80 + expected_count s.last_bcb)) s) refl

in_row :
    (p : Phase) (down calling answered sent_i up : SessionOutcome) → IsAnswered down → IsAnswered calling
    → IsAnswered answered → IsAnswered sent_i → IsAnswered up
    → IsAnswered (cell p down calling answered sent_i up)
in_row Down down calling answered sent_i up d c a i u = d
in_row Calling down calling answered sent_i up d c a i u = c
in_row Answered down calling answered sent_i up d c a i u = a
in_row SentI down calling answered sent_i up d c a i u = i
in_row Up down calling answered sent_i up d c a i u = u

disregarded : (s : Session) → IsAnswered (cell s.phase (none s) (none s) (try_nak s) (try_nak s) (try_nak s))
disregarded s =
    let nak = tries (reply.Control control.Nak) s in
    in_row s.phase (none s) (none s) (try_nak s) (try_nak s) (try_nak s) (still (none s) refl) (still (none s) refl) nak
    nak nak

hung_up : (s : Session) (e : SessionEnd)
    → IsAnswered (cell s.phase (none s) (hang_up s) (hang_up s) (hang_up s) (end e s))
hung_up s e =
    in_row s.phase (none s) (hang_up s) (hang_up s) (hang_up s) (end e s) (still (none s) refl) (still (hang_up s) refl)
    (still (hang_up s) refl)
    (still (hang_up s) refl) (still (end e s) refl)

pub acting_is_answered : ActingIsAnswered
unfolding table_outcome
acting_is_answered line s input.Enquiry =
    in_row s.phase (contact line.role s) (none s) (ack0 s) (none s) (end_and_contact line.role s)
    (contacted line.role s) (still (none s) refl)
    (still (ack0 s) refl) (still (none s) refl) (ended_and_contacted line.role s)
acting_is_answered line s input.Ack0 =
    in_row s.phase (none s) (i_block s) (none s) (none s) (next_or_turn s) (still (none s) refl)
    (still (i_block s) refl) (still (none s) refl)
    (still (none s) refl) (still (next_or_turn s) refl)
acting_is_answered line s input.Nak =
    let again = tries reply.Again s in
    in_row s.phase (none s) (none s) (try_again s) (try_again s) (try_again s) (still (none s) refl)
    (still (none s) refl) again again again
acting_is_answered line s input.Eot = hung_up s why.Eot
acting_is_answered line s input.Lost = hung_up s why.Lost
acting_is_answered line s (input.Block bcb fcs first) =
    let t = after_acting bcb fcs s in
    in_row s.phase (none s) (none s) (by_count bcb fcs (i_sign_on line first) s)
    (by_count bcb fcs (j_sign_on line first) s) (by_count bcb fcs act s)
    (still (none s) refl) (still (none s) refl)
    (by_counts bcb fcs (i_sign_on line first) s (signs_on (reply.SignOn Response) line (fitting Initial line first) t))
    (by_counts bcb fcs (j_sign_on line first) s (signs_on (reply.Next true) line (fitting Response line first) t))
    (by_counts bcb fcs act s (λ acts. refl))
acting_is_answered line s input.Spoiled = disregarded s
acting_is_answered line s input.Bad = disregarded s
acting_is_answered line s input.Garbled = disregarded s
acting_is_answered line s input.Tick =
    let nak = tries (reply.Control control.Nak) s in
    in_row s.phase (call line.role s) (enquiry s) (try_nak s) (try_nak s) (next_in_turn s) (calls line.role s)
    (still (enquiry s) refl) nak nak (in_turn s)

-- ---- a line that is down

at_down : (s : Session) (down calling answered sent_i up : SessionOutcome) → s.phase ≡ Down → LeavesDown down
    → LeavesDown (cell s.phase down calling answered sent_i up)
at_down s down calling answered sent_i up is leaves =
    subst (λ p. LeavesDown (cell p down calling answered sent_i up)) (sym is) leaves

contact_leaves : (r : Role) (s : Session) → s.phase ≡ Down → LeavesDown (contact r s)
contact_leaves role.Call s down = does_nothing refl down
contact_leaves role.Answer s down = is_answered control.Ack0 refl

call_leaves : (r : Role) (s : Session) → s.phase ≡ Down → LeavesDown (call r s)
call_leaves role.Call s down = is_answered control.Enquiry refl
call_leaves role.Answer s down = does_nothing refl down

pub down_stays_down : DownStaysDown
unfolding table_outcome
down_stays_down line s input.Enquiry down =
    at_down s (contact line.role s) (none s) (ack0 s) (none s) (end_and_contact line.role s) down
    (contact_leaves line.role s down)
down_stays_down line s input.Ack0 down = at_down s (none s) (i_block s) (none s) (none s) (next_or_turn s) down
    (does_nothing refl down)
down_stays_down line s input.Nak down = at_down s (none s) (none s) (try_again s) (try_again s) (try_again s) down
    (does_nothing refl down)
down_stays_down line s input.Eot down = at_down s (none s) (hang_up s) (hang_up s) (hang_up s) (end why.Eot s) down
    (does_nothing refl down)
down_stays_down line s input.Lost down = at_down s (none s) (hang_up s) (hang_up s) (hang_up s) (end why.Lost s) down
    (does_nothing refl down)
down_stays_down line s (input.Block bcb fcs first) down =
    at_down s (none s) (none s) (by_count bcb fcs (i_sign_on line first) s) (by_count bcb fcs (j_sign_on line first) s)
    (by_count bcb fcs act s) down
    (does_nothing refl down)
down_stays_down line s input.Spoiled down =
    at_down s (none s) (none s) (try_nak s) (try_nak s) (try_nak s) down (does_nothing refl down)
down_stays_down line s input.Bad down = at_down s (none s) (none s) (try_nak s) (try_nak s) (try_nak s) down
    (does_nothing refl down)
down_stays_down line s input.Garbled down =
    at_down s (none s) (none s) (try_nak s) (try_nak s) (try_nak s) down (does_nothing refl down)
down_stays_down line s input.Tick down =
    at_down s (call line.role s) (enquiry s) (try_nak s) (try_nak s) (next_in_turn s) down
    (call_leaves line.role s down)
