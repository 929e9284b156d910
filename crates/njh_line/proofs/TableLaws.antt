-- Laws of the line table, row by row.
use Rattle.std.proofs.Common.{◌≡◌, ◌≤◌, ◌<◌, ℕ, ◌+◌, Bool, true, false, None, Result, Ok, Err, cond, ◌==◌, refl, sym}
use Rattle.std.proofs.Common.{subst, arith, eq-eqb}
use Rattle.std.proofs.lemmas.Bool.{ne_eqb}
use Rattle.njh_bisync.specs.declared.frame.Control.TheVariants as control
use Rattle.njh_header.specs.SignOns.{SignOn}
use Rattle.njh_line.specs.declared.Phase.{Phase}
use Rattle.njh_line.specs.declared.Phase.TheVariants.{Down, Calling, Answered, SentI, Up}
use Rattle.njh_line.specs.declared.config.Config.{Config}
use Rattle.njh_table.specs.declared.Role.{Role}
use Rattle.njh_table.specs.declared.Role.TheVariants.{Call, Answer}
use Rattle.njh_line.specs.declared.counts.Counted.{Counted}
use Rattle.njh_line.specs.declared.counts.Counted.TheVariants.{Acts, Repeats, OutOfSequence}
use Rattle.njh_line.specs.declared.ending.SessionEnd.TheVariants as why
use Rattle.njh_line.specs.declared.refusal.Refusal.{Refusal}
use Rattle.njh_line.specs.declared.session.Session.{Session}
use Rattle.njh_line.specs.declared.table.SessionOutcome.{SessionOutcome}
use Rattle.njh_line.specs.declared.verdict.LineReply.{LineReply}
use Rattle.njh_line.specs.declared.verdict.LineReply.TheVariants.{Again, Control, Next, Sequence}
use Rattle.njh_line.specs.Counts.{after_acting, count_verdict, expected_count}
use Rattle.njh_line.specs.Laws.{MovesTriesAlone, is_acting, is_disregarded, is_up, last_bcb_after, last_bcb_by}
use Rattle.njh_line.specs.Laws.{sets_tries}
use Rattle.njh_line.specs.LineTable.{Input, Enquiry, Ack0, Nak, Eot, Lost, Tick, Garbled, Spoiled, Bad, Block}
use Rattle.njh_line.specs.LineTable.{table_outcome, act, by_count, call, cell, contact, end, end_with, i_sign_on}
use Rattle.njh_line.specs.LineTable.{j_sign_on, none, signed_on, try_again, try_with, with_reply}
use Rattle.njh_line.specs.Openings.{First}
use Rattle.njh_line.specs.Sessions.{in_session}
use Rattle.njh_line.proofs.CountLaws.{clash}
use Rattle.njh_line.proofs.RowLaws as rows

-- ---- what holds of each cell holds of the row

pub every : (P : Phase → SessionOutcome → Type 0) (p : Phase) (d c a i u : SessionOutcome)
    → P Down d → P Calling c → P Answered a → P SentI i → P Up u → P p (cell p d c a i u)
every P Down down calling answered sent_i up d c a i u = d
every P Calling down calling answered sent_i up d c a i u = c
every P Answered down calling answered sent_i up d c a i u = a
every P SentI down calling answered sent_i up d c a i u = i
every P Up down calling answered sent_i up d c a i u = u

inside : (P : Phase → SessionOutcome → Type 0) (p : Phase) (d c a i u : SessionOutcome) → in_session p ≡ true
    → P Answered a → P SentI i → P Up u → P p (cell p d c a i u)
inside P Down down calling answered sent_i up e a i u = clash false e refl
inside P Calling down calling answered sent_i up e a i u = clash false e refl
inside P Answered down calling answered sent_i up e a i u = a
inside P SentI down calling answered sent_i up e a i u = i
inside P Up down calling answered sent_i up e a i u = u

outside : (P : Phase → SessionOutcome → Type 0) (p : Phase) (d c a i u : SessionOutcome) → in_session p ≡ false
    → P Down d → P Calling c → P p (cell p d c a i u)
outside P Down down calling answered sent_i up e d c = d
outside P Calling down calling answered sent_i up e d c = c
outside P Answered down calling answered sent_i up e d c = clash true refl e
outside P SentI down calling answered sent_i up e d c = clash true refl e
outside P Up down calling answered sent_i up e d c = clash true refl e

-- ---- a text that is disregarded, and a repeat

not_five : (n : ℕ) → n < 5 → (n == 5) ≡ false
not_five n h = ne_eqb n 5 (λ e. omega arith)

try_moves : (five : Bool) (reply : LineReply) (s : Session) → five ≡ false
    → MovesTriesAlone s (cond five (end why.Tries s) (with_reply reply (record s { tries = s.tries + 1 })))
try_moves true reply s e = clash true refl e
try_moves false reply s e = record { session = refl; ended = refl; acts = refl }

disregarded : (p : Phase) (reply : LineReply) (s : Session) → s.tries < 5
    → MovesTriesAlone s (cell p (none s) (none s) (try_with reply s) (try_with reply s) (try_with reply s))
disregarded p reply s h =
    let nothing : MovesTriesAlone s (none s) = record { session = refl; ended = refl; acts = refl } in
    let try = try_moves (s.tries == 5) reply s (not_five s.tries h) in
    every (λ q x. MovesTriesAlone s x) p _ _ _ _ _ nothing nothing try try try

pub stays : (line : Config) (s : Session) (input : Input) → is_disregarded input ≡ true → s.tries < 5
    → MovesTriesAlone s (table_outcome line input s)
unfolding table_outcome
stays line s Enquiry e h = clash false e refl
stays line s Ack0 e h = clash false e refl
stays line s Nak e h = clash false e refl
stays line s Eot e h = clash false e refl
stays line s Lost e h = clash false e refl
stays line s Tick e h = clash false e refl
stays line s Garbled e h = disregarded s.phase _ s h
stays line s Spoiled e h = disregarded s.phase _ s h
stays line s Bad e h = disregarded s.phase _ s h
stays line s (Block bcb fcs first) e h = clash false e refl

fifth_try : (five : Bool) (reply : LineReply) (s : Session) → five ≡ true
    → cond five (end why.Tries s) (with_reply reply (record s { tries = s.tries + 1 })) ≡ end why.Tries s
fifth_try true reply s e = refl
fifth_try false reply s e = clash false e refl

fifth : (p : Phase) (reply : LineReply) (s : Session) → in_session p ≡ true → s.tries ≡ 5
    → cell p (none s) (none s) (try_with reply s) (try_with reply s) (try_with reply s) ≡ end why.Tries s
fifth p reply s i h =
    let try = fifth_try (s.tries == 5) reply s (eq-eqb s.tries 5 h) in
    inside (λ q x. x ≡ end why.Tries s) p _ _ _ _ _ i try try try

pub ends : (line : Config) (s : Session) (input : Input) → is_disregarded input ≡ true → in_session s.phase ≡ true
    → s.tries ≡ 5
    → table_outcome line input s ≡ end why.Tries s
unfolding table_outcome
ends line s Enquiry e i h = clash false e refl
ends line s Ack0 e i h = clash false e refl
ends line s Nak e i h = clash false e refl
ends line s Eot e i h = clash false e refl
ends line s Lost e i h = clash false e refl
ends line s Tick e i h = clash false e refl
ends line s Garbled e i h = fifth s.phase _ s i h
ends line s Spoiled e i h = fifth s.phase _ s i h
ends line s Bad e i h = fifth s.phase _ s i h
ends line s (Block bcb fcs first) e i h = clash false e refl

pub repeat_tries : (line : Config) (s : Session) (bcb : ℕ) (fcs : ℕ × ℕ) (first : First) → in_session s.phase ≡ true
    → count_verdict s.last_bcb bcb ≡ Repeats → table_outcome line (Block bcb fcs first) s ≡ try_again s
repeat_tries line s bcb fcs first e f = sym (rows.repeats line bcb fcs first s e f)

pub repeat_stays : (line : Config) (s : Session) (bcb : ℕ) (fcs : ℕ × ℕ) (first : First) → in_session s.phase ≡ true
    → count_verdict s.last_bcb bcb ≡ Repeats → s.tries < 5
    → MovesTriesAlone s (table_outcome line (Block bcb fcs first) s)
repeat_stays line s bcb fcs first e f h =
    subst (λ (x : SessionOutcome). MovesTriesAlone s x) (rows.repeats line bcb fcs first s e f)
    (try_moves (s.tries == 5) Again s (not_five s.tries h))

-- ---- tries

abbrev KeepsTries : Session → SessionOutcome → Type 0
KeepsTries s x = x.verdict.ended ≡ false → s.tries ≤ x.session.tries

try_rises : (five : Bool) (reply : LineReply) (s : Session)
    → s.tries ≤ (cond five (end why.Tries s) (with_reply reply (record s { tries = s.tries + 1 }))).session.tries
try_rises true reply s = omega arith
try_rises false reply s = omega arith

wait_rises : (turn : Bool) (s : Session) → s.tries
    ≤ (cond turn (with_reply (Next true) s) (try_with (Control control.Nak) s)).session.tries
wait_rises true s = omega arith
wait_rises false s = try_rises (s.tries == 5) _ s

count_rises : (k : Counted) (acted : SessionOutcome) (reply : LineReply) (s : Session) → is_acting k ≡ false
    → s.tries ≤ (elim k as (λ x. SessionOutcome)
    [ Acts ↦ acted | Repeats ↦ try_again s | OutOfSequence ↦ end_with why.OutOfSequence reply s ]).session.tries
count_rises Acts acted reply s e = clash true refl e
count_rises Repeats acted reply s e = try_rises (s.tries == 5) Again s
count_rises OutOfSequence acted reply s e = omega arith

trying_keeps : (p : Phase) (reply : LineReply) (s : Session) → in_session p ≡ true
    → KeepsTries s (cell p (none s) (none s) (try_with reply s) (try_with reply s) (try_with reply s))
trying_keeps p reply s e =
    let try : KeepsTries s (try_with reply s) = λ f. try_rises (s.tries == 5) reply s in
    inside (λ q x. KeepsTries s x) p _ _ _ _ _ e try try try

pub tries_stay : (line : Config) (s : Session) (input : Input) → in_session s.phase ≡ true
    → (table_outcome line input s).verdict.ended ≡ false → sets_tries input s ≡ false
    → s.tries ≤ (table_outcome line input s).session.tries
unfolding table_outcome
tries_stay line s Enquiry e f g =
    inside (λ q x. KeepsTries s x) s.phase _ _ _ _ _ e (λ h. omega arith) (λ h. omega arith) (λ h. clash true refl h) f
tries_stay line s Ack0 e f g =
    inside (λ q x. is_up q ≡ false → s.tries ≤ x.session.tries) s.phase _ _ _ _ _ e
    (λ h. omega arith) (λ h. omega arith) (λ h. clash true refl h) g
tries_stay line s Nak e f g = trying_keeps s.phase _ s e f
tries_stay line s Eot e f g =
    inside (λ q x. s.tries ≤ x.session.tries) s.phase _ _ _ _ _ e (omega arith) (omega arith) (omega arith)
tries_stay line s Lost e f g =
    inside (λ q x. s.tries ≤ x.session.tries) s.phase _ _ _ _ _ e (omega arith) (omega arith) (omega arith)
tries_stay line s Tick e f g =
    let try = try_rises (s.tries == 5) _ s in
    inside (λ q x. s.tries ≤ x.session.tries) s.phase _ _ _ _ _ e try try (wait_rises s.has_turn s)
tries_stay line s Garbled e f g = trying_keeps s.phase _ s e f
tries_stay line s Spoiled e f g = trying_keeps s.phase _ s e f
tries_stay line s Bad e f g = trying_keeps s.phase _ s e f
tries_stay line s (Block bcb fcs first) e f g =
    let k = count_verdict s.last_bcb bcb in
    let next = after_acting bcb fcs s in
    let sequence = Sequence (0x80 + expected_count s.last_bcb) in
    inside (λ q x. s.tries ≤ x.session.tries) s.phase (none s) (none s)
    (by_count bcb fcs (i_sign_on line first) s) (by_count bcb fcs (j_sign_on line first) s) (by_count bcb fcs act s) e
    (count_rises k (i_sign_on line first next) sequence s g)
    (count_rises k (j_sign_on line first next) sequence s g)
    (count_rises k (act next) sequence s g)

-- ---- the last block acted on

abbrev KeepsLast : Session → SessionOutcome → Type 0
KeepsLast s x = x.session.last_bcb ≡ s.last_bcb

try_last : (five : Bool) (reply : LineReply) (s : Session)
    → KeepsLast s (cond five (end why.Tries s) (with_reply reply (record s { tries = s.tries + 1 })))
try_last true reply s = refl
try_last false reply s = refl

wait_last : (turn : Bool) (s : Session) → KeepsLast s
    (cond turn (with_reply (Next true) s) (try_with (Control control.Nak) s))
wait_last true s = refl
wait_last false s = try_last (s.tries == 5) _ s

trying_last : (p : Phase) (reply : LineReply) (s : Session)
    → KeepsLast s (cell p (none s) (none s) (try_with reply s) (try_with reply s) (try_with reply s))
trying_last p reply s =
    let try = try_last (s.tries == 5) reply s in
    every (λ q x. KeepsLast s x) p _ _ _ _ _ refl refl try try try

sign_on_last : (reply : LineReply) (line : Config) (x : Result SignOn Refusal) (next : Session)
    → KeepsLast next (signed_on reply line x next)
sign_on_last reply line (Ok x) next = refl
sign_on_last reply line (Err refusal) next = refl

count_last : (k : Counted) (acted : SessionOutcome) (reply : LineReply) (bcb : ℕ) (fcs : ℕ × ℕ) (s : Session)
    → KeepsLast (after_acting bcb fcs s) acted
    → (elim k as (λ x. SessionOutcome) [
      | Acts ↦ acted
      | Repeats ↦ try_again s
      | OutOfSequence ↦ end_with why.OutOfSequence reply s
    ]).session.last_bcb
    ≡ last_bcb_by k bcb s.last_bcb
count_last Acts acted reply bcb fcs s e = e
count_last Repeats acted reply bcb fcs s e = try_last (s.tries == 5) Again s
count_last OutOfSequence acted reply bcb fcs s e = refl

pub last_acted : (line : Config) (s : Session) (input : Input) → in_session s.phase ≡ true
    → (table_outcome line input s).verdict.ended ≡ false
    → (table_outcome line input s).session.last_bcb ≡ last_bcb_after input s
unfolding table_outcome
last_acted line s Enquiry e f =
    inside (λ q x. x.verdict.ended ≡ false → KeepsLast s x) s.phase _ _ _ _ _ e (λ h. refl) (λ h. refl)
    (λ h. clash true refl h) f
last_acted line s Ack0 e f = inside (λ q x. KeepsLast s x) s.phase _ _ _ _ _ e refl refl refl
last_acted line s Nak e f = trying_last s.phase _ s
last_acted line s Eot e f = every (λ q x. KeepsLast s x) s.phase _ _ _ _ _ refl refl refl refl refl
last_acted line s Lost e f = every (λ q x. KeepsLast s x) s.phase _ _ _ _ _ refl refl refl refl refl
last_acted line s Tick e f =
    let try = try_last (s.tries == 5) _ s in
    inside (λ q x. KeepsLast s x) s.phase _ _ _ _ _ e try try (wait_last s.has_turn s)
last_acted line s Garbled e f = trying_last s.phase _ s
last_acted line s Spoiled e f = trying_last s.phase _ s
last_acted line s Bad e f = trying_last s.phase _ s
last_acted line s (Block bcb fcs first) e f =
    let k = count_verdict s.last_bcb bcb in
    let next = after_acting bcb fcs s in
    inside (λ q x. x.session.last_bcb ≡ last_bcb_by k bcb s.last_bcb) s.phase _ _ _ _ _ e
    (count_last k _ _ bcb fcs s (sign_on_last _ line _ next)) (count_last k _ _ bcb fcs s (sign_on_last _ line _ next))
    (count_last k _ _ bcb fcs s refl)

-- ---- a session begins

abbrev IsFresh : SessionOutcome → Type 0
IsFresh x = in_session x.session.phase ≡ true → (x.session.tries ≡ 0) × (x.session.last_bcb ≡ None)

none_afresh : (s : Session) → in_session s.phase ≡ false → IsFresh (none s)
none_afresh s e f = clash _ f e

contact_afresh : (role : Role) (s : Session) → in_session s.phase ≡ false → IsFresh (contact role s)
contact_afresh Call s e = λ f. clash _ f e
contact_afresh Answer s e = λ f. (refl, refl)

call_afresh : (role : Role) (s : Session) → in_session s.phase ≡ false → IsFresh (call role s)
call_afresh Call s e = λ f. clash false f refl
call_afresh Answer s e = λ f. clash _ f e

pub afresh : (line : Config) (s : Session) (input : Input) → in_session s.phase ≡ false
    → in_session (table_outcome line input s).session.phase ≡ true
    → ((table_outcome line input s).session.tries ≡ 0) × ((table_outcome line input s).session.last_bcb ≡ None)
unfolding table_outcome
afresh line s Enquiry e = outside (λ q x. IsFresh x) s.phase _ _ _ _ _ e (contact_afresh line.role s e)
    (none_afresh s e)
afresh line s Ack0 e = outside (λ q x. IsFresh x) s.phase _ _ _ _ _ e (none_afresh s e) (λ f. (refl, refl))
afresh line s Nak e = outside (λ q x. IsFresh x) s.phase _ _ _ _ _ e (none_afresh s e) (none_afresh s e)
afresh line s Eot e = outside (λ q x. IsFresh x) s.phase _ _ _ _ _ e (none_afresh s e) (λ f. clash false f refl)
afresh line s Lost e = outside (λ q x. IsFresh x) s.phase _ _ _ _ _ e (none_afresh s e) (λ f. clash false f refl)
afresh line s Tick e = outside (λ q x. IsFresh x) s.phase _ _ _ _ _ e (call_afresh line.role s e) (none_afresh s e)
afresh line s Garbled e = outside (λ q x. IsFresh x) s.phase _ _ _ _ _ e (none_afresh s e) (none_afresh s e)
afresh line s Spoiled e = outside (λ q x. IsFresh x) s.phase _ _ _ _ _ e (none_afresh s e) (none_afresh s e)
afresh line s Bad e = outside (λ q x. IsFresh x) s.phase _ _ _ _ _ e (none_afresh s e) (none_afresh s e)
afresh line s (Block bcb fcs first) e = outside (λ q x. IsFresh x) s.phase _ _ _ _ _ e (none_afresh s e)
    (none_afresh s e)
