-- A line that is up stays so until its session ends, and then it isn't. Records act, and the next block goes, only
-- where it is up.
use Rattle.std.proofs.Common.{◌≡◌, ℕ, ◌+◌, Bool, true, false, cond, ◌==◌, Result, Ok, Err, refl, sym, ap, ◌∙◌}
use Rattle.njh_bisync.specs.declared.frame.Control.TheVariants as control
use Rattle.njh_header.specs.SignOns.{SignOn}
use Rattle.njh_line.specs.declared.Phase.{Phase}
use Rattle.njh_line.specs.declared.Phase.TheVariants.{Down, Calling, Answered, SentI, Up}
use Rattle.njh_line.specs.declared.config.Config.{Config}
use Rattle.njh_table.specs.declared.Role.{Role}
use Rattle.njh_table.specs.declared.Role.TheVariants as role
use Rattle.njh_line.specs.declared.counts.Counted.{Counted}
use Rattle.njh_line.specs.declared.counts.Counted.TheVariants.{Acts, Repeats, OutOfSequence}
use Rattle.njh_line.specs.declared.opening.Opening.TheVariants.{Initial, Response}
use Rattle.njh_line.specs.declared.ending.SessionEnd.{SessionEnd}
use Rattle.njh_line.specs.declared.ending.SessionEnd.TheVariants as why
use Rattle.njh_line.specs.declared.refusal.Refusal.{Refusal}
use Rattle.njh_line.specs.declared.session.Session.{Session}
use Rattle.njh_line.specs.declared.table.SessionOutcome.{SessionOutcome}
use Rattle.njh_line.specs.declared.verdict.LineReply.{LineReply}
use Rattle.njh_line.specs.declared.verdict.LineReply.TheVariants as reply
use Rattle.njh_line.specs.Counts.{count_verdict, expected_count, after_acting}
use Rattle.njh_line.specs.Laws.{is_up}
use Rattle.njh_line.specs.LineTable as input
use Rattle.njh_line.specs.LineTable.{Input, table_outcome, cell, none, enquiry, ack0, hang_up, end, end_with}
use Rattle.njh_line.specs.LineTable.{end_and_contact, try_with, try_again, try_nak, with_reply, contact, call, i_block}
use Rattle.njh_line.specs.LineTable.{next_or_turn, next_in_turn, by_count, signed_on, i_sign_on, j_sign_on, act, refuse}
use Rattle.njh_line.specs.Openings.{fitting}
use Rattle.njh_line.specs.Up.{InputsKeepUp, is_next}

record Follows (p : Phase) (o : SessionOutcome) : Type 0 where
  pub over : o.verdict.ended ≡ true → is_up o.session.phase ≡ false
  pub on : o.verdict.ended ≡ false → is_up p ≡ true → is_up o.session.phase ≡ true
  pub acts : o.verdict.acts ≡ true → is_up o.session.phase ≡ true
  pub next : is_next o.verdict.reply ≡ true → is_up o.session.phase ≡ true

-- no record acts, and the next block doesn't go
abbrev IsQuiet : SessionOutcome → Type 0
IsQuiet o = (o.verdict.acts ≡ false) × (is_next o.verdict.reply ≡ false)

module _ (s : Session) where
  -- a line that wasn't up
  low : (o : SessionOutcome) → o.verdict.ended ≡ false → IsQuiet o → is_up s.phase ≡ false → Follows s.phase o
  low o e quiet down = record {
    over = λ over. absurd (cc (sym e ∙ over));
    on = λ _ up. absurd (cc (sym down ∙ up));
    acts = λ acts. absurd (cc (sym quiet.0 ∙ acts));
    next = λ next. absurd (cc (sym quiet.1 ∙ next));
  }

  -- one that is as far as it was
  as_far : (o : SessionOutcome) → o.verdict.ended ≡ false → IsQuiet o → o.session.phase ≡ s.phase → Follows s.phase o
  as_far o e quiet same = record {
    over = λ over. absurd (cc (sym e ∙ over));
    on = λ _ up. ap is_up same ∙ up;
    acts = λ acts. absurd (cc (sym quiet.0 ∙ acts));
    next = λ next. absurd (cc (sym quiet.1 ∙ next));
  }

  -- one that is up
  is_up_then : (o : SessionOutcome) → o.verdict.ended ≡ false → is_up o.session.phase ≡ true → Follows s.phase o
  is_up_then o e up = record {
    over = λ over. absurd (cc (sym e ∙ over));
    on = λ _ _. up;
    acts = λ _. up;
    next = λ _. up;
  }

  ends : (o : SessionOutcome) → o.verdict.ended ≡ true → IsQuiet o → is_up o.session.phase ≡ false → Follows s.phase o
  ends o e quiet down = record {
    over = λ _. down;
    on = λ on. absurd (cc (sym e ∙ on));
    acts = λ acts. absurd (cc (sym quiet.0 ∙ acts));
    next = λ next. absurd (cc (sym quiet.1 ∙ next));
  }

  tries : (r : LineReply) → is_next r ≡ false → Follows s.phase (try_with r s)
  tries r quiet = at (s.tries == 5)
    where
      at : (b : Bool) → Follows s.phase (cond b (end why.Tries s) (with_reply r (record s { tries = s.tries + 1 })))
      at true = ends (end why.Tries s) refl (refl, refl) refl
      at false = as_far (with_reply r (record s { tries = s.tries + 1 })) refl (refl, quiet) refl

  in_turn : is_up s.phase ≡ true → Follows s.phase (next_in_turn s)
  in_turn up = at s.has_turn
    where
      at : (b : Bool) → Follows s.phase (cond b (with_reply (reply.Next true) s) (try_nak s))
      at true = is_up_then (with_reply (reply.Next true) s) refl up
      at false = tries (reply.Control control.Nak) refl

  by_role : (r : Role) → ((contact r s).verdict.ended ≡ false) × IsQuiet (contact r s)
  by_role role.Call = (refl, (refl, refl))
  by_role role.Answer = (refl, (refl, refl))

  call_by_role : (r : Role) → ((call r s).verdict.ended ≡ false) × IsQuiet (call r s)
  call_by_role role.Call = (refl, (refl, refl))
  call_by_role role.Answer = (refl, (refl, refl))

  over_by_role : (r : Role) → Follows s.phase (end_and_contact r s)
  over_by_role role.Call = ends (end_and_contact role.Call s) refl (refl, refl) refl
  over_by_role role.Answer = ends (end_and_contact role.Answer s) refl (refl, refl) refl

  signed : (r : LineReply) (config : Config) (o : Result SignOn Refusal) (t : Session) → is_up s.phase ≡ false
      → Follows s.phase (signed_on r config o t)
  signed r config (Ok x) t down = is_up_then (signed_on r config (Ok x) t) refl refl
  signed r config (Err refusal) t down = low (refuse refusal t) refl (refl, refl) down

  by_counts : (bcb : ℕ) (fcs : ℕ × ℕ) (acted : Session → SessionOutcome)
      → Follows s.phase (acted (after_acting bcb fcs s)) → Follows s.phase (by_count bcb fcs acted s)
  by_counts bcb fcs acted acts = at (count_verdict s.last_bcb bcb)
    where
      at :
          (n : Counted)
          → Follows s.phase (elim n [
            | Acts ↦ acted (after_acting bcb fcs s)
            | Repeats ↦ try_again s
            | OutOfSequence ↦ end_with why.OutOfSequence (reply.Sequence (0x80 + expected_count s.last_bcb)) s
          ])
      at Acts = acts
      at Repeats = tries reply.Again refl
      at OutOfSequence =
          ends (end_with why.OutOfSequence (reply.Sequence (0x80 + expected_count s.last_bcb)) s) refl (refl, refl) refl

  in_row : (down calling answered sent_i up : SessionOutcome) → (is_up s.phase ≡ false → Follows s.phase down)
      → (is_up s.phase ≡ false → Follows s.phase calling) → (is_up s.phase ≡ false → Follows s.phase answered)
      → (is_up s.phase ≡ false → Follows s.phase sent_i) → (is_up s.phase ≡ true → Follows s.phase up)
      → Follows s.phase (cell s.phase down calling answered sent_i up)
  in_row down calling answered sent_i up d c a i u = at s.phase refl
    where
      at : (p : Phase) → s.phase ≡ p → Follows s.phase (cell p down calling answered sent_i up)
      at Down e = d (ap is_up e)
      at Calling e = c (ap is_up e)
      at Answered e = a (ap is_up e)
      at SentI e = i (ap is_up e)
      at Up e = u (ap is_up e)

  nothing : is_up s.phase ≡ false → Follows s.phase (none s)
  nothing = low (none s) refl (refl, refl)

  gone : is_up s.phase ≡ false → Follows s.phase (hang_up s)
  gone = low (hang_up s) refl (refl, refl)

  tried : Follows s.phase (cell s.phase (none s) (none s) (try_nak s) (try_nak s) (try_nak s))
  tried =
      let nak = tries (reply.Control control.Nak) refl in
      in_row (none s) (none s) (try_nak s) (try_nak s) (try_nak s) nothing nothing (λ _. nak) (λ _. nak) (λ _. nak)

  hung_up : (e : SessionEnd) → Follows s.phase (cell s.phase (none s) (hang_up s) (hang_up s) (hang_up s) (end e s))
  hung_up e = in_row (none s) (hang_up s) (hang_up s) (hang_up s) (end e s) nothing gone gone gone
      (λ _. ends (end e s) refl (refl, refl) refl)

table_follows : (config : Config) (came : Input) (s : Session) → Follows s.phase (table_outcome config came s)
unfolding table_outcome
table_follows config input.Enquiry s =
    let called = by_role s config.role in
    in_row s (contact config.role s) (none s) (ack0 s) (none s) (end_and_contact config.role s)
    (low s (contact config.role s) called.0 called.1) (nothing s) (low s (ack0 s) refl (refl, refl)) (nothing s)
    (λ _. over_by_role s config.role)
table_follows config input.Ack0 s =
    in_row s (none s) (i_block s) (none s) (none s) (next_or_turn s) (nothing s) (low s (i_block s) refl (refl, refl))
    (nothing s) (nothing s) (is_up_then s (next_or_turn s) refl)
table_follows config input.Nak s =
    let again = tries s reply.Again refl in
    in_row s (none s) (none s) (try_again s) (try_again s) (try_again s) (nothing s) (nothing s) (λ _. again)
    (λ _. again) (λ _. again)
table_follows config input.Eot s = hung_up s why.Eot
table_follows config input.Lost s = hung_up s why.Lost
table_follows config (input.Block bcb fcs first) s =
    let t = after_acting bcb fcs s in
    in_row s (none s) (none s) (by_count bcb fcs (i_sign_on config first) s)
    (by_count bcb fcs (j_sign_on config first) s)
    (by_count bcb fcs act s) (nothing s) (nothing s)
    (λ down. by_counts s bcb fcs (i_sign_on config first)
    (signed s (reply.SignOn Response) config (fitting Initial config first) t down))
    (λ down. by_counts s bcb fcs (j_sign_on config first)
    (signed s (reply.Next true) config (fitting Response config first) t down))
    (λ up. by_counts s bcb fcs act (is_up_then s (act t) refl up))
table_follows config input.Spoiled s = tried s
table_follows config input.Bad s = tried s
table_follows config input.Garbled s = tried s
table_follows config input.Tick s =
    let nak = tries s (reply.Control control.Nak) refl in
    let called = call_by_role s config.role in
    in_row s (call config.role s) (enquiry s) (try_nak s) (try_nak s) (next_in_turn s)
    (low s (call config.role s) called.0 called.1) (low s (enquiry s) refl (refl, refl)) (λ _. nak) (λ _. nak)
    (in_turn s)

pub inputs_keep_up : InputsKeepUp
inputs_keep_up config s came = let f = table_follows config came s in
    record { over = f.over; on = f.on; acts = f.acts; next = f.next }
