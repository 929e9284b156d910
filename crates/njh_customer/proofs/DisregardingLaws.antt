-- What a line disregards changes nothing but its session, or ends it.
use Rattle.njh_customer.proofs.Words
use Words.{cond_both, ℕ, Bool, true, false, cond, List, length, set, get_or, nat_lt, refl, sym, ap, subst, arith}
use Words.{eqb-true, set-set, eqb-false, ltb-true, ltb-false, get_or-set_same, set-get_or, read_block, is_disregarded}
use Words.{Input, cell, end, try_nak, with_reply, with_session, without_turn, in_session, Phase, Down, Calling, Config}
use Words.{Session, CustomerStep, goes_up, with_raised_line, silent, session_over, session_ended, carried_out}
use Words.{after_line_input, text_read, Customer, CustomerLine, no_customer_line, line_at, on_line, in_state}
use Words.{session_on, IsButSession, IsDisregarded, SpoiledIsDisregarded, BadBlocksAreDisregarded, GarbledIsDisregarded}
use Rattle.{std.proofs.Common.{◌≡◌, ◌+◌, ◌<◌, ◌==◌, ◌∙◌}, njh_line.specs.LineTable.{table_outcome, none}}
use Rattle.{njh_line.specs.declared.verdict.Verdict.Verdict, njh_customer.specs.Alone.{after_frame, after_signal}}
use Rattle.njh_bisync.specs.declared.frame.Control.TheVariants as control
use Rattle.njh_line.specs.LineTable as input
use Rattle.njh_line.specs.declared.ending.SessionEnd.TheVariants.{Tries}
use Rattle.njh_line.specs.declared.verdict.LineReply.TheVariants as reply

-- by what the line table says, where the line goes up or doesn't
abbrev pub by_mark : Bool → ℕ → Session → Verdict → Customer → CustomerStep
by_mark up l s v c = carried_out l v
    (record c { entry = with_raised_line up l c.entry; lines = on_line l (in_state (with_session s)) c.lines })

abbrev pub by_parts : ℕ → Session → Verdict → Customer → CustomerStep
by_parts l s v c = by_mark (goes_up (session_on l c).phase s.phase) l s v c

-- a line that is as far as it was doesn't go up
pub same_phase : (p : Phase) → goes_up p p ≡ false
same_phase Down = refl
same_phase _ = refl

pub unraised : (l : ℕ) (s : Session) (v : Verdict) (c : Customer) → s.phase ≡ (session_on l c).phase
    → by_parts l s v c ≡ by_mark false l s v c
unraised l s v c same =
    let p = (session_on l c).phase in
    ap (λ up. by_mark up l s v c) (ap (goes_up p) same ∙ same_phase p)

abbrev pub lines_as : Customer → List CustomerLine → Customer
lines_as c lines = record c { lines = lines }

-- nothing is disregarded but in a session, where it is a try
table_is : (config : Config) (came : Input) (s : Session) → is_disregarded came ≡ true
    → table_outcome config came s ≡ cell s.phase (none s) (none s) (try_nak s) (try_nak s) (try_nak s)
unfolding table_outcome
table_is config input.Spoiled s e = refl
table_is config input.Bad s e = refl
table_is config input.Garbled s e = refl
table_is config _ s e = absurd (cc e)

module _ (l : ℕ) (c : Customer) where
  -- the line with the session that it has
  pub again : (xs : List CustomerLine) → set xs l (get_or xs l no_customer_line) ≡ xs
  again xs = set-get_or xs l no_customer_line

  nothing : by_parts l (none (session_on l c)).session (none (session_on l c)).verdict c ≡ silent c
  nothing = unraised l (none (session_on l c)).session (none (session_on l c)).verdict c refl
      ∙ ap (λ lines. silent (lines_as c lines)) (again (set c.lines l (line_at l c.lines)) ∙ again c.lines)

  over_so : by_parts l (end Tries (session_on l c)).session (end Tries (session_on l c)).verdict c
      ≡ silent (session_ended Tries l c)
  over_so = ap (λ lines. silent (session_over l (lines_as c lines)))
      (again (on_line l (in_state (with_session (end Tries (session_on l c)).session)) c.lines))

  try_is : (b : Bool) → ((session_on l c).tries == 5) ≡ b → try_nak (session_on l c)
      ≡ cond b (end Tries (session_on l c)) (with_reply (reply.Control control.Nak)
      (record (session_on l c) { tries = (session_on l c).tries + 1 }))
  try_is b e = ap (λ t. cond t (end Tries (session_on l c)) (with_reply (reply.Control control.Nak)
      (record (session_on l c) { tries = (session_on l c).tries + 1 }))) e

  -- NAK goes out
  one_try : (s : Session) → s.phase ≡ (session_on l c).phase → l < length c.lines
      → IsButSession l c (by_parts l s (with_reply (reply.Control control.Nak) s).verdict c).after
  one_try s same there = subst (λ t. IsButSession l c t.after) (sym (unraised l s
      (with_reply (reply.Control control.Nak) s).verdict c same)) (record {
        session = without_turn s;
        after = ap (lines_as c) (ap (λ x. set (on_line l (in_state (with_session s)) c.lines) l
            (in_state (with_session (without_turn x.state.session)) x))
            (get_or-set_same c.lines l (in_state (with_session s) (line_at l c.lines)) no_customer_line there)
            ∙ set-set c.lines l (in_state (with_session s) (line_at l c.lines))
            (in_state (with_session (without_turn s)) (line_at l c.lines)));
      })

  unchanged : IsButSession l c c
  unchanged = record { session = session_on l c; after = ap (lines_as c) (sym (again c.lines)) }

  where_down : (s : CustomerStep) → in_session (session_on l c).phase ≡ false → s ≡ silent c → IsDisregarded l c s
  where_down s e same = record {
    down = λ _. same;
    goes_on = λ _. subst (λ t. IsButSession l c t.after) (sym same) unchanged;
    over = λ there up tries. absurd (cc (sym up ∙ e));
  }

  tried_or_over : (b : Bool) → ((session_on l c).tries == 5) ≡ b → l < length c.lines
      → in_session (session_on l c).phase ≡ true → (s : CustomerStep)
      → s ≡ by_parts l (try_nak (session_on l c)).session (try_nak (session_on l c)).verdict c → IsDisregarded l c s
  tried_or_over true e there up s is = record {
    down = λ down. absurd (cc (sym up ∙ down));
    goes_on = λ few. absurd (few (eqb-true (session_on l c).tries 5 e));
    over = λ _ _ _. is ∙ ap (λ o. by_parts l o.session o.verdict c) (try_is true e) ∙ over_so;
  }
  tried_or_over false e there up s is =
      let tried : Session = record (session_on l c) { tries = (session_on l c).tries + 1 } in
      record {
        down = λ down. absurd (cc (sym up ∙ down));
        goes_on = λ few. subst (λ t. IsButSession l c t.after)
            (sym (is ∙ ap (λ o. by_parts l o.session o.verdict c) (try_is false e))) (one_try tried refl there);
        over = λ _ _ tries. absurd (eqb-false (session_on l c).tries 5 e tries);
      }

  by_phase : (p : Phase) → (session_on l c).phase ≡ p → l < length c.lines → (s : CustomerStep)
      → (let o = cell p (none (session_on l c)) (none (session_on l c)) (try_nak (session_on l c))
      (try_nak (session_on l c)) (try_nak (session_on l c)) in
      s ≡ by_parts l o.session o.verdict c) → IsDisregarded l c s
  by_phase Down e there s is = where_down s (ap in_session e) (is ∙ nothing)
  by_phase Calling e there s is = where_down s (ap in_session e) (is ∙ nothing)
  by_phase _ e there s is = tried_or_over ((session_on l c).tries == 5) refl there (ap in_session e) s is

  input_disregarded : (came : Input) → is_disregarded came ≡ true → l < length c.lines
      → IsDisregarded l c (after_line_input l came c)
  input_disregarded came e there = by_phase (session_on l c).phase refl there (after_line_input l came c)
      (ap (λ o. by_parts l o.session o.verdict c) (table_is (line_at l c.lines).state.config came (session_on l c) e))

  -- a line that isn't there
  not_there : nat_lt l (length c.lines) ≡ false → IsDisregarded l c (silent c)
  not_there e = record {
    down = λ _. refl;
    goes_on = λ _. unchanged;
    over = λ there up tries. absurd (omega (arith, ltb-false l (length c.lines) e));
  }

  where_it_is : (s : CustomerStep) → (l < length c.lines → IsDisregarded l c s)
      → IsDisregarded l c (cond (nat_lt l (length c.lines)) s (silent c))
  where_it_is s there = cond_both (nat_lt l (length c.lines)) s (silent c) (IsDisregarded l c)
      (λ e. there (ltb-true l (length c.lines) e)) not_there

pub spoiled : SpoiledIsDisregarded
unfolding after_frame
spoiled l c = where_it_is l c (after_line_input l input.Spoiled c) (input_disregarded l c input.Spoiled refl)

pub bad_blocks : BadBlocksAreDisregarded
unfolding after_frame
bad_blocks l text fault c e = where_it_is l c (text_read l (read_block text) c) (λ there.
    subst (λ b. IsDisregarded l c (text_read l b c)) (sym e) (input_disregarded l c input.Bad refl there))

pub garbled : GarbledIsDisregarded
unfolding after_signal
garbled l c = where_it_is l c (after_line_input l input.Garbled c) (input_disregarded l c input.Garbled refl)
