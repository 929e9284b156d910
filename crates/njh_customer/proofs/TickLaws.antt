-- A tick on a line that has the turn.
use Rattle.njh_customer.proofs.Words
use Words.{ℕ, Bool, true, false, cond, List, [], length, refl, sym, ap, Config, Customer, CustomerLine, CustomerStep}
use Words.{LineState, Session, carried_out, line_at, session_on, silent, after_line_input, with_reply, try_nak, not}
use Words.{cell, Ack0, Item, all_suspended, same_fcs, Writing, Up, replied_to, next_block}
use Words.{sending_of_block, sending_of_empty, sending_of_no_block, sending_of_written, with_outlet}
use Rattle.{std.proofs.{Common.{◌≡◌, ◌∙◌, ◌∷◌, ◌||◌}, lemmas.Bool.lt-ltb}, njh_line.specs.LineTable.{call, enquiry}}
use Rattle.{njh_line.specs.LineTable.{next_in_turn, table_outcome}, njh_bisync.specs.Written.control_bytes}
use Rattle.njh_customer.specs.Alone.{after_signal}
use Rattle.{njh_sched.specs.Having.has_items, njh_customer.specs.{Laws.TicksSendNext, Having.is_sent, Sending.Sending}}
use Rattle.njh_customer.{specs.Sending.block_frame, proofs.DisregardingLaws.{again, by_parts, lines_as, unraised}}
use Rattle.njh_line.specs.LineTable as input
use Rattle.njh_line.specs.declared.verdict.LineReply.TheVariants as reply

-- the line table answers with the next block
table_is : (config : Config) (s : Session) → s.phase ≡ Up → s.has_turn ≡ true
    → table_outcome config input.Tick s ≡ with_reply (reply.Next true) s
unfolding table_outcome
table_is config s up turn =
    ap (λ p. cell p (call config.role s) (enquiry s) (try_nak s) (try_nak s) (next_in_turn s)) up
    ∙ ap (λ b. cond b (with_reply (reply.Next true) s) (try_nak s)) turn

-- so the customer is as it was, and the line sends that
tick_is : (l : ℕ) (c : Customer) → (session_on l c).phase ≡ Up → (session_on l c).has_turn ≡ true
    → (after_line_input l input.Tick c).frame ≡ (replied_to l (reply.Next true) c).frame
tick_is l c up turn =
    let s = session_on l c in
    let v = (with_reply (reply.Next true) s).verdict in
    ap (λ o. (by_parts l o.session o.verdict c).frame) (table_is (line_at l c.lines).state.config s up turn)
    ∙ ap (λ (t : CustomerStep). t.frame) (unraised l s v c refl)
    ∙ ap (λ (xs : List CustomerLine). (carried_out l v (lines_as c xs)).frame) (again l c c.lines)

-- ---- the block, or ACK0

abbrev without_items : Bool → Writing → LineState → Sending
without_items told w x = elim told [ true ↦ sending_of_no_block true x | false ↦ sending_of_block w x ]

abbrev of_items : List Item → Writing → LineState → Sending
of_items items w x = elim items [ [] ↦ sending_of_empty true w x | i ∷ is ↦ sending_of_block w x ]

by_telling : (b told : Bool) (w : Writing) (x : LineState) → (not told || false) ≡ b
    → (without_items told w x).frame ≡ cond b (block_frame w) (control_bytes Ack0)
by_telling true true w x e = absurd (cc e)
by_telling true false w x e = refl
by_telling false true w x e = refl
by_telling false false w x e = absurd (cc e)

by_items : (b : Bool) (items : List Item) (w : Writing) (x : LineState)
    → (not (all_suspended x.session.peer_fcs || same_fcs w.fcs x.session.own_fcs) || has_items items) ≡ b
    → (of_items items w x).frame ≡ cond b (block_frame w) (control_bytes Ack0)
by_items b [] w x e = by_telling b (all_suspended x.session.peer_fcs || same_fcs w.fcs x.session.own_fcs) w x e
by_items b (i ∷ is) w x e =
    let sent : b ≡ true
    = sym e ∙ or_true (not (all_suspended x.session.peer_fcs || same_fcs w.fcs x.session.own_fcs)) in
    sym (ap (λ t. cond t (block_frame w) (control_bytes Ack0)) sent)
  where
    or_true : (t : Bool) → (t || true) ≡ true
    or_true true = refl
    or_true false = refl

written_is : (w : Writing) (x : LineState) → (sending_of_written true w x).frame
    ≡ cond (is_sent w x) (block_frame w) (control_bytes Ack0)
written_is w x = by_items (is_sent w x) w.items w x refl

pub ticks_send_next : TicksSendNext
unfolding after_signal
ticks_send_next p l there up turn =
    let c = p.customer in
    let x = line_at l c.lines in
    let f = next_block c.entry l c.spool x in
    ap (λ b. (cond b (after_line_input l input.Tick c) (silent c)).frame) (lt-ltb l (length c.lines) there)
    ∙ tick_is l c up turn
    ∙ written_is f.block (with_outlet f.outlet x).state
