-- What a frame or a signal on a line does to a customer's whole files and to its streams from the hub.
use Rattle.njh_customer.proofs.Words
use Words.{is_next, ℕ, Bool, true, false, List, [], length, get_or, refl, sym, ap, subst, arith, get_or-map}
use Words.{map-set_same, length-map, length-set, text_bytes, Enquiry, Ack0, Nak, Item, text_of, CustomerEntry, own_fcs}
use Words.{Input, LineState, after_end, after_input, opening, Config, LineReply, acted_where, silent, with_idle_streams}
use Words.{with_raised_line, goes_up_by, replied_to, session_over, session_over_where, session_ended, carried_out}
use Words.{verdict_on, accepted_on, after_line_input, block_input, after_records, after_block, after_frame}
use Words.{after_signal, Customer, CustomerLine, no_customer_line, line_at, on_line, in_state, Carries, Ends, still_on}
use Words.{over_now, GoesOut, no_block, new_block, records_of_frame, IsNoNewBlock, nothing_sent, control, again}
use Words.{sign_on, count, without_records, LeadsByMoves, nowhere, OneActs, Outgoing, outgoing, streams_from_hub}
use Words.{streams_of, sending_of_control, sending_of_no_block, next_block, own_block, sending_of_reply, with_outlet}
use Words.{Signal, Option, Some, None, SessionEnd}
use Rattle.{std.proofs.Common.{◌≡◌, ◌<◌, ◌∙◌}, njh_bisync.specs.{Frames.Received, declared.frame.Control.Control}}
use Rattle.{njh_block.specs.Blocks.Block, njh_line.specs.declared.verdict.Verdict.Verdict}
use Rattle.njh_customer.proofs.{ActingMoves.{Acting, acting_where}, LineWalks.{kept, kepts, lines_of}}
use Rattle.njh_customer.proofs.{OutgoingLaws.{of_parts, on_line_senders, over_so, reply_unmoved}, ReplyLaws.empty_so}
use Rattle.njh_customer.proofs.{ReplyLaws.written_so, SendingMoves.{blocks_carry, out_of, filled_with_none, filling_on}}
use Rattle.njh_customer.proofs.{SendingMoves.{next_begins, next_is, next_leads}, StepWalks.{frame_holds, signal_holds}}
use Rattle.njh_customer.specs.FrameEffects.{Does}
use Rattle.njh_line.specs.declared.verdict.LineReply.TheVariants as reply

-- ---- what goes out

control_is : (line x : LineState) (which : Control) → IsNoNewBlock line (sending_of_control which x).frame
control_is line x Enquiry = control Enquiry refl
control_is line x Ack0 = control Ack0 refl
control_is line x Nak = control Nak refl

quiet_is : (l : ℕ) (r : LineReply) (c : Customer) → is_next r ≡ false
    → IsNoNewBlock (line_at l c.lines).state (replied_to l r c).frame
quiet_is l reply.Nothing c e = nothing_sent refl
quiet_is l (reply.Control which) c e = control_is (line_at l c.lines).state (line_at l c.lines).state which
quiet_is l reply.Again c e = again refl
quiet_is l (reply.SignOn kind) c e = sign_on kind refl
quiet_is l (reply.Sequence expected) c e =
    count (own_block (own_fcs c.spool) (line_at l c.lines).state).bcb (own_fcs c.spool) expected refl
quiet_is l (reply.Next or_ack0) c e = absurd (cc e)

-- in the place of a new block
in_its_place : (line x : LineState) (or_ack0 : Bool) → IsNoNewBlock line (sending_of_no_block or_ack0 x).frame
in_its_place line x true = control Ack0 refl
in_its_place line x false = nothing_sent refl

-- by how a line is set up, and its last transmission
as_set_up : (x y : LineState) (sent : List ℕ) → x.config ≡ y.config → x.last ≡ y.last → IsNoNewBlock x sent
    → IsNoNewBlock y sent
as_set_up x y sent config last (nothing_sent e) = nothing_sent e
as_set_up x y sent config last (control which e) = control which e
as_set_up x y sent config last (again e) = again (e ∙ last)
as_set_up x y sent config last (sign_on kind e) = sign_on kind
    (e ∙ ap (λ config. text_bytes (opening kind config)) config)
as_set_up x y sent config last (count bcb fcs expected e) = count bcb fcs expected e
as_set_up x y sent config last (without_records bcb fcs e) = without_records bcb fcs e

goes_out_as : (entry : CustomerEntry) (l : ℕ) (x y : LineState) (u v : Outgoing) (sent : List ℕ) → x.config ≡ y.config
    → x.last ≡ y.last → GoesOut entry l x u v sent → GoesOut entry l y u v sent
goes_out_as entry l x y u v sent config last (no_block same no_new) = no_block same
    (as_set_up x y sent config last no_new)
goes_out_as entry l x y u v sent config last (new_block bcb fcs items e leads carries) = new_block bcb fcs items e leads
    carries

-- how a line is set up, and its last transmission
abbrev set_up : CustomerLine → Config × List ℕ
set_up x = (x.state.config, x.state.last)

-- The line table judged what came, and then the records acted.
pub record Judged (up : Bool) (l : ℕ) (items : List Item) (c d : Customer) : Type 0 where
  pub entry : d.entry ≡ with_raised_line up l c.entry
  pub records : LeadsByMoves (OneActs (with_raised_line up l c.entry) l items) (outgoing c) (outgoing d)
  pub config : (line_at l d.lines).state.config ≡ (line_at l c.lines).state.config
  pub last : (line_at l d.lines).state.last ≡ (line_at l c.lines).state.last
  pub lines : length d.lines ≡ length c.lines

-- a new block, or what is sent in its place
next_goes_out : (l : ℕ) (or_ack0 : Bool) (c : Customer) → l < length c.lines
    → GoesOut c.entry l (line_at l c.lines).state (outgoing c) (outgoing (replied_to l (reply.Next or_ack0) c).after)
    (replied_to l (reply.Next or_ack0) c).frame
next_goes_out l or_ack0 c there =
    let line = (line_at l c.lines).state in
    let first = filling_on l c in
    let full = next_block c.entry l c.spool (line_at l c.lines) in
    let x = (with_outlet full.outlet (line_at l c.lines)).state in
    let base = streams_from_hub c.lines in
    let inside : l < length base = omega (arith, length-map c.lines (λ x. x.senders)) in
    let here : streams_of l (outgoing c) ≡ (line_at l c.lines).senders =
    get_or-map (λ y. y.senders) c.lines l no_customer_line in
    subst (λ y. GoesOut c.entry l line (outgoing c) y (replied_to l (reply.Next or_ack0) c).frame)
    (sym (next_is l or_ack0 c))
    (written_so (λ sent. GoesOut c.entry l line (outgoing c) (out_of l base full) sent.frame) or_ack0 full.block x
    (λ none. no_block (filled_with_none c.entry l base inside first none ∙ next_begins l c)
    (empty_so (λ sent. IsNoNewBlock line sent.frame) or_ack0 full.block x (in_its_place line x or_ack0)
    (without_records full.block.bcb full.block.fcs
    (ap (λ items. text_bytes (text_of full.block.bcb full.block.fcs items)) none))))
    (new_block full.block.bcb full.block.fcs full.block.items refl (next_leads l c there) (λ k few in_line.
    subst (λ x. Carries l k full.block.items x (out_of l base full)) (next_begins l c)
    (blocks_carry c.entry l k base first inside few (omega (arith, ap length here)) refl))))

reply_goes_out : (l : ℕ) (r : LineReply) (c : Customer) → l < length c.lines
    → GoesOut c.entry l (line_at l c.lines).state (outgoing c) (outgoing (replied_to l r c).after)
    (replied_to l r c).frame
reply_goes_out l (reply.Next or_ack0) c there = next_goes_out l or_ack0 c there
reply_goes_out l r c there = no_block (reply_unmoved l r c refl) (quiet_is l r c refl)

-- ---- a step, after its records

-- what goes out, and then the session goes on or ends
ended_so : (l : ℕ) (ended : Bool) (d : Customer) → Ends d.entry l (outgoing d) (session_over_where ended l d)
ended_so l true d = over_now (over_so l d) refl
ended_so l false d = still_on refl refl

over_lines : (l : ℕ) (ended : Bool) (d : Customer) → length (session_over_where ended l d).lines ≡ length d.lines
over_lines l true d = length-set d.lines l (with_idle_streams (line_at l d.lines))
over_lines l false d = refl

kept_at : (l : ℕ) (c d : Customer) → kepts d.lines ≡ kepts c.lines
    → kept (line_at l d.lines) ≡ kept (line_at l c.lines)
kept_at l c d e = sym (get_or-map kept d.lines l no_customer_line) ∙ ap (λ ps. get_or ps l (kept no_customer_line)) e
    ∙ get_or-map kept c.lines l no_customer_line

carried_does : (l : ℕ) (items : List Item) (v : Verdict) (c d : Customer) (up : Bool) → Judged up l items c d
    → l < length d.lines → Does l items c (carried_out l v d)
carried_does l items v c d up judged there =
    let sent = (replied_to l v.reply d).after in
    record {
      up = up;
      acted = outgoing d;
      records = judged.records;
      answered = outgoing sent;
      answer = subst (λ entry. GoesOut entry l (line_at l c.lines).state (outgoing d) (outgoing sent)
          (replied_to l v.reply d).frame) judged.entry
          (goes_out_as d.entry l (line_at l d.lines).state (line_at l c.lines).state (outgoing d) (outgoing sent)
          (replied_to l v.reply d).frame judged.config judged.last (reply_goes_out l v.reply d there));
      end = subst (λ entry. Ends entry l (outgoing sent) (session_over_where v.ended l sent)) judged.entry
          (ended_so l v.ended sent);
      lines = over_lines l v.ended sent
          ∙ length-set d.lines l (sending_of_reply d.entry l v.reply d.spool (line_at l d.lines)).line ∙ judged.lines;
    }

accepted_is : (l : ℕ) (came : Input) (c : Customer) → outgoing (accepted_on l came c) ≡ outgoing c
accepted_is l came c = ap (of_parts c.spool.whole c.spool.arrived)
    (on_line_senders l (in_state (after_input came)) c.lines (λ x. refl))

-- what comes sets no line up anew, nor is it a transmission
accepted_at : (l : ℕ) (came : Input) (c : Customer) → set_up (line_at l (accepted_on l came c).lines) ≡ set_up
    (line_at l c.lines)
accepted_at l came c =
    let lines = on_line l (in_state (after_input came)) c.lines in
    sym (get_or-map set_up lines l no_customer_line) ∙ ap (λ ps. get_or ps l (set_up no_customer_line))
    (map-set_same set_up c.lines l (in_state (after_input came) (line_at l c.lines)) no_customer_line refl)
    ∙ get_or-map set_up c.lines l no_customer_line

accepted_judged : (l : ℕ) (items : List Item) (came : Input) (c d : Customer)
    → Acting l items (accepted_on l came c) d → Judged (goes_up_by l came c) l items c d
accepted_judged l items came c d acting =
    let a = accepted_on l came c in
    record {
      entry = acting.entry;
      records = subst (λ x. LeadsByMoves (OneActs a.entry l items) x (outgoing d))
          (accepted_is l came c) acting.records;
      config = ap (λ p. p.0) (kept_at l a d acting.kept) ∙ ap (λ p. p.0) (accepted_at l came c);
      last = ap (λ p. p.1) (kept_at l a d acting.kept) ∙ ap (λ p. p.1) (accepted_at l came c);
      lines = lines_of a d acting.kept ∙ length-set c.lines l (in_state (after_input came) (line_at l c.lines));
    }

input_does : (l : ℕ) (items : List Item) (came : Input) (c : Customer) → l < length c.lines
    → Does l items c (after_line_input l came c)
input_does l items came c there =
    let d = accepted_on l came c in
    let judged = accepted_judged l items came c d (acting_where false l items d) in
    carried_does l items (verdict_on l came c) c d (goes_up_by l came c) judged (omega arith)

ended_does : (end : SessionEnd) (l : ℕ) (items : List Item) (c d : Customer) (up : Bool) → Judged up l items c d
    → Does l items c (silent (session_ended end l d))
ended_does end l items c d up judged =
    let e : Customer = record d { lines = on_line l (in_state (after_end end)) d.lines } in
    record {
      up = up;
      acted = outgoing d;
      records = judged.records;
      answered = outgoing e;
      answer = no_block (ap (of_parts d.spool.whole d.spool.arrived)
          (on_line_senders l (in_state (after_end end)) d.lines (λ x. refl))) (nothing_sent refl);
      end = subst (λ entry. Ends entry l (outgoing e) (session_over l e)) judged.entry (over_now (over_so l e) refl);
      lines = over_lines l true e ∙ length-set d.lines l (in_state (after_end end) (line_at l d.lines)) ∙ judged.lines;
    }

after_does : (l : ℕ) (items : List Item) (o : Option SessionEnd) (v : Verdict) (c d : Customer) (up : Bool)
    → Judged up l items c d → l < length d.lines → Does l items c (after_records o l v d)
after_does l items (Some end) v c d up judged there = ended_does end l items c d up judged
after_does l items None v c d up judged there = carried_does l items v c d up judged there

block_does : (l : ℕ) (b : Block) (c : Customer) → l < length c.lines → Does l b.items c (after_block l b c)
block_does l b c there =
    let v = verdict_on l (block_input b) c in
    let a = acted_where v.acts l b.items (accepted_on l (block_input b) c) in
    let judged = accepted_judged l b.items (block_input b) c a.customer
    (acting_where v.acts l b.items (accepted_on l (block_input b) c)) in
    after_does l b.items a.end v c a.customer (goes_up_by l (block_input b) c) judged (omega arith)

silent_does : (l : ℕ) (items : List Item) (c : Customer) → Does l items c (silent c)
silent_does l items c = record {
  up = false;
  acted = outgoing c;
  records = nowhere (outgoing c);
  answered = outgoing c;
  answer = no_block refl (nothing_sent refl);
  end = still_on refl refl;
  lines = refl;
}

pub frame_does : (l : ℕ) (x : Received) (c : Customer) → Does l (records_of_frame x) c (after_frame l x c)
frame_does l x c = frame_holds l c (λ items s. Does l items c s) (record {
  none = λ items. silent_does l items c;
  input = λ came there. input_does l [] came c there;
  block = λ b there. block_does l b c there;
}) x

pub signal_does : (l : ℕ) (x : Signal) (c : Customer) → Does l [] c (after_signal l x c)
signal_does l x c = signal_holds l c (λ s. Does l [] c s) (silent_does l [] c)
    (λ came there. input_does l [] came c there) x
