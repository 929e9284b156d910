-- The lines that are marked as up are those that are up.
use Rattle.njh_customer.proofs.Words
use Words.{ℕ, Bool, true, false, not, List, map, set, get_or, refl, sym, ap, set-set, get_or-map, map-set_same, map-set}
use Words.{set-get_or, map-map, CustomerEntry, Receiver, is_up, Input, after_end, after_input, KeepsUp, Phase, Config}
use Words.{acted_where, with_idle_streams, with_raised_line, goes_up, replied_to, session_over_where, session_ended}
use Words.{carried_out, verdict_on, accepted_on, after_line_input, block_input, after_records, after_block, Customer}
use Words.{CustomerLine, IsMarked, no_customer_line, line_at, on_line, in_state, config_of, fresh_customer, idle_line}
use Words.{MarksAreRight, Some, None, SessionEnd, rest_on, sending_of_reply, customer_after_order}
use Rattle.{std.proofs.Common.{◌≡◌, ◌&&◌, ◌∙◌}, njh_block.specs.Blocks.Block, njh_line.proofs.UpLaws.inputs_keep_up}
use Rattle.{njh_line.specs.declared.verdict.Verdict.Verdict, njh_customer.proofs.ActingMoves.acting_where}
use Rattle.njh_customer.proofs.{LineWalks.{kept, kepts, order_entry, order_keeps}, ReplyLaws.reply_lasting}
use Rattle.njh_customer.proofs.StepWalks.{StaysInFrames, event_so}
use Rattle.njh_customer.proofs.StepWalks.{frame_holds, signal_holds, take_so}

-- ---- which lines are up

abbrev is_line_up : CustomerLine → Bool
is_line_up x = is_up x.state.session.phase

abbrev ups : List CustomerLine → List Bool
ups lines = map is_line_up lines

abbrev is_kept_up : Config × List ℕ × Phase × ℕ → Bool
is_kept_up k = is_up k.2

ups_kept : (xs ys : List CustomerLine) → kepts xs ≡ kepts ys → ups xs ≡ ups ys
ups_kept xs ys e = sym (map-map is_kept_up kept xs) ∙ ap (map is_kept_up) e ∙ map-map is_kept_up kept ys

-- ---- marks

marks_over : (up : Bool) (l : ℕ) (entry : CustomerEntry)
    → set (with_raised_line up l entry).up l false ≡ set entry.up l false
marks_over true l entry = set-set entry.up l true false
marks_over false l entry = refl

-- a line that is marked as it was before, and goes up or doesn't
marks_on : (p q : Phase) (l : ℕ) (entry : CustomerEntry) (us : List Bool) → entry.up ≡ us → get_or us l false ≡ is_up p
    → (is_up p ≡ true → is_up q ≡ true) → (with_raised_line (goes_up p q) l entry).up ≡ set us l (is_up q)
marks_on p q l entry us marked has = at (is_up p) (is_up q) has
  where
    stays : (b : Bool) → get_or us l false ≡ b → entry.up ≡ set us l b
    stays b e = marked ∙ sym (set-get_or us l false) ∙ ap (set us l) e

    at : (a b : Bool) → get_or us l false ≡ a → (a ≡ true → b ≡ true)
        → (with_raised_line (b && not a) l entry).up ≡ set us l b
    at true true e on = stays true e
    at true false e on = absurd (cc (sym (on refl)))
    at false true e on = ap (λ xs. set xs l true) marked
    at false false e on = stays false e

module _ (l : ℕ) (came : Input) (c : Customer) (marked : IsMarked c) where
  abbrev before : Phase
  before = (line_at l c.lines).state.session.phase

  abbrev after : Phase
  after = (after_input came (line_at l c.lines).state).session.phase

  keeps : KeepsUp (line_at l c.lines).state.config came (line_at l c.lines).state.session
  keeps = inputs_keep_up (line_at l c.lines).state.config (line_at l c.lines).state.session came

  has_mark : get_or (ups c.lines) l false ≡ is_up before
  has_mark = get_or-map is_line_up c.lines l no_customer_line

  accepted_ups : ups (accepted_on l came c).lines ≡ set (ups c.lines) l (is_up after)
  accepted_ups = map-set is_line_up c.lines l (in_state (after_input came) (line_at l c.lines))

  -- once the session is over
  lowered : (d : Customer) → d.entry ≡ (accepted_on l came c).entry → set d.entry.up l false ≡ set (ups c.lines) l false
  lowered d entry =
      ap (λ (e : CustomerEntry). set e.up l false) entry ∙ marks_over (goes_up before after) l c.entry ∙ ap
      (λ us. set us l false) marked

  -- after the records
  carried_marked : (v : Verdict) (d : Customer) → d.entry ≡ (accepted_on l came c).entry
      → kepts d.lines ≡ kepts (accepted_on l came c).lines
      → v.ended ≡ (verdict_on l came c).ended → IsMarked (carried_out l v d).after
  carried_marked v d entry kept_so ended =
      let sent = (replied_to l v.reply d).after in
      let sent_ups : ups sent.lines ≡ set (ups c.lines) l (is_up after) =
      map-set_same is_line_up d.lines l (sending_of_reply d.entry l v.reply d.spool (line_at l d.lines)).line
      no_customer_line (ap (λ (p : Config × Phase × ℕ × List Receiver). is_up p.1)
      (reply_lasting d.entry l v.reply d.spool (line_at l d.lines)))
      ∙ ups_kept d.lines (accepted_on l came c).lines kept_so ∙ accepted_ups in
      (elim (v.ended) as (λ b. b ≡ (verdict_on l came c).ended → IsMarked (session_over_where b l sent)) [
        | true ↦ λ e. lowered d entry ∙ ap (set (ups c.lines) l) (sym (keeps.over (sym e))) ∙ sym sent_ups ∙ sym
            (map-set_same is_line_up sent.lines l (with_idle_streams (line_at l sent.lines)) no_customer_line refl)
        | false ↦ λ e. ap (λ (x : CustomerEntry). x.up) entry
            ∙ marks_on before after l c.entry (ups c.lines) marked has_mark (keeps.on (sym e)) ∙ sym sent_ups
      ]) ended

  -- a record ended the session
  ended_marked : (end : SessionEnd) (d : Customer) → d.entry ≡ (accepted_on l came c).entry
      → kepts d.lines ≡ kepts (accepted_on l came c).lines → IsMarked (session_ended end l d)
  ended_marked end d entry kept_so =
      let xs = on_line l (in_state (after_end end)) d.lines in
      lowered d entry ∙ sym (map-set_same is_line_up xs l (with_idle_streams (line_at l xs)) no_customer_line refl
      ∙ map-set is_line_up d.lines l (in_state (after_end end) (line_at l d.lines))
      ∙ ap (λ us. set us l false) (ups_kept d.lines (accepted_on l came c).lines kept_so ∙ accepted_ups)
      ∙ set-set (ups c.lines) l (is_up after) false)

  input_marked : IsMarked (after_line_input l came c).after
  input_marked = carried_marked (verdict_on l came c) (accepted_on l came c) refl refl refl

-- ---- a frame, and a signal

block_marked : (l : ℕ) (b : Block) (c : Customer) → IsMarked c → IsMarked (after_block l b c).after
block_marked l b c marked =
    let v = verdict_on l (block_input b) c in
    let a = acted_where v.acts l b.items (accepted_on l (block_input b) c) in
    let acting = acting_where v.acts l b.items (accepted_on l (block_input b) c) in
    elim (a.end) as (λ o. IsMarked (after_records o l v a.customer).after) [
      | Some end ↦ ended_marked l (block_input b) c marked end a.customer acting.entry acting.kept
      | None ↦ carried_marked l (block_input b) c marked v a.customer acting.entry acting.kept refl
    ]

frames_marked : StaysInFrames IsMarked
frames_marked = record {
  by_frame = λ l x c marked. frame_holds l c (λ items s. IsMarked s.after) (record {
    none = λ items. marked;
    input = λ came there. input_marked l came c marked;
    block = λ b there. block_marked l b c marked;
  }) x;
  by_signal = λ l x c marked. signal_holds l c (λ s. IsMarked s.after) marked
      (λ came there. input_marked l came c marked) x;
  by_routes = λ routes c marked. marked;
  by_order = λ order c marked. let d = customer_after_order order c in
      ap (λ (entry : CustomerEntry). entry.up) (order_entry order c) ∙ marked
      ∙ sym (ups_kept d.lines c.lines (order_keeps order c));
}

fresh_marked : (entry : CustomerEntry) → IsMarked (fresh_customer entry)
fresh_marked entry = sym (map-map is_line_up (λ line. idle_line (config_of entry line) line.streams) entry.lines)

pub marks_right : MarksAreRight
marks_right = record {
  fresh = fresh_marked;
  events = event_so IsMarked frames_marked;
  takes = λ p l piece marked. take_so IsMarked frames_marked.by_frame
      (rest_on l p) p.customer l piece marked;
}
