-- In a step by bytes of a line the records of one block act at most: a block whose records act is answered, or one of
-- them ends the session, and then none acts before the line has answered a call. On a line that is down what comes
-- brings no record, and nothing is sent for it but the answer to a call.
use Rattle.njh_customer.proofs.Words
use Words.{ℕ, zero, suc, true, List, [], set, refl, sym, subst, does_nothing, is_answered, control_verdict, no_verdict}
use Words.{Input, table_outcome, after_end, after_input, Phase, Down, acted_where, CustomerStep, with_idle_streams}
use Words.{replied_to, session_over_where, session_ended, carried_out, verdict_on, accepted_on, after_line_input}
use Words.{block_input, after_records, after_block, after_frame, Customer, CustomerLine, line_at, on_line, in_state}
use Words.{FilesGrow, SignalsGrowFiles, next_block, with_outlet, false, length, Option, Some, None, Result, Ok, Err}
use Words.{arith, rest_step, IsShort, Rest, read_block, BlockFault, CustomerSpool, all_acted, acted_on, Taking}
use Words.{SessionEnd, or_later, take_step, block_records, records_of_frame, IsShortRest, TakesGrowFiles, rest_on}
use Rattle.{std.proofs.Common.{◌≡◌, ◌∷◌, ◌<◌, ◌≤◌, ◌*◌}, njh_bisync.specs.{Frames.Received, Written.text_bytes}}
use Rattle.{njh_bisync.specs.declared.frame.Control.Control, njh_block.specs.Blocks.Block}
use Rattle.njh_line.{proofs.AnsweringLaws.{acting_is_answered, down_stays_down}, specs.declared.verdict.Verdict.Verdict}
use Rattle.njh_customer.proofs.{BlockSizes.{BlockIsFew, block_few}, GrowingLaws.{then_quietly, unchanged, reply_grows}}
use Rattle.njh_customer.proofs.GrowingLaws.{over_grows, over_where_grows, grow_within, quietly_then, data_count}
use Rattle.njh_customer.proofs.{GrowingLaws.all_grow, ReplyLaws.{empty_so, written_so}, RestLengths.IsShortFrame}
use Rattle.njh_customer.proofs.GrowingLaws.{grow_then, many_go_on, orders_grow, partials_numbered, rerouted_count}
use Rattle.njh_customer.proofs.{GrowingLaws.routes_grow, RestLengths.{events_short, opened_short, takes_short}}
use Rattle.njh_customer.proofs.{RestLengths.step_short, StepWalks.{frame_holds, signal_holds, HoldsOfSteps}}
use Rattle.njh_bisync.specs.declared.frame.Control.TheVariants as control
use Rattle.njh_line.specs.declared.verdict.LineReply.TheVariants as reply
use Rattle.njh_bisync.specs.Frames as frame

abbrev pub phase_on : ℕ → Customer → Phase
phase_on l c = (line_at l c.lines).state.session.phase

-- a frame is sent
abbrev pub IsSent : List ℕ → Type 0
IsSent [] = ⊥
IsSent (byte ∷ bytes) = Unit {0}

-- ---- a line that is down

pub set_down : (lines : List CustomerLine) (l : ℕ) (x : CustomerLine) → x.state.session.phase ≡ Down
    → (line_at l (set lines l x)).state.session.phase ≡ Down
set_down [] l x down = refl
set_down (y ∷ ys) zero x down = down
set_down (y ∷ ys) (suc l) x down = set_down ys l x down

pub ended_down : (end : SessionEnd) (l : ℕ) (c : Customer) → phase_on l (session_ended end l c) ≡ Down
ended_down end l c =
    let lines = on_line l (in_state (after_end end)) c.lines in
    set_down lines l (with_idle_streams (line_at l lines))
    (set_down c.lines l (in_state (after_end end) (line_at l c.lines)) refl)

-- ---- the next block

text_sent : (bytes : List ℕ) → IsSent (text_bytes bytes)
unfolding text_bytes
text_sent bytes = tt

pub next_sent : (l : ℕ) (c : Customer) → IsSent (replied_to l (reply.Next true) c).frame
next_sent l c =
    let f = next_block c.entry l c.spool (line_at l c.lines) in
    let x = (with_outlet f.outlet (line_at l c.lines)).state in
    written_so (λ sent. IsSent sent.frame) true f.block x
    (λ none. empty_so (λ sent. IsSent sent.frame) true f.block x tt (text_sent _)) (text_sent _)

control_sent : (l : ℕ) (which : Control) (c : Customer) → IsSent (replied_to l (reply.Control which) c).frame
control_sent l control.Enquiry c = tt
control_sent l control.Ack0 c = tt
control_sent l control.Nak c = tt

-- ---- what comes but the records of a block

pub carried_grows : (l : ℕ) (v : Verdict) (c : Customer) → FilesGrow 0 c.spool (carried_out l v c).after.spool
carried_grows l v c =
    let d = (replied_to l v.reply c).after in
    then_quietly 0 c.spool d.spool (session_over_where v.ended l d).spool (reply_grows l v.reply c)
    (over_where_grows v.ended l d)

pub input_grows : (l : ℕ) (came : Input) (c : Customer) → FilesGrow 0 c.spool (after_line_input l came c).after.spool
input_grows l came c = carried_grows l (verdict_on l came c) (accepted_on l came c)

pub ended_grows : (end : SessionEnd) (l : ℕ) (c : Customer) → FilesGrow 0 c.spool (session_ended end l c).spool
ended_grows end l c = over_grows l (record c { lines = on_line l (in_state (after_end end)) c.lines })

pub signals_grow : SignalsGrowFiles
signals_grow p l signal =
    let c = p.customer in
    signal_holds l c (λ s. FilesGrow 0 c.spool s.after.spool) (unchanged c.spool)
    (λ came there. input_grows l came c) signal

-- ---- a frame on a line that is down

pub data StaysDown (l : ℕ) (c : Customer) (s : CustomerStep) : Type 0 where
  answers_call : FilesGrow 0 c.spool s.after.spool → IsSent s.frame → StaysDown l c s
  still_down : FilesGrow 0 c.spool s.after.spool → phase_on l s.after ≡ Down → StaysDown l c s

quiet_down : (l : ℕ) (c : Customer) → phase_on l c ≡ Down → phase_on l (carried_out l no_verdict c).after ≡ Down
quiet_down l c down = set_down c.lines l (line_at l c.lines) down

accepted_down : (l : ℕ) (came : Input) (c : Customer) → (let x = (line_at l c.lines).state in
    (table_outcome x.config came x.session).session.phase ≡ Down) → phase_on l (accepted_on l came c) ≡ Down
accepted_down l came c down = set_down c.lines l (in_state (after_input came) (line_at l c.lines)) down

input_down : (l : ℕ) (came : Input) (c : Customer) → phase_on l c ≡ Down → StaysDown l c (after_line_input l came c)
input_down l came c down =
    let x = (line_at l c.lines).state in
    let d = accepted_on l came c in
    elim (down_stays_down x.config x.session came down) [
      | does_nothing verdict phase ↦ still_down (input_grows l came c)
          (subst (λ v. phase_on l (carried_out l v d).after ≡ Down) (sym verdict)
          (quiet_down l d (accepted_down l came c phase)))
      | is_answered which verdict ↦ answers_call (input_grows l came c)
          (subst (λ v. IsSent (carried_out l v d).frame) (sym verdict) (control_sent l which d))
    ]

block_stays_down : (l : ℕ) (b : Block) (c : Customer) → phase_on l c ≡ Down → StaysDown l c (after_block l b c)
block_stays_down l b c down =
    let x = (line_at l c.lines).state in
    let d = accepted_on l (block_input b) c in
    let by_verdict : Verdict → CustomerStep = λ v.
    let a = acted_where v.acts l b.items d in after_records a.end l v a.customer in
    elim (down_stays_down x.config x.session (block_input b) down) [
      | does_nothing verdict phase ↦ subst (λ v. StaysDown l c (by_verdict v)) (sym verdict)
          (still_down (carried_grows l no_verdict d) (quiet_down l d (accepted_down l (block_input b) c phase)))
      | is_answered which verdict ↦ subst (λ v. StaysDown l c (by_verdict v)) (sym verdict)
          (answers_call (carried_grows l (control_verdict which) d) (control_sent l which d))
    ]

pub frame_down : (l : ℕ) (x : Received) (c : Customer) → phase_on l c ≡ Down → StaysDown l c (after_frame l x c)
frame_down l x c down = frame_holds l c (λ items s. StaysDown l c s) (record {
  none = λ items. still_down (unchanged c.spool) down;
  input = λ came there. input_down l came c down;
  block = λ b there. block_stays_down l b c down;
}) x

-- ---- a frame on any line

data Steps (l : ℕ) (c : Customer) (s : CustomerStep) : Type 0 where
  idles : FilesGrow 0 c.spool s.after.spool → Steps l c s
  answers : (k : ℕ) → k < 1366 → FilesGrow k c.spool s.after.spool → IsSent s.frame → Steps l c s
  goes_down : (k : ℕ) → k < 1366 → FilesGrow k c.spool s.after.spool → phase_on l s.after ≡ Down → Steps l c s

-- what is left of a step after its first frame
or_grows : (k n : ℕ) (rest : Rest) (x : CustomerSpool) (after : Customer) (sent : List ℕ) (later : Taking)
    → (sent ≡ [] → FilesGrow k x later.after.spool) → FilesGrow k x after.spool
    → FilesGrow k x (or_later n rest (record { after = after; frame = sent }) later).after.spool
or_grows k n rest x after [] later silently grow = silently refl
or_grows k n rest x after (byte ∷ bytes) later silently grow = grow

no_more : {A : Type 0} (sent : List ℕ) → IsSent sent → sent ≡ [] → A
no_more sent is none = absurd (subst IsSent none is)

-- a line that is down, as long as nothing is sent
abbrev TakesQuietly : Rest → ℕ → List ℕ → Type 0
TakesQuietly rest l piece = (c : Customer) → phase_on l c ≡ Down
    → FilesGrow 0 c.spool (take_step rest c l piece).after.spool

abbrev taken_on : Rest → ℕ → List ℕ → CustomerStep → Taking
taken_on rest l bytes s = or_later 1 rest (record { after = s.after; frame = s.frame }) (take_step rest s.after l bytes)

down_takes : (rest : Rest) (l : ℕ) (piece : List ℕ) → TakesQuietly rest l piece
down_takes rest l [] c down = unchanged c.spool
down_takes rest l (byte ∷ bytes) c down =
    let next = (rest_step rest byte).rest in
    let quietly : TakesQuietly next l bytes = down_takes next l bytes in
    elim ((rest_step rest byte).frame) as
    (λ o. FilesGrow 0 c.spool (taken_on next l bytes (acted_on l o c)).after.spool) [
      | None ↦ quietly c down
      | Some received ↦
          let s = after_frame l received c in
          let later = take_step next s.after l bytes in
          elim (frame_down l received c down) [
            | answers_call grow sent ↦
                or_grows 0 1 next c.spool s.after s.frame later (no_more s.frame sent) grow
            | still_down grow low ↦ or_grows 0 1 next c.spool s.after s.frame later
                (λ silent. then_quietly 0 c.spool s.after.spool later.after.spool grow (quietly s.after low)) grow
          ]
    ]

-- a step brings fewer than 1,366 records
abbrev GrowsInStep : CustomerSpool → CustomerSpool → Type 0
GrowsInStep x y = (k : ℕ) × (k < 1366) × FilesGrow k x y

block_steps : (l : ℕ) (b : Block) (c : Customer) → 3 * data_count b.items ≤ 4096 → Steps l c (after_block l b c)
block_steps l b c short =
    let x = (line_at l c.lines).state in
    let v = verdict_on l (block_input b) c in
    let d = accepted_on l (block_input b) c in
    let a = all_acted l b.items d in
    let k = data_count b.items in
    let below : k < 1366 = omega arith in
    let grow : FilesGrow k c.spool a.customer.spool = all_grow l b.items d in
    (elim (v.acts) as (λ acts. v.acts ≡ acts
    → (let w = acted_where acts l b.items d in Steps l c (after_records w.end l v w.customer))) [
      | true ↦ λ acts. elim (a.end) as (λ o. Steps l c (after_records o l v a.customer)) [
        | Some end ↦ goes_down k below (then_quietly k c.spool a.customer.spool (session_ended end l a.customer).spool
            grow (ended_grows end l a.customer)) (ended_down end l a.customer)
        | None ↦ answers k below (then_quietly k c.spool a.customer.spool (carried_out l v a.customer).after.spool
            grow (carried_grows l v a.customer)) (subst (λ r. IsSent (replied_to l r a.customer).frame)
            (sym (acting_is_answered x.config x.session (block_input b) acts)) (next_sent l a.customer))
      ]
      | false ↦ λ e. idles (carried_grows l v d)
    ]) refl

-- by a block that isn't too long
steps_few : (l : ℕ) (c : Customer) → HoldsOfSteps l c (λ items s. 3 * data_count items ≤ 4096 → Steps l c s)
steps_few l c = record {
  none = λ items short. idles (unchanged c.spool);
  input = λ came there short. idles (input_grows l came c);
  block = λ b there short. block_steps l b c short;
}

frame_few : (x : Received) → IsShort x → 3 * data_count (records_of_frame x) ≤ 4096
frame_few (frame.Text text) short = at_block (read_block text) (block_few text)
  where
    at_block : (b : Result Block BlockFault) → BlockIsFew (length text) b → 3 * data_count (block_records b) ≤ 4096
    at_block (Ok b) few = omega arith
    at_block (Err e) few = omega arith
frame_few _ short = omega arith

frame_steps : (l : ℕ) (x : Received) (c : Customer) → IsShort x → Steps l c (after_frame l x c)
frame_steps l x c short =
    frame_holds l c (λ items s. 3 * data_count items ≤ 4096 → Steps l c s) (steps_few l c) x (frame_few x short)

-- ---- a step by bytes

takes : (rest : Rest) (l : ℕ) (piece : List ℕ) (c : Customer) → IsShortRest rest
    → GrowsInStep c.spool (take_step rest c l piece).after.spool
takes rest l [] c short = (0, omega arith, unchanged c.spool)
takes rest l (byte ∷ bytes) c short =
    let t = step_short rest byte short in
    at_frame (rest_step rest byte).frame t.1 (λ d. takes (rest_step rest byte).rest l bytes d t.0)
  where
    next : Rest
    next = (rest_step rest byte).rest

    Later : Type 0
    Later = (d : Customer) → GrowsInStep d.spool (take_step next d l bytes).after.spool

    at_steps : (s : CustomerStep) → Later → Steps l c s → GrowsInStep c.spool (taken_on next l bytes s).after.spool
    at_steps s takes_later (idles grow) =
        let later = take_step next s.after l bytes in
        let onwards = takes_later s.after in
        let k = onwards.0 in (
          k,
          onwards.1,
          or_grows k 1 next c.spool s.after s.frame later
              (λ silent. quietly_then k c.spool s.after.spool later.after.spool grow onwards.2)
              (grow_within 0 k c.spool s.after.spool (omega arith) grow),
        )
    at_steps s takes_later (answers k below grow sent) = (
      k,
      below,
      or_grows k 1 next c.spool s.after s.frame (take_step next s.after l bytes) (no_more s.frame sent) grow,
    )
    at_steps s takes_later (goes_down k below grow low) = let later = take_step next s.after l bytes in (
      k,
      below,
      or_grows k 1 next c.spool s.after s.frame later
          (λ silent. then_quietly k c.spool s.after.spool later.after.spool grow
          (down_takes next l bytes s.after low)) grow,
    )

    at_frame : (o : Option Received) → IsShortFrame o → Later
        → GrowsInStep c.spool (taken_on next l bytes (acted_on l o c)).after.spool
    at_frame None short_frame takes_later = takes_later c
    at_frame (Some received) short_frame takes_later =
        at_steps (after_frame l received c) takes_later (frame_steps l received c short_frame)

pub takes_grow : TakesGrowFiles
takes_grow p l piece short = takes (rest_on l p) l piece p.customer short

-- ---- what the law says

pub ruleset growing = (
  takes_grow,
  signals_grow,
  routes_grow,
  orders_grow,
  grow_then,
  opened_short,
  events_short,
  takes_short,
  rerouted_count,
  many_go_on,
  partials_numbered,
)
