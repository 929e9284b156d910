-- All moves of a step, and of an event.
use Rattle.njh_customer.proofs.Words
use Words.{ℕ, Bool, true, false, List, [], Option, Some, None, length, set, take, refl, sym, ap, subst, arith, get_or}
use Words.{set-set, set-get_or, Contains-append_left, Contains-append_right, Contains, cons_option, flat_map}
use Words.{frames_after, rest_step, Rest, Item, CustomerEntry, entry_marked, routes_checked, CustomerStep}
use Words.{with_raised_line, after_signal, after_frame, Customer, with_marks, acted_on, bytes_run, still_on, over_now}
use Words.{no_block, new_block, records_of_frame, followed_by, EventsKeepEntries, EventsKeepFaults, EventsKeepLines}
use Words.{TakesKeepEntries, LeadsByMoves, nowhere, onward, Moves, MovesBy, Records, by_record, by_sending, by_end}
use Words.{OneActs, Sends, EventsMoveSo, TakesMoveSo, coming, entry_with, Outgoing, outgoing, part_after_bytes, rest_on}
use Words.{OwnBytes, OwnSignal, OwnRoutes, OwnOrder, Run, event_run}
use Rattle.{std.proofs.Common.{◌≡◌, ◌∷◌, ◌++◌, ◌∙◌}, njh_bisync.specs.Frames.Received}
use Rattle.njh_customer.proofs.{DoingLaws.{frame_does, signal_does}, OutgoingLaws.{leads_as, leads_then}}
use Rattle.njh_customer.proofs.{GivenOrders.{order_keeps_entry, order_moves, orders_do}}
use Rattle.njh_customer.proofs.{PieceLaws.{no_bytes_do_nothing, steps_follow_bytes}, RoutesMoves.routes_move}
use Rattle.njh_customer.proofs.{RoutesMoves.{routes_do, routes_keep_entry}, StepWalks.take_so}
use Rattle.njh_customer.specs.FrameEffects.{Does}

more_records : (entry : CustomerEntry) (l : ℕ) (some items : List Item) (x y : Outgoing)
    → ((i : Item) → Contains some i → Contains items i) → Moves entry l some x y → Moves entry l items x y
more_records entry l some items x y among (by_record (i, there, acts)) = by_record (i, among i there, acts)
more_records entry l some items x y among (by_sending sends) = by_sending sends
more_records entry l some items x y among (by_end over) = by_end over

-- all moves of a step
pub does_moves : (l : ℕ) (items : List Item) (c : Customer) (s : CustomerStep) (does : Does l items c s)
    → LeadsByMoves (Moves (with_raised_line does.up l c.entry) l items) (outgoing c) (outgoing s.after)
does_moves l items c s does =
    let entry = with_raised_line does.up l c.entry in
    let answer : LeadsByMoves (Moves entry l items) does.acted does.answered = elim (does.answer) [
      | no_block same no_new ↦ subst (LeadsByMoves (Moves entry l items) does.acted) (sym same) (nowhere does.acted)
      | new_block bcb fcs is frame sends carries ↦
          leads_as (Sends entry l) (Moves entry l items) does.acted does.answered (λ u v send. by_sending send) sends
    ] in
    let end : LeadsByMoves (Moves entry l items) does.answered (outgoing s.after) = elim (does.end) [
      | still_on same kept ↦
          subst (LeadsByMoves (Moves entry l items) does.answered) (sym same) (nowhere does.answered)
      | over_now gone lowered ↦
          onward does.answered (outgoing s.after) (outgoing s.after) (by_end gone) (nowhere (outgoing s.after))
    ] in
    leads_then (Moves entry l items) (outgoing c) does.acted (outgoing s.after)
    (leads_as (OneActs entry l items) (Moves entry l items) (outgoing c) does.acted
    (λ u v acts. by_record acts) does.records)
    (leads_then (Moves entry l items) does.acted does.answered (outgoing s.after) answer end)

-- ---- of an entry the marks alone are changed

-- an entry as it is, or with a line raised, is one with that line's mark set
abbrev pub IsMarkedAt : ℕ → (new old : CustomerEntry) → Type 0
IsMarkedAt l new old = (up : Bool) × (new ≡ entry_marked l up old)

unmarked_at : (l : ℕ) (entry : CustomerEntry) → IsMarkedAt l entry entry
unmarked_at l entry = (
  get_or entry.up l false,
  sym (ap (λ (up : List Bool). record entry { up = up }) (set-get_or entry.up l false)),
)

raised_at : (up : Bool) (l : ℕ) (entry : CustomerEntry) → IsMarkedAt l (with_raised_line up l entry) entry
raised_at true l entry = (true, refl)
raised_at false l entry = unmarked_at l entry

-- and the last that is set holds
marked_again : (l : ℕ) (a b : Bool) (entry : CustomerEntry)
    → entry_marked l b (entry_marked l a entry) ≡ entry_marked l b entry
marked_again l a b entry = ap (λ (up : List Bool). record entry { up = up }) (set-set entry.up l a b)

marked_after : (l : ℕ) (old between new : CustomerEntry) → IsMarkedAt l between old → (b : Bool)
    → new ≡ entry_marked l b between → new ≡ entry_marked l b old
marked_after l old between new first b second = second ∙ ap (entry_marked l b) first.1 ∙ marked_again l first.0 b old

-- what is an entry with some marks is so with its own
own_marks : (new old : CustomerEntry) (up : List Bool) → new ≡ with_marks up old → new ≡ with_marks new.up old
own_marks new old up e = e ∙ sym (ap (λ (x : CustomerEntry). with_marks x.up old) e)

does_mark : (l : ℕ) (items : List Item) (c : Customer) (s : CustomerStep) → Does l items c s
    → IsMarkedAt l s.after.entry c.entry
does_mark l items c s does =
    let judged = with_raised_line does.up l c.entry in
    let raised : IsMarkedAt l judged c.entry = raised_at does.up l c.entry in
    elim (does.end) [
      | still_on same kept ↦ (raised.0, kept ∙ raised.1)
      | over_now gone lowered ↦ (false, marked_after l c.entry judged s.after.entry raised false lowered)
    ]

pub does_entry : (l : ℕ) (items : List Item) (c : Customer) (s : CustomerStep) → Does l items c s
    → s.after.entry ≡ with_marks s.after.entry.up c.entry
does_entry l items c s does =
    let mark = does_mark l items c s does in
    own_marks s.after.entry c.entry (set c.entry.up l mark.0) mark.1

-- the moves of a step, by the marks of their moments
pub does_moves_by : (l : ℕ) (items more : List Item) (c : Customer) (s : CustomerStep)
    → ((i : Item) → Contains items i → Contains more i) → Does l items c s
    → LeadsByMoves (MovesBy c.entry (Records l more)) (outgoing c) (outgoing s.after)
does_moves_by l items more c s among does =
    let entry = with_raised_line does.up l c.entry in
    let raised = raised_at does.up l c.entry in
    leads_as (Moves entry l items) (MovesBy c.entry (Records l more)) (outgoing c) (outgoing s.after)
    (λ u v move. (raised.0, subst (λ x. Moves x l more u v) raised.1 (more_records entry l items more u v among move)))
    (does_moves l items c s does)

-- a customer has come from another by moves, with the line's mark in its entry alone changed, and with as many lines
pub record Moved (l : ℕ) (items : List Item) (c d : Customer) : Type 0 where
  pub mark : IsMarkedAt l d.entry c.entry
  pub lines : length d.lines ≡ length c.lines
  pub moves : LeadsByMoves (MovesBy c.entry (Records l items)) (outgoing c) (outgoing d)

pub bytes_move : (rest : Rest) (c : Customer) (l : ℕ) (bytes : List ℕ)
    → Moved l (flat_map records_of_frame (frames_after rest bytes)) c (bytes_run rest c l bytes).after
bytes_move rest c l [] = record { mark = unmarked_at l c.entry; lines = refl; moves = nowhere (outgoing c) }
bytes_move rest c l (byte ∷ bytes) = at_frame (rest_step rest byte).frame
    (λ d. bytes_move (rest_step rest byte).rest d l bytes)
  where
    next : Rest
    next = (rest_step rest byte).rest

    later : List Item
    later = flat_map records_of_frame (frames_after next bytes)

    at_frame : (o : Option Received) → ((d : Customer) → Moved l later d (bytes_run next d l bytes).after)
        → Moved l (flat_map records_of_frame (cons_option o (frames_after next bytes))) c
        (bytes_run next (acted_on l o c).after l bytes).after
    at_frame None rest_moves = rest_moves c
    at_frame (Some received) rest_moves =
        let items = records_of_frame received ++ later in
        let step = acted_on l (Some received) c in
        let does = frame_does l received c in
        let onwards = rest_moves step.after in
        let end = (bytes_run next step.after l bytes).after in
        let mark = does_mark l (records_of_frame received) c step does in
        record {
          mark = (onwards.mark.0, marked_after l c.entry step.after.entry end.entry mark onwards.mark.0 onwards.mark.1);
          lines = onwards.lines ∙ does.lines;
          moves = leads_then (MovesBy c.entry (Records l items)) (outgoing c) (outgoing step.after) (outgoing end)
              (does_moves_by l (records_of_frame received) items c step
              (λ i. Contains-append_left (records_of_frame received) later i) does)
              (leads_as (MovesBy step.after.entry (Records l later)) (MovesBy c.entry (Records l items))
              (outgoing step.after) (outgoing end) (λ u v move. (
                move.0,
                subst (λ x. Moves x l items u v) (marked_after l c.entry step.after.entry
                    (entry_marked l move.0 step.after.entry) mark move.0 refl)
                    (more_records (entry_marked l move.0 step.after.entry) l later items u v
                    (λ i. Contains-append_right (records_of_frame received) later i) move.1),
              )) onwards.moves);
        }

-- its marks alone are other ones
pub bytes_keep_entry : (rest : Rest) (c : Customer) (l : ℕ) (bytes : List ℕ)
    → (bytes_run rest c l bytes).after.entry ≡ with_marks (bytes_run rest c l bytes).after.entry.up c.entry
bytes_keep_entry rest c l bytes =
    let mark = (bytes_move rest c l bytes).mark in
    own_marks (bytes_run rest c l bytes).after.entry c.entry (set c.entry.up l mark.0) mark.1

pub events_move : EventsMoveSo
events_move p (OwnBytes l piece) = (bytes_move (rest_on l p) p.customer l piece).moves
events_move p (OwnSignal signal l) =
    does_moves_by l [] [] p.customer (after_signal l signal p.customer) (λ i there. there)
    (signal_does l signal p.customer)
events_move p (OwnRoutes routes) = routes_move p routes
events_move p (OwnOrder order) = order_moves order p.customer

pub takes_move : TakesMoveSo
takes_move p l piece there =
    let t = part_after_bytes p l piece in
    let front = take t.taken piece in
    let nothing : event_run p (OwnBytes l []) ≡ record { after = p; sent = [] } = no_bytes_do_nothing p l in
    let some : event_run p (OwnBytes l front) ≡ followed_by (record { after = p; sent = [] }) l piece =
    subst (λ (r : Run). event_run p (OwnBytes l (take (part_after_bytes r.after l piece).taken piece)) ≡ followed_by r
    l piece) nothing
    (steps_follow_bytes p l [] piece (omega (arith, ap (λ (r : Run). length r.after.rests) nothing))) in
    subst (LeadsByMoves (MovesBy p.customer.entry (coming p (OwnBytes l front))) (outgoing p.customer))
    (ap (λ (r : Run). outgoing r.after.customer) some) (bytes_move (rest_on l p) p.customer l front).moves

-- ---- what no event changes

-- with the same routes it is the same but for its marks
same_routes : (new old : CustomerEntry) → new ≡ with_marks new.up old
    → new ≡ entry_with new.routes (with_marks new.up old)
same_routes new old e = e ∙ sym (ap (λ (x : CustomerEntry). entry_with x.routes (with_marks new.up old)) e)

pub events_keep_entries : EventsKeepEntries
events_keep_entries p (OwnBytes l piece) =
    same_routes (event_run p (OwnBytes l piece)).after.customer.entry p.customer.entry
    (bytes_keep_entry (rest_on l p) p.customer l piece)
events_keep_entries p (OwnSignal signal l) =
    same_routes (event_run p (OwnSignal signal l)).after.customer.entry p.customer.entry
    (does_entry l [] p.customer (after_signal l signal p.customer) (signal_does l signal p.customer))
events_keep_entries p (OwnRoutes routes) = routes_keep_entry p routes
events_keep_entries p (OwnOrder order) = order_keeps_entry order p.customer

pub events_keep_faults : EventsKeepFaults
events_keep_faults p event routes = ap (λ (entry : CustomerEntry). routes_checked entry routes)
    (events_keep_entries p event)

pub events_keep_lines : EventsKeepLines
events_keep_lines p (OwnBytes l piece) = (bytes_move (rest_on l p) p.customer l piece).lines
events_keep_lines p (OwnSignal signal l) = (signal_does l signal p.customer).lines
events_keep_lines p (OwnRoutes routes) = ap length (routes_do p routes).lines
events_keep_lines p (OwnOrder order) = (orders_do p order).lines

-- ---- a step by bytes

abbrev SameButMarks : CustomerEntry → Customer → Type 0
SameButMarks entry d = d.entry ≡ with_marks d.entry.up entry

pub takes_keep_entries : TakesKeepEntries
takes_keep_entries p l piece = take_so (SameButMarks p.customer.entry)
    (λ m x c so. does_entry m (records_of_frame x) c (after_frame m x c) (frame_does m x c)
    ∙ ap (with_marks (after_frame m x c).after.entry.up) so) (rest_on l p) p.customer l piece refl

-- ---- what the laws say

pub ruleset steps_do_so = (frame_does, signal_does, routes_do, orders_do)

pub ruleset moves_of_events = (events_move, takes_move)

pub ruleset entries_kept = (events_keep_entries, takes_keep_entries, events_keep_faults, events_keep_lines)
