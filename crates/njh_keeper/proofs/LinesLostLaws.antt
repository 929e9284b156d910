-- A customer of a hub that is opened again has what the customer alone would have after the loss of all its lines.
use Rattle.njh_keeper.proofs.Words
use Words.{◌≡◌, ℕ, ◌+◌, ◌<◌, ◌≤◌, Bool, true, false, List, [], ◌∷◌, length, map, Option, Some, None, Ok, Err, refl, sym}
use Words.{ap, subst, ◌∙◌, arith, length-map, length-set, recursion_from_All, sum_by_push, filter_map, Nothing}
use Words.{HasHeaders, Whole, CustomerEntry, RouteEntry, entry_unmarked, next_number-fresh, WholeFile, cost}
use Words.{used_blocks, with_arrived, Sending, KeptFile, restore_fault, state_back, Down, is_up, CustomerLine, line_at}
use Words.{no_customer_line, IsIdle, phase_of, entry_with, part_after_routes, outgoing, rest_at, OwnSignal}
use Words.{part_with_file, kept_file, bare, file_at_rest, AreBack, file_in, part_opened, HasOpened, as_opened}
use Words.{opened_of}
use Rattle.std.{proofs.{Math.ListN.get_or-map, lemmas.{Bool.{leb-true, ltb-true}, List.length-append}}, specs.List.All}
use Rattle.njh_table.specs.{Keys.Walked, NewRoutes.{NewRoute, routes_checked}}
use Rattle.njh_customer.proofs.{EventMoves.{events_keep_entries, events_keep_lines}, LossLaws.losses_leave}
use Rattle.njh_customer.proofs.{MarkLaws.marks_right, OrderLaws.stays_in_order, OutgoingLaws.stream_is}
use Rattle.njh_customer.specs.{Customer.{IsMarked, with_marks}, Feeding.bytes_run, InOrder.{HasAfterLosses, IsInOrder}}
use Rattle.njh_customer.specs.{InOrder.{IsWithinQuota, after_losses, losses}, NewRoutes.{routes_given, taken_where}}
use Rattle.njh_customer.specs.{OutgoingFiles.sender_on, Part.{Part, part_at_open, rest_on}, Runs.{OwnEvent, OwnBytes}}
use Rattle.{njh_customer.specs.Runs.{OwnOrder, OwnRoutes, alone_run, event_run}}
use Rattle.{njh_hub.proofs.RestoredLaws.headers_by}
use Rattle.{njh_turns.specs.Keeping.kept_files, njh_keeper.proofs.IdleLines.{bare_lines, marks_off, no_rests}}
use Rattle.njh_keeper.proofs.IdleLines.{fresh_down, opened_line, rest_past, same_rests, senders_idle, set_up_by}
use Rattle.njh_keeper.proofs.{IdleLines.set_up_of, LeftLaws.{found_all, some_of}, OpenedLaws.{fits_in, put_back}}
use Rattle.njh_keeper.proofs.{OpenedLaws.{stays_so, new, opened_files}, RestingFiles.{AreNotSent, all_fit, kept_costs}}
use Rattle.njh_keeper.{proofs.RestingFiles.{kept_read, lost_files, same_kept}, specs.LinesLost.{AreFilesOf, IsAtRest}}
use Rattle.njh_keeper.specs.LinesLost.{LeftAsLinesLost, OpenedAsLinesLost, StandsAs}
use Rattle.njh_stream.specs.Sending as sending
use Rattle.njh_stream.specs.declared.sender.Sender.TheVariants as sender

-- ---- a customer that files come back to stays in order

one_back : (f : KeptFile) (p : Part) → restore_fault f p.customer.spool ≡ None → IsInOrder p.customer
    → IsInOrder (part_with_file f p).customer
one_back f p none order =
    let s = p.customer.spool in
    let fits = fits_in f s none in
    let within : IsWithinQuota (with_arrived (new p f) s) = record {
      blocks = omega (
        arith,
        leb-true (used_blocks s + cost f.records) s.quota fits.blocks,
        sum_by_push (λ (g : WholeFile). cost g.records) s.whole (new p f),
      );
      files = omega (
        arith,
        ltb-true (length s.whole + length s.partial) s.limit fits.room,
        length-append s.whole (new p f ∷ []),
      );
    } in
    stays_in_order.routes p.customer.entry.routes (record p.customer { spool = with_arrived (new p f) s })
    (stays_in_order.put_back (new p f) p.customer (next_number-fresh s fits.room)
    (headers_by f.kind f.records fits.headers) (not_sending f.held) within order)
  where
    not_sending : (held : Bool) → state_back held ≡ Sending → ⊥
    not_sending true e = cc e
    not_sending false e = cc e

-- ---- what a run leaves as it is

record Goes (p q : Part) : Type 0 where
  order : IsInOrder q.customer
  marked : IsMarked q.customer
  entry : q.customer.entry ≡ entry_with q.customer.entry.routes (with_marks q.customer.entry.up p.customer.entry)
  lines : length q.customer.lines ≡ length p.customer.lines
  rests : length q.rests ≡ length p.rests

given_rests : (routes : List NewRoute) (p : Part) → length (routes_given routes p).rests ≡ length p.rests
given_rests routes p = at (routes_checked p.customer.entry routes)
  where
    at : (w : Walked (Unit {0})) → length (taken_where w routes p).rests ≡ length p.rests
    at (Ok faultless) = refl
    at (Err fault) = refl

event_rests : (p : Part) (event : OwnEvent) → length (event_run p event).after.rests ≡ length p.rests
event_rests p (OwnBytes l piece) = length-set p.rests l (bytes_run (rest_on l p) p.customer l piece).rest
event_rests p (OwnSignal signal l) = length-set p.rests l Nothing
event_rests p (OwnRoutes routes) = given_rests routes p
event_rests p (OwnOrder order) = refl

goes : (events : List OwnEvent) (p : Part) → IsInOrder p.customer → IsMarked p.customer
    → Goes p (alone_run p events).after
goes [] p order marked = record { order = order; marked = marked; entry = refl; lines = refl; rests = refl }
goes (event ∷ events) p order marked =
    let q = (event_run p event).after in
    let later = goes events q (stays_in_order.events p event order) (marks_right.events p event marked) in
    let z = (alone_run p (event ∷ events)).after in
    record {
      order = later.order;
      marked = later.marked;
      entry = later.entry ∙ ap (λ (e : CustomerEntry). entry_with z.customer.entry.routes
          (with_marks z.customer.entry.up e)) (events_keep_entries p event);
      lines = later.lines ∙ events_keep_lines p event;
      rests = later.rests ∙ event_rests p event;
    }

-- where all lines are idle no file is being sent
none_goes : (p : Part) → IsInOrder p.customer
    → ((l : ℕ) → l < length p.customer.lines → IsIdle (line_at l p.customer.lines)) → AreNotSent p.customer.spool.whole
none_goes p order idle f at sent =
    let go = order.sent.go f at sent in
    let none : sender_on go.line go.stream (outgoing p.customer) ≡ sender.Idle =
    stream_is go.line go.stream p.customer ∙ senders_idle p.customer.lines idle go.line go.stream in
    let about : ◌≡◌ {A = Option ℕ} None (Some f.number) = ap sending.file_in (sym none) ∙ go.about in
    cc about

-- ---- the law

-- a customer that was opened
module _ (entry : CustomerEntry) (ws : List Whole) (few : All (λ line. line.streams ≤ 4) entry.lines)
    (back : AreBack (part_at_open entry) ws) where
  abbrev opened_part : Part
  opened_part = part_opened entry ws

  opened : HasOpened entry ws opened_part
  opened = opened_files entry ws back

  opened_order : IsInOrder opened_part.customer
  opened_order =
      let put = put_back ws (part_at_open entry) back in
      stays_so (λ p. IsInOrder p.customer) one_back ws put.0 (part_at_open entry) opened_part put.1
      (stays_in_order.opened entry few)

  opened_marked : IsMarked opened_part.customer
  opened_marked =
      ap (λ (e : CustomerEntry). e.up) opened.entry_is ∙ marks_right.fresh entry
      ∙ ap (map (λ (x : CustomerLine). is_up x.state.session.phase)) (sym opened.lines)

  opened_down : (l : ℕ) → l < length opened_part.customer.lines
      → phase_of (line_at l opened_part.customer.lines) ≡ Down
  opened_down = subst (λ (xs : List CustomerLine). (l : ℕ) → l < length xs → phase_of (line_at l xs) ≡ Down)
      (sym opened.lines) (fresh_down entry entry.lines)

  opened_idle : (l : ℕ) → l < length opened_part.customer.lines → IsIdle (line_at l opened_part.customer.lines)
  opened_idle l there = opened_order.idle l there (ap is_up (opened_down l there))

  opened_at_rest : IsAtRest opened_part
  opened_at_rest = record {
    none_sent = none_goes opened_part opened_order opened_idle;
    partial = opened.partial;
    down = opened_down;
    idle = opened_idle;
    rests = λ l. ap (rest_at l) opened.rests ∙ no_rests entry.lines l;
  }

  opened_lengths : length opened_part.rests ≡ length opened_part.customer.lines
  opened_lengths =
      ap length opened.rests ∙ length-map entry.lines (λ line. Nothing)
      ∙ sym (ap length opened.lines ∙ length-map entry.lines (opened_line entry))

module _ (entry : CustomerEntry) (before ws : List Whole) (events : List OwnEvent) (routes : List RouteEntry)
    (few : All (λ line. line.streams ≤ 4) entry.lines) (first : AreBack (part_at_open entry) before) where
  abbrev p : Part
  p = (alone_run (part_opened entry before) events).after

  abbrev q : Part
  q = after_losses p

  abbrev new_entry : CustomerEntry
  new_entry = entry_with routes entry

  abbrev new_part : Part
  new_part = part_opened new_entry ws

  -- an entry but for its routes and its marks
  abbrev entry_as : Part → CustomerEntry → CustomerEntry
  entry_as x e = entry_with x.customer.entry.routes (with_marks x.customer.entry.up e)

  begins : HasOpened entry before (part_opened entry before)
  begins = opened_files entry before first

  run : Goes (part_opened entry before) p
  run = goes events (part_opened entry before) (opened_order entry before few first)
      (opened_marked entry before few first)

  lost : Goes p q
  lost = goes (losses (length p.customer.lines)) p run.order run.marked

  has : HasAfterLosses p q
  has = losses_leave p run.order

  as_many : length q.customer.lines ≡ length entry.lines
  as_many = lost.lines ∙ run.lines ∙ ap length begins.lines ∙ length-map entry.lines (opened_line entry)

  marks_are : q.customer.entry.up ≡ map (λ _. false) entry.lines
  marks_are = lost.marked ∙ marks_off q.customer.lines entry.lines as_many has.down

  run_entry : p.customer.entry ≡ entry_as p entry
  run_entry = run.entry ∙ ap (entry_as p) begins.entry_is

  entry_is : entry_unmarked new_entry ≡ entry_with routes q.customer.entry
  entry_is = sym (ap (entry_with routes) (lost.entry ∙ ap (entry_as q) run_entry)
      ∙ ap (λ (up : List Bool). entry_with routes (with_marks up entry)) marks_are)

  lost_rests : (l : ℕ) → rest_on l q ≡ Nothing
  lost_rests l =
      rest_past q.rests l (λ there. has.rests l (omega (arith, there, lost.rests))
      (omega (arith, there, lost.rests, run.rests, run.lines, opened_lengths entry before few first)))

  fits : AreFilesOf ws p → AreBack (part_at_open new_entry) ws
  fits same =
      let s = p.customer.spool in
      all_fit ws (kept_files p) (part_at_open new_entry) same
      (kept_read s.whole (recursion_from_All (λ (f : WholeFile). HasHeaders f.kind f.records) s.whole
      run.order.coherent.headers))
      (record {
        blocks = omega (
          arith,
          kept_costs s.whole,
          run.order.within.blocks,
          run.order.coherent.quota,
          ap (λ (e : CustomerEntry). e.quota) run_entry,
        );
        files = omega (
          arith,
          length-map s.whole kept_file,
          run.order.within.files,
          run.order.coherent.limit,
          ap (λ (e : CustomerEntry). e.files) run_entry,
        );
      })

  module _ (same : AreFilesOf ws p) where
    back : AreBack (part_at_open new_entry) ws
    back = fits same

    again : HasOpened new_entry ws new_part
    again = opened_files new_entry ws back

    files_are : map opened_of new_part.customer.spool.whole
        ≡ map file_at_rest (part_after_routes routes q).customer.spool.whole
    files_are =
        let e = entry_with routes q.customer.entry in
        again.whole ∙ ap (λ (x : CustomerEntry). map (as_opened x) again.files) entry_is
        ∙ ap (map (as_opened e)) (some_of again.files (kept_files p) (sym again.all ∙ same)
        ∙ sym (same_kept q.customer.spool.whole p.customer.spool.whole has.files))
        ∙ sym (lost_files e q.customer.spool.whole has.none_sent)

    lost_order : IsInOrder (part_after_routes routes q).customer
    lost_order = stays_in_order.routes routes q.customer lost.order

    lost_at_rest : IsAtRest (part_after_routes routes q)
    lost_at_rest = record {
      none_sent = none_goes (part_after_routes routes q) lost_order has.idle;
      partial = has.partial;
      down = has.down;
      idle = has.idle;
      rests = lost_rests;
    }

    -- the entry of the customer that was opened, but for its routes, is that of the one that lost its lines
    lines_are : map bare new_part.customer.lines ≡ map bare q.customer.lines
    lines_are =
        ap (map bare) again.lines ∙ ap (λ (x : CustomerEntry). map bare (map (opened_line x) x.lines)) entry_is
        ∙ sym (bare_lines q.customer.lines q.customer.entry.lines
        (sym (length-map q.customer.lines set_up_of) ∙ ap length lost.order.set_up
        ∙ length-map q.customer.entry.lines (set_up_by q.customer.entry)) has.down q.customer.entry
        lost.order.set_up has.idle (λ l there. (lost.order.coherent.streamed l no_customer_line there).0)
        (λ l there. ap length (sym (get_or-map (λ (x : CustomerLine). x.senders) q.customer.lines l no_customer_line))
        ∙ lost.order.sent.eight l (omega
        (arith, there, length-map q.customer.lines (λ (x : CustomerLine). x.senders)))))

    rests_are : new_part.rests ≡ q.rests
    rests_are =
        same_rests new_part.rests q.rests (ap length again.rests ∙ length-map entry.lines (λ line. Nothing)
        ∙ sym (lost.rests ∙ run.rests ∙ ap length begins.rests ∙ length-map entry.lines (λ line. Nothing)))
        (opened_at_rest new_entry ws few back).rests lost_rests

    stands : StandsAs new_part (part_after_routes routes q)
    stands = record {
      entry = again.entry_is ∙ entry_is;
      files = files_are;
      lines = lines_are;
      rests = rests_are;
      opened_order = opened_order new_entry ws few back;
      lost_order = lost_order;
      opened_at_rest = opened_at_rest new_entry ws few back;
      lost_at_rest = lost_at_rest;
    }

pub opened_as_lines_lost : OpenedAsLinesLost
opened_as_lines_lost entry before ws events routes few first same =
    (fits entry before ws events routes few first same, stands entry before ws events routes few first same)

pub left_as_lines_lost : LeftAsLinesLost
left_as_lines_lost entry before ws events routes few first left back =
    let again = opened_files (entry_with routes entry) ws back in
    let read : filter_map (λ (w : Whole). file_in w.file w.records) ws ≡ again.files =
    found_all (λ (w : Whole). file_in w.file w.records) ws again.files again.all in
    stands entry before ws events routes few first (again.all ∙ ap (map Some) (sym read ∙ left))
