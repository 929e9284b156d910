use Rattle.std.proofs.Common.{◌≡◌, ◌<◌, ◌+◌, ◌++◌, ◌∙◌, ℕ, List, [], length, take, drop, get_or, refl, sym, ap, subst}
use Rattle.std.proofs.Common.{arith}
use Rattle.std.specs.Prelude.{slice_range}
use Rattle.std.proofs.lemmas.List.{get_or_read}
use Rattle.njh_hub.specs.WholeHub.{Part, part}
use Rattle.njh_hub.specs.declared.event.Event.TheVariants.{Order}
use Rattle.njh_hub.proofs.NamedLaws.{hub_run-length}
use Rattle.njh_replay.specs.declared.printer.Printer.{Printer}
use Rattle.njh_replay.proofs.PrintedParts.{on_ok_of, on_ok_then}
use Rattle.njh_replay.proofs.RunPieces.{IsRunSoFar, answers_stopped, behind_order, cut_at, cut_order}
use Rattle.njh_replay.proofs.RunPieces.{frames_printed, frames_stopped, goes_on, has_customers, last_led}
use Rattle.njh_replay.proofs.RunPieces.{last_plain, last_printed, last_taken, led_behind, order_named, order_there}
use Rattle.njh_replay.proofs.RunPieces.{piece_named, plain_event, started, taken_at, taken_behind}
use Rattle.njh_replay.proofs.replaying.print_run.Goals.{in-Order+in_ok-print_frames+in_ok-print_answers, in_default}
use Rattle.njh_replay.proofs.replaying.print_run.Goals as goal

pub loop-index-init : goal.loop-index-init
loop-index-init g c = record {
  in_range = omega arith;
  so_far = started _ _ _ _ _;
  names = refl;
  same_reference = refl;
}

-- ---- a piece without orders, and then an order

pub print_frames-requires-clause-named : goal.print_frames-requires-clause-named
print_frames-requires-clause-named g c =
    piece_named _ _ _ _ _ _ _ _ _ c.loop-index.invariant.so_far c.requires.named c.loop-index.index

pub print_frames-requires-clause-without : goal.print_frames-requires-clause-without
print_frames-requires-clause-without g c = c.loop-index.invariant.so_far.plain

pub returns-in_err-print_frames-clause-printed : goal.returns-in_err-print_frames-clause-printed
returns-in_err-print_frames-clause-printed g c =
    let events = c.args.events.now in
    let index = c.loop-index.index in
    let event = c.index-events-index.result in
    let within : index < length events = omega arith in
    let are = cut_at events c.loop-index.from index event c.loop-index.invariant.in_range within
    c.index-events-index.is in
    frames_stopped _ _ _ _ _ _ _ _ _ c.loop-index.invariant.so_far _ c.loop-index.invariant.names _ _ are
    c.loop-index.invariant.so_far.plain _ c.from_residual.result _ c.from_residual.ensures.1
    c.in_err-print_frames.ensures.printed

pub returns-in_err-print_frames-clause-same_reference : goal.returns-in_err-print_frames-clause-same_reference
returns-in_err-print_frames-clause-same_reference g c =
    c.print_frames.ensures.same_reference ∙ c.loop-index.invariant.same_reference

pub bounds-customers-from : goal.bounds-customers-from
bounds-customers-from g c =
    let events = c.args.events.now in
    let index = c.loop-index.index in
    let within : index < length events = omega arith in
    let is = order_there events index c.index-events-index.result c.in-Order.customer c.in-Order.order
    c.index-events-index.is c.in-Order.is in
    let there = order_named _ events index c.in-Order.customer c.in-Order.order c.requires.named within is in
    omega (arith, there, c.requires.all, c.from.ensures)

pub print_answers-requires : goal.print_answers-requires
print_answers-requires g c =
    let events = c.args.events.now in
    let index = c.loop-index.index in
    let now = c.loop-index.hub in
    let within : index < length events = omega arith in
    let is = order_there events index c.index-events-index.result c.in-Order.customer c.in-Order.order
    c.index-events-index.is c.in-Order.is in
    let there = order_named _ events index c.in-Order.customer c.in-Order.order c.requires.named within is in
    let many = has_customers _ _ _ _ _ _ _ _ _ c.loop-index.invariant.so_far c.requires.named in
    let led = ap (λ (ps : List Part). length ps) c.in_ok-print_frames.ensures.after in
    let kept = hub_run-length now (slice_range events c.loop-index.from index) in
    omega (arith, there, many, led, kept)

pub returns-in_err-print_answers-clause-printed : goal.returns-in_err-print_answers-clause-printed
returns-in_err-print_answers-clause-printed g c =
    let names = c.args.printer.now.names.now in
    let customers = c.args.customers.now in
    let start = c.args.hub.now in
    let events = c.args.events.now in
    let from = c.loop-index.from in
    let index = c.loop-index.index in
    let n = c.in-Order.customer in
    let order = c.in-Order.order in
    let piece = slice_range events from index in
    let within : index < length events = omega arith in
    let so_far = c.loop-index.invariant.so_far in
    let same = c.loop-index.invariant.names in
    let before = c.loop-index.invariant.in_range in
    let a = g.W.Write.contents c.args.printer.now.out.now in
    let b = g.W.Write.contents c.print_frames.new.printer.out.now in
    let d = g.W.Write.contents c.print_answers.new.out in
    let is = order_there events index c.index-events-index.result n order c.index-events-index.is c.in-Order.is in
    let there : n < length start = order_named start events index n order c.requires.named within is in
    let cut = cut_at events from index (Order n order) before within is in
    let are = cut_order events from index (Order n order) before within is in
    let led = led_behind names customers start _ events from index a _ so_far _ same piece _ cut so_far.plain b
    c.print_frames.new.hub c.in_ok-print_frames.ensures.after in
    let printed = frames_printed names customers start _ events from index a _ so_far _ same piece _ cut so_far.plain b
    c.in_ok-print_frames.ensures.printed in
    let read = subst (λ (k : ℕ). c.index-customers-from.result ≡ get_or customers k c.index-customers-from.result)
    c.from.ensures c.index-customers-from.is in
    let called = get_or_read customers n c.index-customers-from.result (omega (arith, there, c.requires.all)) read [] in
    answers_stopped names customers start c.print_frames.new.hub events (take from events ++ piece)
    (drop (index + 1) events) n order are led a b d printed c.index-customers-from.result called
    c.from_residual-in_err-print_answers.result _ c.from_residual-in_err-print_answers.ensures.1
    c.in_err-print_answers.ensures.printed

pub returns-in_err-print_answers-clause-same_reference : goal.returns-in_err-print_answers-clause-same_reference
returns-in_err-print_answers-clause-same_reference g c =
    c.print_frames.ensures.same_reference ∙ c.loop-index.invariant.same_reference

-- ---- one event more

pub loop-index-preserved : goal.loop-index-preserved
loop-index-preserved g c =
    let names = c.args.printer.now.names.now in
    let customers = c.args.customers.now in
    let start = c.args.hub.now in
    let events = c.args.events.now in
    let from = c.loop-index.from in
    let index = c.loop-index.index in
    let event = c.index-events-index.result in
    let within : index < length events = omega arith in
    let so_far = c.loop-index.invariant.so_far in
    let same = c.loop-index.invariant.names in
    let before = c.loop-index.invariant.in_range in
    let contents = g.W.Write.contents in
    let a = contents c.args.printer.now.out.now in
    elim c.match-event.branch [
      | in-Order+in_ok-print_frames+in_ok-print_answers w ↦
          let n = w.in-Order.customer in
          let order = w.in-Order.order in
          let piece = slice_range events from index in
          let b = contents w.print_frames.new.printer.out.now in
          let d = contents w.print_answers.new.out in
          let is = order_there events index event n order c.index-events-index.is w.in-Order.is in
          let there : n < length start = order_named start events index n order c.requires.named within is in
          let cut = cut_at events from index (Order n order) before within is in
          let are = cut_order events from index (Order n order) before within is in
          let led = led_behind names customers start _ events from index a _ so_far _ same piece _ cut so_far.plain b
          w.print_frames.new.hub w.in_ok-print_frames.ensures.after in
          let printed = frames_printed names customers start _ events from index a _ so_far _ same piece _ cut
          so_far.plain b w.in_ok-print_frames.ensures.printed in
          let taken = taken_behind names customers start _ events from index a _ so_far _ same piece _ cut so_far.plain
          b in
          let read = subst (λ (k : ℕ). w.index-customers-from.result
          ≡ get_or customers k w.index-customers-from.result)
          w.from.ensures w.index-customers-from.is in
          let called = get_or_read customers n w.index-customers-from.result (omega (arith, there, c.requires.all))
          read [] in
          let out = ap (λ (p : Printer g.row.W.Denot). contents p.out.now) w.printer-is in
          let hub = w.hub-is in
          record {
            in_range = omega (arith, w.from-is);
            so_far = behind_order names customers start w.print_frames.new.hub events (take from events ++ piece)
                (drop (index + 1) events) n order are led a b d printed w.index-customers-from.result called
                c.match-event.hub c.match-event.from (index + 1) (contents c.match-event.printer.out.now) w.from-is
                (taken_at events from index (Order n order) before within is) taken w.in_ok-print_answers.ensures.taken
                (hub ∙ w.in_ok-print_answers.ensures.hub)
                (λ k. ap (λ (ps : List Part). length (part k ps).customer.lines) hub ∙ w.print_answers.ensures.lines k
                ∙ w.print_frames.ensures.lines k ∙ so_far.lines k)
                out w.in_ok-print_answers.ensures.printed;
            names = ap (λ (p : Printer g.row.W.Denot). p.names.now) w.printer-is
                ∙ w.in_ok-print_frames.ensures.names ∙ same;
            same_reference = ap (λ (p : Printer g.row.W.Denot). p.out.ghost_name) w.printer-is
                ∙ w.print_frames.ensures.same_reference ∙ c.loop-index.invariant.same_reference;
          }
      | in_default w ↦
          let plain = plain_event event (λ n order is. w.in_default.not-Order n order is) in
          let more = goes_on names customers start c.loop-index.hub events from index a
          (contents c.loop-index.printer.out.now) event so_far within c.index-events-index.is plain in
          record {
            in_range = omega (arith, w.from-is, before);
            so_far = subst (λ (k : ℕ). IsRunSoFar names customers start c.match-event.hub events k (index + 1) a
                (contents c.match-event.printer.out.now)) (sym w.from-is)
                (subst (λ (p : Printer g.row.W.Denot). IsRunSoFar names customers start c.match-event.hub events from
                (index + 1) a (contents p.out.now)) (sym w.printer-is)
                (subst (λ (ps : List Part). IsRunSoFar names customers start ps events from (index + 1) a
                (contents c.loop-index.printer.out.now)) (sym w.hub-is) more));
            names = ap (λ (p : Printer g.row.W.Denot). p.names.now) w.printer-is ∙ same;
            same_reference = ap (λ (p : Printer g.row.W.Denot). p.out.ghost_name) w.printer-is
                ∙ c.loop-index.invariant.same_reference;
          }
    ]

-- ---- the last piece

pub print_frames-requires-2-clause-named : goal.print_frames-requires-2-clause-named
print_frames-requires-2-clause-named g c =
    piece_named _ _ _ _ _ _ _ _ _ c.loop-index.invariant.so_far c.requires.named (length c.args.events.now)

pub print_frames-requires-2-clause-without : goal.print_frames-requires-2-clause-without
print_frames-requires-2-clause-without g c =
    let ended : c.loop-index.index ≡ length c.args.events.now = omega arith in
    last_plain _ _ _ _ _ _ _ _ _ c.loop-index.invariant.so_far ended _ c.loop-index.invariant.names
    (g.W.Write.contents c.loop-index.printer.out.now)

pub returns-clause-printed : goal.returns-clause-printed
returns-clause-printed g c =
    let ended : c.loop-index.index ≡ length c.args.events.now = omega arith in
    last_printed _ _ _ _ _ _ _ _ _ c.loop-index.invariant.so_far ended _ c.loop-index.invariant.names _
    c.print_frames-2.result c.print_frames-2.ensures.printed

pub returns-clause-orders : goal.returns-clause-orders
returns-clause-orders g c =
    let ended : c.loop-index.index ≡ length c.args.events.now = omega arith in
    on_ok_of c.print_frames-2.result _
    (last_taken _ _ _ _ _ _ _ _ _ c.loop-index.invariant.so_far ended _ c.loop-index.invariant.names
    (g.W.Write.contents c.loop-index.printer.out.now))

pub returns-clause-same_reference : goal.returns-clause-same_reference
returns-clause-same_reference g c =
    c.print_frames-2.ensures.same_reference ∙ c.loop-index.invariant.same_reference

pub returns-clause-after : goal.returns-clause-after
returns-clause-after g c =
    let ended : c.loop-index.index ≡ length c.args.events.now = omega arith in
    on_ok_then c.print_frames-2.result _ _
    (last_led _ _ _ _ _ _ _ _ _ c.loop-index.invariant.so_far ended _ c.loop-index.invariant.names
    (g.W.Write.contents c.loop-index.printer.out.now) c.print_frames-2.new.hub) c.print_frames-2.ensures.after
