use Rattle.std.proofs.Common.{◌≡◌, ◌++◌, ◌+◌, ◌-◌, ◌^◌, min, slice_index_or, false, true, refl, sym, ap, subst, ◌∙◌}
use Rattle.std.proofs.Common.{append-nil, arith}
use Rattle.{njh_spoolfile.specs.Shelf.shown, njh_keeper.specs.code.Writing.{ShowsNow, unmarked, without_keys}}
use Rattle.njh_keeper.proofs.LeadingLaws.{clean_before, survives_here}
use Rattle.njh_keeper.proofs.writer.SpoolWriter.empty_unmarked.Goals.{then-not-is_marked+in_ok-empty_key}
use Rattle.njh_keeper.proofs.{writer.SpoolWriter.empty_unmarked.Goals.else-not-is_marked, WriterLaws.emptied_more}
use Rattle.njh_keeper.proofs.WriterLaws.{emptied_kept, free_more, marked_below, marked_more}
use Rattle.njh_keeper.specs.declared.writer.SpoolWriter.{SpoolWriter}
use Rattle.njh_keeper.proofs.writer.SpoolWriter.empty_unmarked.Goals as goal

pub loop-key-init : goal.loop-key-init
loop-key-init g c =
    let keys = c.args.self.now.free_keys.items in
    let none : min 0 c.args.self.now.next_key ≡ 0 = omega arith in
    record {
      crash = survives_here (shown g.S.Store c.args.self.now.store) _;
      emptied = λ clean s at. (s.kept, at);
      free = sym (append-nil keys) ∙ ap (λ n. keys ++ unmarked c.args.marks.now n) (sym none);
      others = refl;
    }

pub loop-key-preserved : goal.loop-key-preserved
loop-key-preserved g c =
    let marks = c.args.marks.now in
    let key = c.loop-key.key in
    let next = c.args.self.now.next_key in
    let mid = shown g.S.Store c.loop-key.self.store in
    let so_far = c.loop-key.invariant in
    elim c.if-not-is_marked.branch [
      | then-not-is_marked+in_ok-empty_key w ↦
          let new = shown g.S.Store w.empty_key.new.self.store in
          let is : slice_index_or marks key false ≡ false = sym c.is_marked.ensures ∙ w.if-not-is_marked.true in
          rw w.self-is (record {
            crash = emptied_kept marks key _ mid new is so_far.emptied so_far.crash w.empty_key.ensures.crash;
            emptied = λ clean s at. emptied_more marks key _ _ s mid new is
                (so_far.emptied (clean_before w.empty_key.ensures.crash clean) s at)
                (w.in_ok-empty_key.ensures.emptied clean);
            free = free_more marks key next c.loop-key.self.next_key c.args.self.now.free_keys.items
                c.loop-key.self.free_keys.items w.empty_key.new.self.free_keys.items is
                (ap (λ x. x.next_key) so_far.others) so_far.free w.in_ok-empty_key.ensures.free;
            others = w.empty_key.ensures.others ∙ ap (λ (x : SpoolWriter g.row.S.Denot). record x {
              store = w.empty_key.new.self.store;
              free_keys = w.empty_key.new.self.free_keys;
              waiting = w.empty_key.new.self.waiting;
              is_changed = w.empty_key.new.self.is_changed;
            }) so_far.others;
          })
      | else-not-is_marked w ↦
          let is : slice_index_or marks key false ≡ true = sym c.is_marked.ensures ∙ w.if-not-is_marked.false in
          rw w.self-is (record {
            crash = so_far.crash;
            emptied = λ clean s at. rw (marked_more marks key is) (so_far.emptied clean s at);
            free = so_far.free ∙ ap (λ keys. c.args.self.now.free_keys.items ++ keys)
                (sym (marked_below marks key next is));
            others = so_far.others;
          })
    ]

pub returns-clause-emptied : goal.returns-clause-emptied
returns-clause-emptied g c clean s at =
    let end : c.loop-key.key ≡ min (c.args.self.now.next_key + 64) (2 ^ 32 - 1) =
    omega (arith, c.loop-key-test.false, c.loop-key.auto.key-end, c.saturating_add-key-end.ensures) in
    subst (λ n. ShowsNow (without_keys (unmarked c.args.marks.now n)) s (shown g.S.Store c.loop-key.self.store)) end
    (c.loop-key.invariant.emptied clean s at)

pub returns-in_err-empty_key-clause-crash : goal.returns-in_err-empty_key-clause-crash
returns-in_err-empty_key-clause-crash g c =
    emptied_kept c.args.marks.now c.loop-key.key _ (shown g.S.Store c.loop-key.self.store) _
    (sym c.is_marked.ensures ∙ c.if-not-is_marked.true) c.loop-key.invariant.emptied c.loop-key.invariant.crash
    c.empty_key.ensures.crash
