-- One file more was looked at, or all were.
use Rattle.std.proofs.Common.{◌≡◌, ◌<◌, ◌≤◌, ◌+◌, ℕ, true, false, filter, fold, length, map, take, sym, ap, ap₂, subst}
use Rattle.std.proofs.Common.{◌∙◌, arith, slice_set}
use Rattle.njh_spool.specs.CustomerSpool.{CustomerSpool, WholeFile}
use Rattle.njh_spool.specs.Spools.{spool_at}
use Rattle.njh_command.specs.code.Changes.{numbers_where, without_where}
use Rattle.njh_command.specs.Commands.{is_of_name, is_busy, without_file}
use Rattle.njh_command.specs.Files.{file_at}
use Rattle.njh_command.proofs.UpTo.{removed_up_to}
use Rattle.njh_command.proofs.WalkLaws.{part_of, moved_twice, counted_more, index_more, removed_not_yet}
use Rattle.njh_command.proofs.WalkLaws.{removed_one_more, numbers_more, fold_more, all_looked_at}
use Rattle.njh_command.proofs.cancelling.cancel_each.Goals.{then-cancel_at, else-cancel_at}
use Rattle.njh_command.proofs.cancelling.cancel_each.Goals as goal

pub loop-preserved : goal.loop-preserved
loop-preserved g c =
    let s = spool_at c.args.choice.now.customer c.args.spool.now in
    let p = is_of_name c.args.choice.now.who c.args.choice.now.name in
    let i = c.loop.counter in
    let n = c.loop.index in
    let f : WholeFile = file_at i s in
    let inside : i < length s.whole = subst (λ (m : ℕ). i < m) c.files-end.ensures c.loop-test.true in
    let left : CustomerSpool = removed_up_to p i s in
    let there : file_at n left ≡ f = ap (λ (m : ℕ). file_at m left) c.loop.invariant.index
    ∙ removed_not_yet p i s inside in
    let here : file_at n (spool_at c.args.choice.now.customer c.loop.spool) ≡ f =
    ap (file_at n)
    (part_of c.args.spool.now c.loop.spool c.args.choice.now.customer left c.requires c.loop.invariant.spool)
    ∙ there in
    let removed : c.cancel_at.result ≡ p f = c.cancel_at.ensures.removed ∙ ap p here in
    let spool : c.cancel_at.new.spool
    ≡ slice_set c.args.spool.now c.args.choice.now.customer (removed_up_to p (i + 1) s) =
    moved_twice c.args.spool.now c.loop.spool c.cancel_at.new.spool c.args.choice.now.customer left
    (λ (x : CustomerSpool). without_where (p (file_at n x)) n x) c.requires c.loop.invariant.spool
    c.cancel_at.ensures.spool
    ∙ ap (slice_set c.args.spool.now c.args.choice.now.customer)
    (ap₂ (λ (m : ℕ) (y : WholeFile). without_where (p y) m left) c.loop.invariant.index there
    ∙ removed_one_more p i s inside) in
    let senders =
    c.cancel_at.ensures.senders
    ∙ ap₂ (λ x (y : WholeFile). fold (λ z k. g.S.Senders.each z (without_file k)) x (numbers_where (is_busy p y) y))
    c.loop.invariant.senders here
    ∙ sym (fold_more (λ z k. g.S.Senders.each z (without_file k)) c.args.senders.now
    (map (λ x. x.number) (filter (is_busy p) (take i
    s.whole)))
    (numbers_where (is_busy p f) f))
    ∙ ap (fold (λ z k. g.S.Senders.each z (without_file k)) c.args.senders.now)
    (sym (numbers_more (is_busy p) i s inside)) in
    elim c.if-cancel_at.branch [
      | then-cancel_at w ↦
          let passes : p f ≡ true = sym removed ∙ w.if-cancel_at.true in
          record {
            index = index_more p true s i n c.if-cancel_at.index inside passes c.loop.invariant.index
                (omega (arith, w.index-is));
            count = counted_more p true s i c.loop.count c.if-cancel_at.count inside passes c.loop.invariant.count
                (omega (
                  arith,
                  w.count-is,
                ));
            few = omega (arith, w.index-is, w.count-is, c.loop.invariant.few);
            spool = spool;
            senders = senders;
          }
      | else-cancel_at w ↦
          let passes : p f ≡ false = sym removed ∙ w.if-cancel_at.false in
          record {
            index = index_more p false s i n c.if-cancel_at.index inside passes c.loop.invariant.index
                (omega (arith, w.index-is));
            count = counted_more p false s i c.loop.count c.if-cancel_at.count inside passes c.loop.invariant.count
                (omega (
                  arith,
                  w.count-is,
                ));
            few = omega (arith, w.index-is, w.count-is, c.loop.invariant.few);
            spool = spool;
            senders = senders;
          }
    ]

pub returns-clause-senders : goal.returns-clause-senders
returns-clause-senders g c =
    let s = spool_at c.args.choice.now.customer c.args.spool.now in
    let all : length s.whole ≤ c.loop.counter =
    subst (λ (m : ℕ). m ≤ c.loop.counter) c.files-end.ensures c.loop-test.false in
    c.loop.invariant.senders
    ∙ ap (λ files. fold (λ x n. g.S.Senders.each x (without_file n)) c.args.senders.now
    (map (λ f. f.number) (filter (is_busy (is_of_name c.args.choice.now.who c.args.choice.now.name)) files)))
    (all_looked_at s.whole
    c.loop.counter all)
