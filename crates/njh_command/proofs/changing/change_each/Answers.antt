-- One file more was looked at.
use Rattle.std.proofs.Common.{◌≡◌, ◌<◌, ◌+◌, ℕ, true, false, length, sym, ap, subst, ◌∙◌, arith, slice_set}
use Rattle.njh_spool.specs.CustomerSpool.{CustomerSpool, WholeFile}
use Rattle.njh_spool.specs.Spools.{spool_at}
use Rattle.njh_command.specs.code.Changes.{change_by, file_class_of}
use Rattle.njh_command.specs.Commands.{changed_file, is_of_name, is_busy, may_change, is_sending}
use Rattle.njh_command.specs.Files.{file_at, with_file}
use Rattle.njh_command.proofs.UpTo.{changed_up_to}
use Rattle.njh_command.proofs.WalkLaws.{part_of, moved_twice, counted_more, changed_not_yet, changed_one_more, as_other}
use Rattle.njh_command.proofs.WalkLaws.{as_busy, as_idle}
use Rattle.njh_command.proofs.changing.change_each.Goals.{in-Other, in-Busy, in-Idle}
use Rattle.njh_command.proofs.changing.change_each.Goals as goal

pub loop-index-preserved : goal.loop-index-preserved
loop-index-preserved c =
    let s = spool_at c.args.choice.now.customer c.args.spool.now in
    let p = is_of_name c.args.choice.now.who c.args.choice.now.name in
    let g : WholeFile → WholeFile = changed_file p (change_by c.args.change.now) in
    let i = c.loop-index.index in
    let f : WholeFile = file_at i s in
    let inside : i < length s.whole = subst (λ (m : ℕ). i < m) c.files-index-end.ensures c.loop-index-test.true in
    let now_is : spool_at c.args.choice.now.customer c.loop-index.spool ≡ changed_up_to g i s =
    part_of c.args.spool.now c.loop-index.spool c.args.choice.now.customer (changed_up_to g i s) c.requires
    c.loop-index.invariant.spool in
    let here : file_at i (spool_at c.args.choice.now.customer c.loop-index.spool) ≡ f =
    ap (file_at i) now_is ∙ changed_not_yet g i s inside in
    let standing : c.change_at.result ≡ file_class_of p f = c.change_at.ensures.standing ∙ ap (file_class_of p) here in
    let spool : c.change_at.new.spool
    ≡ slice_set c.args.spool.now c.args.choice.now.customer (changed_up_to g (i + 1) s) =
    moved_twice c.args.spool.now c.loop-index.spool c.change_at.new.spool c.args.choice.now.customer
    (changed_up_to g i s)
    (λ (x : CustomerSpool). with_file i (g (file_at i x)) x) c.requires c.loop-index.invariant.spool
    c.change_at.ensures.spool
    ∙ ap (slice_set c.args.spool.now c.args.choice.now.customer) (changed_one_more g i s inside) in
    elim c.match-change_at.branch [
      | in-Other w ↦
          let is = as_other (p f) (is_sending f.state) (sym standing ∙ w.in-Other.is) in
          record {
            idle = counted_more (may_change p) false s i c.loop-index.idle c.match-change_at.idle inside is.0
                c.loop-index.invariant.idle
                (omega (arith, w.idle-is));
            busy = counted_more (is_busy p) false s i c.loop-index.busy c.match-change_at.busy inside is.1
                c.loop-index.invariant.busy
                (omega (arith, w.busy-is));
            few = omega (arith, w.idle-is, w.busy-is, c.loop-index.invariant.few);
            spool = spool;
          }
      | in-Busy w ↦
          let is = as_busy (p f) (is_sending f.state) (sym standing ∙ w.in-Busy.is) in
          record {
            idle = counted_more (may_change p) false s i c.loop-index.idle c.match-change_at.idle inside is.0
                c.loop-index.invariant.idle
                (omega (arith, w.idle-is));
            busy = counted_more (is_busy p) true s i c.loop-index.busy c.match-change_at.busy inside is.1
                c.loop-index.invariant.busy
                (omega (arith, w.busy-is));
            few = omega (arith, w.idle-is, w.busy-is, c.loop-index.invariant.few);
            spool = spool;
          }
      | in-Idle w ↦
          let is = as_idle (p f) (is_sending f.state) (sym standing ∙ w.in-Idle.is) in
          record {
            idle = counted_more (may_change p) true s i c.loop-index.idle c.match-change_at.idle inside is.0
                c.loop-index.invariant.idle
                (omega (arith, w.idle-is));
            busy = counted_more (is_busy p) false s i c.loop-index.busy c.match-change_at.busy inside is.1
                c.loop-index.invariant.busy
                (omega (arith, w.busy-is));
            few = omega (arith, w.idle-is, w.busy-is, c.loop-index.invariant.few);
            spool = spool;
          }
    ]
