use Rattle.njh_keeper.proofs.Words
use Words.{◌≡◌, ◌<◌, length, get_or, ap, ◌∙◌, arith, get_or_default, take_all, shown, WholeFile, file_summary, part}
use Words.{memory_of, AreNumbered, clean_before, leads_nothing, survives_both, survives_here}
use Rattle.njh_keeper.proofs.FollowingLaws.{goes_nowhere, quiet_changed, quiet_same, quiet_then}
use Rattle.njh_keeper.proofs.NewFilesLaws.{added_further, any_file, hub_file_at, is_at, says_more}
use Rattle.njh_keeper.proofs.following.add_new.Goals as goal

pub loop-index-init : goal.loop-index-init
loop-index-init g c =
    let at = shown g.S.Store c.args.writer.now.store in
    let m = memory_of c.args.writer.now c.args.own.now in
    record {
      crash = survives_here at (λ _. ⊥);
      led = λ numbered clean. leads_nothing (λ s files has given. (files, given.0, goes_nowhere m s files has));
      grows = λ numbered. omega arith;
      quiet = quiet_same c.args.writer.now;
    }

pub loop-index-preserved : goal.loop-index-preserved
loop-index-preserved g c =
    let parts = c.args.hub.now in
    let whole = (part c.args.customer parts).customer.spool.whole in
    let index = c.loop-index.index in
    let there : index < length whole = omega (arith, c.loop-index-test.true, c.file_count-count.ensures) in
    let f = get_or whole index any_file in
    let here = is_at whole index there in
    let number = c.number_at-number.result in
    let number_is : number ≡ f.number = c.number_at-number.ensures
    ∙ ap (λ (x : WholeFile). x.number) (get_or_default whole index _ any_file there) in
    let summary_is : c.summary_at-summary.result ≡ file_summary f =
    c.summary_at-summary.ensures.summary ∙ ap file_summary (get_or_default whole index _ any_file there) in
    let hub_file = λ (numbered : AreNumbered whole).
    hub_file_at parts (record { customer = c.args.customer; number = number })
    c.summary_at-summary.result index f numbered c.summary_at-summary.ensures.headers here number_is summary_is in
    record {
      crash = survives_both c.loop-index.invariant.crash c.add_one.ensures.crash;
      led = λ numbered clean.
          added_further whole c.args.old index f here
          (c.loop-index.invariant.led numbered (clean_before c.add_one.ensures.crash clean))
          (c.in_ok-add_one.ensures.led f (hub_file numbered) clean);
      grows = λ numbered. omega
          (arith, c.loop-index.invariant.grows numbered, c.in_ok-add_one.ensures.grows f (hub_file numbered));
      quiet = quiet_then c.args.writer.now c.loop-index.writer c.add_one.new.writer c.loop-index.invariant.quiet
          (quiet_changed c.loop-index.writer c.add_one.new.writer c.in_ok-add_one.ensures.due);
    }

pub returns-clause-led : goal.returns-clause-led
returns-clause-led g c numbered clean =
    let whole = (part c.args.customer c.args.hub.now).customer.spool.whole in
    says_more (c.loop-index.invariant.led numbered clean) (λ t files now has is.
    is ∙ take_all c.loop-index.index whole (omega (arith, c.loop-index-test.false, c.file_count-count.ensures)))

pub returns-clause-quiet : goal.returns-clause-quiet
returns-clause-quiet g c = c.loop-index.invariant.quiet

pub returns-in_err-add_one-clause-crash : goal.returns-in_err-add_one-clause-crash
returns-in_err-add_one-clause-crash g c = survives_both c.loop-index.invariant.crash c.add_one.ensures.crash
