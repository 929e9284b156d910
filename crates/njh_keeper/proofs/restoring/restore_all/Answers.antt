use Rattle.std.proofs.Common.{◌+◌, map, take, drop, ap, sym, subst, ◌∙◌, inl, inr}
use Rattle.{std.proofs.lemmas.Bool.cases_Bool, njh_spoolfile.specs.Shelf.shown}
use Rattle.njh_keeper.proofs.{LeadingLaws.{clean_before, survives_both}, StepLaws.{first_told, one_more_tried}}
use Rattle.njh_keeper.proofs.TryingLaws.{keeps_then, no_file}
use Rattle.njh_keeper.specs.{Refusal.refusal_of, code.Restoring.{AreTried, spool_midway}}
use Rattle.njh_keeper.proofs.restoring.restore_all.Goals as goal

pub loop-at-preserved : goal.loop-at-preserved
loop-at-preserved g c =
    let names = c.args.names.now in
    let hub = c.args.hub.now in
    let files = c.args.files.now in
    let at = c.loop-at.at in
    let so_far = c.loop-at.invariant in
    let one = c.in-Ok.ensures in
    let early = clean_before c.try_one.ensures.crash in
    record {
      count = c.try_one.ensures.count ∙ so_far.count;
      lines = λ d. c.try_one.ensures.lines d ∙ so_far.lines d;
      crash = survives_both so_far.crash c.try_one.ensures.crash;
      keeps = λ clean. keeps_then (so_far.keeps (early clean)) (one.keeps clean);
      strict = λ strict. c.in_ok-add_told-in-Ok.ensures.none (one.strict strict) ∙ so_far.strict strict;
      tried = λ clean spool held rows.
          let before = so_far.tried (early clean) spool held rows in
          subst (λ told. AreTried names hub c.try_one.new.hub (take (at + 1) files) (drop (at + 1) files) told spool
          (shown g.S.Store c.try_one.new.store)) (sym c.in_ok-add_told-in-Ok.ensures.ok)
          (one_more_tried names hub c.loop-at.hub c.try_one.new.hub spool files at c.index-files-at.result
          c.loop-at-test.true c.index-files-at.is before
          (one.ok clean (spool_midway names hub spool (take at files) (drop at files)) before.holds));
    }

pub returns-in-Err-clause-fault : goal.returns-in-Err-clause-fault
returns-in-Err-clause-fault g c clean spool held rows =
    let names = c.args.names.now in
    let hub = c.args.hub.now in
    let files = c.args.files.now in
    let at = c.loop-at.at in
    let so_far = c.loop-at.invariant in
    let before = so_far.tried (clean_before c.try_one.ensures.crash clean) spool held rows in
    elim (cases_Bool c.args.is_strict) [
      | inl strict ↦ first_told names hub c.loop-at.hub c.try_one.new.hub spool files at c.index-files-at.result
          c.loop-at-test.true c.index-files-at.is before (ap (map refusal_of) (so_far.strict strict)) c.in-Err.fault
          (c.in-Err.ensures.fault clean (spool_midway names hub spool (take at files) (drop at files)) before.holds)
      | inr lax ↦ no_file _ c.in-Err.fault (c.in-Err.ensures.lenient lax)
    ]
