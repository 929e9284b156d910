use Rattle.std.proofs.Common.{◌≡◌, ◌+◌, ◌<◌, ◌≤◌, ◌^◌, ℕ, List, get_or, length, map, sym, ap, subst, take, ◌∙◌}
use Rattle.std.proofs.Common.{arith, rules, IfErr}
use Rattle.std.proofs.lemmas.List.{get_or-map, length-map}
use Rattle.njh_spoolfile.specs.Kept.{contents_of}
use Rattle.njh_spoolfile.specs.Shelf.{shown}
use Rattle.njh_spoolfile.specs.code.CopySteps.{FillsEmpty, FitsStep}
use Rattle.njh_spoolfile.specs.declared.copying.CopyFault.{CopyFault}
use Rattle.njh_spoolfile.proofs.CopyFaults.{all_one, if_err, step_weaker}
use Rattle.njh_spoolfile.proofs.CopyLaws.{clean_before, fills_more, fills_nothing, leads_by, leads_nothing, leads_then}
use Rattle.njh_spoolfile.proofs.CopyLaws.{survives_both, survives_here}
use Rattle.njh_spoolfile.proofs.copying.add_records.Goals as goal

pub loop-stored-init : goal.loop-stored-init
loop-stored-init g c = record {
  added = λ clean. leads_nothing (fills_nothing c.args.key (map contents_of c.args.records.now));
  crash = survives_here (shown g.T.Store c.args.into.now) (λ _. ⊥);
}

pub loop-stored-preserved : goal.loop-stored-preserved
loop-stored-preserved g c =
    let key = c.args.key in
    let records = c.args.records.now in
    let all = map contents_of records in
    let at = c.loop-stored.stored-index in
    let one = c.stored-item.result in
    let within : at < length all = omega (arith, c.loop-stored-test.true, length-map records contents_of) in
    let here : contents_of one ≡ get_or all at (contents_of one) =
    ap contents_of c.stored-item.is
    ∙ sym (get_or-map contents_of records at one (contents_of one) c.loop-stored-test.true) in
    record {
      added = λ clean. leads_then (c.loop-stored.invariant.added (clean_before c.add_one.ensures.crash clean))
          (leads_by (c.in_ok-add_one.ensures.added clean))
          (λ s t u held_before held so_far is. subst (λ v. FillsEmpty key all (take (at + 1) all) s v) (sym is)
          (fills_more key at all (contents_of one) within here c.in_ok-add_one.ensures.place s t held.numbered
          held.records_rise so_far));
      crash = survives_both c.loop-stored.invariant.crash c.add_one.ensures.crash;
    }

pub returns-in_err-add_one-clause-fault : goal.returns-in_err-add_one-clause-fault
returns-in_err-add_one-clause-fault g c =
    let one = c.stored-item.result in
    let P = λ (fault : CopyFault). FitsStep ⊥ (one.place < 2 ^ 23 → ¬ (one.srcb ≤ 256)) fault in
    let fault : IfErr c.from_residual.result P = search rules in
    if_err P _ (λ fault fits. step_weaker ⊥ ⊥ (one.place < 2 ^ 23 → ¬ (one.srcb ≤ 256)) _ (λ none. none)
    (λ bad all. let here = all_one (λ (r : ℕ × ℕ × List ℕ). (r.0 < 2 ^ 23) × (r.1 ≤ 256)) contents_of
    c.args.records.now c.loop-stored.stored-index one c.loop-stored-test.true c.stored-item.is all in
    bad here.0 here.1) fault fits) c.from_residual.result fault
