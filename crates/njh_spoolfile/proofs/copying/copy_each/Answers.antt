use Rattle.std.proofs.Common.{◌≡◌, List, map, ℕ, option_map, sym, subst, take}
use Rattle.std.proofs.Common.{arith, rules, IfErr, ◌+◌, ◌++◌, [], ◌∷◌}
use Rattle.njh_spoolfile.specs.Kept.{File, Holds, SpoolContents, entry_of}
use Rattle.njh_spoolfile.specs.Shelf.{shown}
use Rattle.njh_spoolfile.specs.code.CopySteps.{Adds, FitsFiles, LeadsTo, asked_of}
use Rattle.njh_spoolfile.specs.declared.copying.CopyFault.{CopyFault}
use Rattle.njh_spoolfile.proofs.CopiedFiles.{adds_more, adds_nothing, asked_more, behind_more}
use Rattle.njh_spoolfile.proofs.CopyFaults.{each_fits, if_err}
use Rattle.njh_spoolfile.proofs.CopyLaws.{clean_before, holds_still, leads_nothing, leads_then, stays_both, stays_here}
use Rattle.njh_spoolfile.proofs.CopyLaws.{survives_both, survives_here}
use Rattle.njh_spoolfile.proofs.copying.copy_each.Goals as goal

pub loop-stored-init : goal.loop-stored-init
loop-stored-init g c = record {
  copied = λ clean_from clean spool held. leads_nothing (adds_nothing c.args.first.id c.args.first.key spool);
  counted = (omega arith, omega arith);
  low = λ first. first;
  same = λ clean. stays_here (shown g.S.Store c.args.from.now);
  crash_from = survives_here (shown g.S.Store c.args.from.now) (λ _. ⊥);
  crash = survives_here (shown g.T.Store c.args.into.now) (λ _. ⊥);
}

pub loop-stored-preserved : goal.loop-stored-preserved
loop-stored-preserved g c =
    let customer = option_map (λ c'. c'.now) c.args.customer in
    let files = c.args.files.now in
    let at = c.loop-stored.stored-index in
    let so_far = c.loop-stored.invariant in
    let first = c.args.first in
    let next = c.loop-stored.next in
    let done = asked_of customer (map entry_of (take at files)) in
    let more = asked_of customer (entry_of c.stored-item.result ∷ []) in
    let after = asked_of customer (map entry_of (take (at + 1) files)) in
    let is : after ≡ done ++ more =
    asked_more customer files at c.stored-item.result c.loop-stored-test.true c.stored-item.is in
    record {
      copied = λ clean_from clean spool held.
          let early = clean_before c.copy_asked.ensures.crash_from clean_from in
          subst (λ (es : List (ℕ × File)). LeadsTo (Adds first.id first.key spool es) (shown g.T.Store c.args.into.now)
          (shown g.T.Store c.copy_asked.new.into)) (sym is)
          (leads_then (so_far.copied early (clean_before c.copy_asked.ensures.crash clean) spool held)
          (c.in_ok-next.ensures.copied clean_from clean spool (holds_still (so_far.same early) held))
          (λ s t u held_before held_then one two. adds_more first.id first.key next.id next.key spool done more s t u
          so_far.counted.0 so_far.counted.1 one two));
      counted = behind_more first next c.in_ok-next.next done more after is so_far.counted c.in_ok-next.ensures.counted;
      low = λ first_low. c.in_ok-next.ensures.low (so_far.low first_low);
      same = λ clean. stays_both (so_far.same (clean_before c.copy_asked.ensures.crash_from clean))
          (c.in_ok-next.ensures.same clean);
      crash_from = survives_both so_far.crash_from c.copy_asked.ensures.crash_from;
      crash = survives_both so_far.crash c.copy_asked.ensures.crash;
    }

pub returns-in_err-next-clause-crash_from : goal.returns-in_err-next-clause-crash_from
returns-in_err-next-clause-crash_from g c =
    survives_both c.loop-stored.invariant.crash_from c.copy_asked.ensures.crash_from

pub returns-in_err-next-clause-crash : goal.returns-in_err-next-clause-crash
returns-in_err-next-clause-crash g c = survives_both c.loop-stored.invariant.crash c.copy_asked.ensures.crash

pub returns-in_err-next-clause-fault : goal.returns-in_err-next-clause-fault
returns-in_err-next-clause-fault g c clean_from =
    let customer = option_map (λ c'. c'.now) c.args.customer in
    let so_far = c.loop-stored.invariant in
    let early = clean_before c.copy_asked.ensures.crash_from clean_from in
    let P = λ (fault : CopyFault). (spool : SpoolContents) → Holds spool (shown g.S.Store c.loop-stored.from).now.trees
    → FitsFiles c.loop-stored.next spool (asked_of customer (entry_of c.stored-item.result ∷ [])) fault in
    let fault : IfErr c.from_residual.result P = search rules in
    if_err P _ (λ fault fits spool held. each_fits customer spool c.args.first c.loop-stored.next c.args.files.now
    c.loop-stored.stored-index c.stored-item.result c.loop-stored-test.true c.stored-item.is so_far.counted fault
    (fits spool (holds_still (so_far.same early) held))) c.from_residual.result fault
