use Rattle.std.proofs.Common.{◌≡◌, IfErr, rules, List, length, map, option_map, sym, ap, subst, ◌∙◌, arith}
use Rattle.std.proofs.lemmas.List.{length-map}
use Rattle.njh_spoolfile.specs.Kept.{Holds, SpoolContents, Whole, entry_of, whole_in}
use Rattle.njh_spoolfile.specs.Copies.{HaveControlBytes, asked}
use Rattle.njh_spoolfile.specs.Shelf.{shown}
use Rattle.njh_spoolfile.specs.code.CopySteps.{AddsAsked, FitsFiles, LacksRoom, LeadsTo, asked_of}
use Rattle.njh_spoolfile.specs.declared.copying.CopyFault.{CopyFault}
use Rattle.njh_spoolfile.proofs.CopiedFiles.{asked_in}
use Rattle.njh_spoolfile.proofs.CopyFaults.{if_err, step_weaker}
use Rattle.njh_spoolfile.proofs.CopyLaws.{clean_before, holds_still}
use Rattle.njh_spoolfile.proofs.copying.copy_behind.Goals as goal

pub returns-clause-copied : goal.returns-clause-copied
returns-clause-copied g c clean_from clean spool held =
    let customer = option_map (λ c'. c'.now) c.args.customer in
    let first = c.args.first in
    let early = clean_before c.copy_each.ensures.crash_from clean_from in
    let es = map entry_of c.as_slice.result.now in
    let is : es ≡ spool.files =
    ap (map entry_of) c.as_slice.ensures.value ∙ c.in_ok-files.ensures.files early spool held in
    let asked_is : map (whole_in spool) (asked_of customer es) ≡ asked customer spool = asked_in customer spool es is in
    let long : length (asked customer spool) ≡ length (asked_of customer es) =
    ap (λ (ws : List Whole). length ws) (sym asked_is) ∙ length-map (asked_of customer es) (whole_in spool) in (
      omega (arith, long, c.in_ok-after.ensures.counted.1),
      subst (λ (ws : List Whole). LeadsTo (AddsAsked first.id first.key ws) (shown g.T.Store c.args.into.now)
          (shown g.T.Store c.copy_each.new.into)) asked_is
          (c.in_ok-after.ensures.copied clean_from clean spool (holds_still (c.in_ok-files.ensures.same early) held)),
    )

pub returns-clause-room : goal.returns-clause-room
returns-clause-room g c low = (
  omega (arith, c.in_ok-after.ensures.counted.0, c.in_ok-after.ensures.counted.1, c.in_ok-after.ensures.low low),
  omega (arith, c.in_ok-after.ensures.counted.1),
)

pub returns-in_err-after-clause-fault : goal.returns-in_err-after-clause-fault
returns-in_err-after-clause-fault g c clean_from =
    let customer = option_map (λ c'. c'.now) c.args.customer in
    let first = c.args.first in
    let es = map entry_of c.as_slice.result.now in
    let early = clean_before c.copy_each.ensures.crash_from clean_from in
    let P = λ (fault : CopyFault). (spool : SpoolContents) → Holds spool (shown g.S.Store c.files.new.self).now.trees
    → FitsFiles first spool (asked_of customer es) fault in
    let fault : IfErr c.from_residual-in_err-after.result P = search rules in
    if_err P _ (λ fault fits spool held.
    let is : es ≡ spool.files =
    ap (map entry_of) c.as_slice.ensures.value ∙ c.in_ok-files.ensures.files early spool held in
    let asked_is : map (whole_in spool) (asked_of customer es) ≡ asked customer spool = asked_in customer spool es is in
    let long : length (asked_of customer es) ≡ length (asked customer spool) =
    sym (length-map (asked_of customer es) (whole_in spool)) ∙ ap (λ (ws : List Whole). length ws) asked_is in
    step_weaker (LacksRoom first (length (asked_of customer es))) (LacksRoom first (length (asked customer spool)))
    (¬ HaveControlBytes (map (whole_in spool) (asked_of customer es))) (¬ HaveControlBytes (asked customer spool))
    (λ lacks. subst (LacksRoom first) long lacks)
    (λ bad have. bad (subst HaveControlBytes (sym asked_is) have)) fault
    (fits spool (holds_still (c.in_ok-files.ensures.same early) held))) c.from_residual-in_err-after.result fault
