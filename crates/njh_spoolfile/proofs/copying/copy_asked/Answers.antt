use Rattle.std.proofs.Common.{IfErr, ◌∙◌, [], ◌∷◌, ℕ, List, map, option_map, rules, sym, subst}
use Rattle.njh_spoolfile.specs.Copies.{HaveControlBytes}
use Rattle.njh_spoolfile.specs.Kept.{File, Holds, SpoolContents, entry_of, whole_in}
use Rattle.njh_spoolfile.specs.Shelf.{shown}
use Rattle.njh_spoolfile.specs.code.CopySteps.{FitsStep}
use Rattle.njh_spoolfile.specs.declared.copying.CopyFault.{CopyFault}
use Rattle.njh_spoolfile.proofs.CopiedFiles.{is_one}
use Rattle.njh_spoolfile.proofs.CopyFaults.{if_err, step_weaker}
use Rattle.njh_spoolfile.proofs.copying.copy_asked.Goals as goal

pub returns-in_err-copy_one-clause-fault : goal.returns-in_err-copy_one-clause-fault
returns-in_err-copy_one-clause-fault g c clean_from =
    let customer = option_map (λ c'. c'.now) c.args.customer in
    let entry = entry_of c.args.stored.now in
    let P = λ (fault : CopyFault). (spool : SpoolContents) → Holds spool (shown g.S.Store c.args.from.now).now.trees
    → FitsStep ⊥ (¬ HaveControlBytes (whole_in spool entry ∷ [])) fault in
    let fault : IfErr c.from_residual.result P = search rules in
    if_err P _ (λ fault fits spool held. step_weaker ⊥ _ (¬ HaveControlBytes (whole_in spool entry ∷ [])) _
    (λ none. absurd none) (λ bad have. bad (subst (λ (es : List (ℕ × File)). HaveControlBytes (map (whole_in spool) es))
    (is_one customer entry (sym c.is_asked.ensures ∙ c.if-not-is_asked.false)) have)) fault (fits spool held))
    c.from_residual.result fault
