use Rattle.std.specs.List.{AllByRecursion}
use Rattle.std.proofs.Common.{[], ◌∷◌, ◌≤◌, IfErr, map, rules, sym, subst}
use Rattle.njh_spoolfile.specs.Kept.{Holds, SpoolContents, as_stands, entry_of, file_of, records_of}
use Rattle.njh_spoolfile.specs.Shelf.{shown}
use Rattle.njh_spoolfile.specs.code.CopySteps.{Adds, FitsStep}
use Rattle.njh_spoolfile.specs.declared.copying.CopyFault.{CopyFault}
use Rattle.njh_spoolfile.proofs.CopiedFiles.{adds_one}
use Rattle.njh_spoolfile.proofs.CopyFaults.{if_err, rows_have, step_weaker}
use Rattle.njh_spoolfile.proofs.CopyLaws.{clean_before, leads_by, leads_then}
use Rattle.njh_spoolfile.proofs.copying.copy_one.Goals as goal

pub returns-clause-copied : goal.returns-clause-copied
returns-clause-copied g c clean_from clean spool held =
    let id = c.args.next.id in
    let key = c.args.next.key in
    let entry = entry_of c.args.stored.now in
    leads_then (c.in_ok-copy_records.ensures.copied clean_from (clean_before c.add_file.ensures.crash clean) spool held)
    (leads_by (c.in_ok-add_file.ensures.changed clean))
    (λ s t u held_before held_then fills is. subst (λ v. Adds id key spool (entry ∷ []) s v) (sym is)
    (adds_one id key spool entry s t (file_of c.in_ok-row.row) c.in_ok-row.ensures fills))

pub returns-in_err-copy_records-clause-fault : goal.returns-in_err-copy_records-clause-fault
returns-in_err-copy_records-clause-fault g c clean_from =
    let key = c.args.stored.now.file.key in
    let P = λ (fault : CopyFault). (spool : SpoolContents) → Holds spool (shown g.S.Store c.args.from.now).now.trees
    → FitsStep ⊥ (¬ AllByRecursion (λ r. r.1 ≤ 256) (map as_stands (records_of key spool))) fault in
    let fault : IfErr c.from_residual.result P = search rules in
    if_err P _ (λ fault fits spool held. step_weaker ⊥ ⊥
    (¬ AllByRecursion (λ r. r.1 ≤ 256) (map as_stands (records_of key spool))) _ (λ none. none)
    (λ bad have. bad (rows_have (records_of key spool) have.0)) fault (fits spool held)) c.from_residual.result fault
