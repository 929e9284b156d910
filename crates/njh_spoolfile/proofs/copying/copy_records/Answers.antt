use Rattle.std.specs.List.{AllByRecursion}
use Rattle.std.proofs.Common.{◌≡◌, ◌<◌, ◌≤◌, ◌^◌, List, map, ℕ, sym, ap, subst, ◌∙◌}
use Rattle.njh_spoolfile.specs.Kept.{as_stands, contents_of, records_of}
use Rattle.njh_spoolfile.specs.code.CopySteps.{Fills, Rising}
use Rattle.njh_spoolfile.proofs.CopyFaults.{if_err, numbered_places, step_weaker}
use Rattle.njh_spoolfile.proofs.CopyLaws.{clean_before, fills_after, leads_by, leads_then, rising_records}
use Rattle.njh_spoolfile.proofs.CopyLaws.{survives_both}
use Rattle.njh_spoolfile.proofs.ReadingLaws.{of_file, ok_then}
use Rattle.njh_spoolfile.proofs.copying.copy_records.Goals as goal

pub returns-clause-copied : goal.returns-clause-copied
returns-clause-copied g c clean_from clean =
    ok_then c.add_records.result _ _ (λ added spool held.
    let all = map contents_of c.as_slice.result.now in
    let all_is : all ≡ map as_stands (records_of c.args.key spool) =
    ap (map contents_of) c.as_slice.ensures.value ∙ c.in_ok-records.ensures.rows clean_from spool held
    ∙ ap (map as_stands) (of_file c.args.key spool.records held.numbered) in
    let up : Rising all =
    subst Rising (sym all_is) (rising_records c.args.key spool.records held.records_rise held.numbered) in
    leads_then (leads_by (c.in_ok-drop_records.ensures.changed (clean_before c.add_records.ensures.crash clean))) added
    (λ s t u held_before held_then is fills. subst (λ (rs : List (ℕ × ℕ × List ℕ)). Fills c.args.new_key rs s u) all_is
    (fills_after c.args.new_key all s t u held_before.numbered is up fills)))
    (c.add_records.ensures.added clean)

pub returns-clause-crash : goal.returns-clause-crash
returns-clause-crash g c = survives_both c.drop_records.ensures.crash c.add_records.ensures.crash

pub returns-clause-fault : goal.returns-clause-fault
returns-clause-fault g c clean_from =
    let all = map contents_of c.as_slice.result.now in
    if_err _ _ (λ fault fits spool held.
    let all_is : all ≡ map as_stands (records_of c.args.key spool) =
    ap (map contents_of) c.as_slice.ensures.value ∙ c.in_ok-records.ensures.rows clean_from spool held
    ∙ ap (map as_stands) (of_file c.args.key spool.records held.numbered) in
    step_weaker ⊥ ⊥ (¬ AllByRecursion (λ r. (r.0 < 2 ^ 23) × (r.1 ≤ 256)) all) _ (λ none. none)
    (λ bad have. bad (subst (AllByRecursion (λ (r : ℕ × ℕ × List ℕ). (r.0 < 2 ^ 23) × (r.1 ≤ 256))) (sym all_is)
    (numbered_places c.args.key spool.records held.numbered have))) fault fits)
    c.add_records.result c.add_records.ensures.fault
