use Rattle.std.specs.Prelude.{IfErr}
use Rattle.std.proofs.Common.{rules, ◌∙◌, ap, arith, map, option_map, subst, sym}
use Rattle.sqlite.specs.Effect.{Database}
use Rattle.sqlite.specs.State.{HasCleanDisk}
use Rattle.njh_spoolfile.proofs.ReadingLaws.{of_file}
use Rattle.njh_spoolfile.specs.Kept.{Holds, contents_in, contents_of, entry_of}
use Rattle.njh_spoolfile.specs.Shelf.{shown}
use Rattle.njh_listing.specs.Asked.{IsRefusedOf, asked_of, key_in}
use Rattle.njh_spoolfile.specs.Sent.{as_stored}
use Rattle.njh_listing.specs.Exported.{export_text, records_by_rows}
use Rattle.njh_listing.specs.Faults.{IsOfSpool}
use Rattle.njh_listing.proofs.FaultLaws.{if_err, spool_fits}
use Rattle.njh_listing.proofs.exporting.export.Goals as goal

pub returns-clause-kept : goal.returns-clause-kept
returns-clause-kept g c clean spool held =
    let customer = option_map (λ c'. c'.now) c.args.asked.now.customer in
    let early : HasCleanDisk (shown g.S.Store c.files.new.self) = omega (arith, c.records.ensures.crash.clean) in
    let stays = c.in_ok-files.ensures.same early in
    let still : Holds spool (shown g.S.Store c.files.new.self).now.trees =
    subst (λ (d : Database). Holds spool d.trees) (sym stays.now) held in
    let rows = ap (map entry_of) c.as_slice-2.ensures.value ∙ c.in_ok-files.ensures.files early spool held in
    let read = c.in_ok-records.ensures.records clean spool still
    ∙ ap contents_in (of_file c.in_ok-key.key spool.records held.numbered) in (
      c.in_ok-key.key,
      ap (λ es. map key_in (asked_of customer c.args.asked.now.number c.args.name.now es))
          (sym (ap (map entry_of) c.as_slice.ensures.value ∙ c.in_ok-files.ensures.files early spool held))
          ∙ c.in_ok-key.ensures.found,
      c.in_ok-export_text.ensures
          ∙ ap (export_text c.args.asked.now.raw)
          (ap (λ rs. map as_stored (map contents_of rs)) c.as_slice-3.ensures.value ∙ c.send_by_rows.ensures
          ∙ (λ i. records_by_rows c.in_ok-key.key (rows i) (map as_stored (read i)))),
    )

pub returns-in_err-files-clause-refused : goal.returns-in_err-files-clause-refused
returns-in_err-files-clause-refused g c clean =
    let fault : IfErr c.from_residual.result IsOfSpool = search rules in
    if_err IsOfSpool _ (λ fault is spool held. spool_fits _ _ fault is) c.from_residual.result fault

pub returns-in_err-key-clause-refused : goal.returns-in_err-key-clause-refused
returns-in_err-key-clause-refused g c clean =
    let customer = option_map (λ c'. c'.now) c.args.asked.now.customer in
    let fault : IfErr c.from_residual-in_err-key.result
    (IsRefusedOf customer c.args.asked.now.number c.args.name.now (map entry_of c.as_slice.result.now)) =
    search rules in
    if_err _ _
    (λ fault fits spool held.
    subst (λ es. IsRefusedOf customer c.args.asked.now.number c.args.name.now es fault)
    (ap (map entry_of) c.as_slice.ensures.value ∙ c.in_ok-files.ensures.files clean spool held) fits)
    c.from_residual-in_err-key.result fault

pub returns-in_err-records-clause-refused : goal.returns-in_err-records-clause-refused
returns-in_err-records-clause-refused g c clean =
    let fault : IfErr c.from_residual-in_err-records.result IsOfSpool = search rules in
    if_err IsOfSpool _ (λ fault is spool held. spool_fits _ _ fault is) c.from_residual-in_err-records.result fault

pub returns-in_err-export_text-clause-refused : goal.returns-in_err-export_text-clause-refused
returns-in_err-export_text-clause-refused g c clean =
    let fault : IfErr c.from_residual-in_err-export_text.result IsOfSpool = search rules in
    if_err IsOfSpool _ (λ fault is spool held. spool_fits _ _ fault is) c.from_residual-in_err-export_text.result fault
