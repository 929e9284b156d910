use Rattle.njh_listing.proofs.MapLaws.{exported_in_part}
use Rattle.njh_listing.specs.Faults.{IsOfSpool}
use Rattle.njh_listing.proofs.FaultLaws.{if_err, spool_fits}
use Rattle.njh_listing.proofs.exporting.export_file.Goals as goal

pub returns-clause-begun : goal.returns-clause-begun
returns-clause-begun g c =
    exported_in_part c.write_text.result _ c.in_ok-text.text.items c.deref.result.now _ _ c.deref.ensures.value
    c.in_ok-text.ensures.some
    c.write_text.ensures.err

pub returns-clause-refused : goal.returns-clause-refused
returns-clause-refused g c clean =
    if_err IsOfSpool _ (λ fault is spool held. spool_fits _ _ fault is) c.write_text.result c.write_text.ensures.fault
