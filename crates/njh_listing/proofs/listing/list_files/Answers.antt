use Rattle.njh_listing.proofs.MapLaws.{kept_or_listed}
use Rattle.njh_listing.proofs.listing.list_files.Goals as goal

pub returns-clause-begun : goal.returns-clause-begun
returns-clause-begun g c =
    kept_or_listed c.write_listing.result _ c.in_ok-text.text.items c.deref.result.now _ _ c.deref.ensures.value
    c.in_ok-text.ensures.some c.write_listing.ensures.err
