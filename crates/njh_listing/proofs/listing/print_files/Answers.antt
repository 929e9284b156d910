use Rattle.njh_listing.proofs.MapLaws.{listed_in_part}
use Rattle.njh_listing.proofs.listing.print_files.Goals as goal

pub returns-clause-begun : goal.returns-clause-begun
returns-clause-begun g c =
    listed_in_part c.write_text.result _ c.in_ok-text.text.items c.deref.result.now _ _ c.deref.ensures.value
    c.in_ok-text.ensures.some c.write_text.ensures.err
