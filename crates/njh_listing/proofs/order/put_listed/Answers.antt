use Rattle.std.proofs.Common.{ap, map, option_map, sym}
use Rattle.njh_spoolfile.specs.Kept.{entry_of}
use Rattle.njh_listing.specs.Listed.{listed_files}
use Rattle.njh_listing.proofs.MapLaws.{appends_other}
use Rattle.njh_listing.proofs.order.put_listed.Goals as goal

pub returns-in-Some : goal.returns-in-Some
returns-in-Some c =
    appends_other c.put_customer.result _ _ _ _
    (ap (λ o. listed_files (option_map (λ s. s.now) o) (map entry_of c.args.files.now)) (sym c.in-Some.is))
    c.put_customer.ensures
