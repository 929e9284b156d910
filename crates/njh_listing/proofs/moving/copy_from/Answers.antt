use Rattle.std.proofs.Common.{option_map}
use Rattle.njh_listing.proofs.MapLaws.{listed_whole}
use Rattle.njh_listing.proofs.moving.copy_from.Goals as goal

pub returns-in-Ok-clause-begun : goal.returns-in-Ok-clause-begun
returns-in-Ok-clause-begun g c =
    listed_whole c.close.result (option_map (λ c'. c'.now) c.args.moved.now.customer) _ _ c.in-Ok.ensures.done
