use Rattle.njh_customer.proofs.RoutesMoves.{coherent_given}
use Rattle.njh_customer.proofs.new_routes.routes_keep_coherent.Goals as goal

pub returns : goal.returns
returns c = coherent_given
