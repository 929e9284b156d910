use Rattle.njh_customer.proofs.CoherenceLaws.{order_coherent}
use Rattle.njh_customer.proofs.orders.orders_keep_coherent.Goals as goal

pub returns : goal.returns
returns c = order_coherent
