use Rattle.std.proofs.Common.{[]}
use Rattle.njh_encode.proofs.OrderLaws.{packed_order}
use Rattle.njh_encode.proofs.laws.packed_in_order.Goals as goal

pub returns : goal.returns
returns c = λ state items. packed_order items state []
