use Rattle.std.proofs.Common.{ap}
use Rattle.sqlite.specs.Order.{Row, column}
use Rattle.njh_spoolfile.proofs.reads.record_in.Goals as goal

pub returns : goal.returns
returns c e is = λ i. (
  c.in_ok-place.ensures e.1.place (ap (λ (r : Row). column r 0) is) i,
  c.in_ok-srcb.ensures e.1.srcb (ap (λ (r : Row). column r 1) is) i,
  c.in_ok-bytes.ensures e.1.bytes (ap (λ (r : Row). column r 2) is) i,
)
