use Rattle.std.proofs.Common.{ap}
use Rattle.sqlite.specs.Order.{Row, column}
use Rattle.njh_spoolfile.proofs.reads.file_in.Goals as goal

pub returns : goal.returns
returns c e is =
    λ i. (
      c.in_ok-id.ensures e.0 (ap (λ (r : Row). column r 0) is) i,
      record {
        customer = c.in_ok-customer.ensures e.1.customer (ap (λ (r : Row). column r 1) is) i;
        key = c.in_ok-key.ensures e.1.key (ap (λ (r : Row). column r 2) is) i;
        kind = c.in_ok-kind.ensures e.1.kind (ap (λ (r : Row). column r 3) is) i;
        job = c.in_ok-job.ensures e.1.job (ap (λ (r : Row). column r 4) is) i;
        number = c.in_ok-number.ensures e.1.number (ap (λ (r : Row). column r 5) is) i;
        owner_node = c.in_ok-owner_node.ensures e.1.owner_node (ap (λ (r : Row). column r 6) is) i;
        owner_user = c.in_ok-owner_user.ensures e.1.owner_user (ap (λ (r : Row). column r 7) is) i;
        to_node = c.in_ok-to_node.ensures e.1.to_node (ap (λ (r : Row). column r 8) is) i;
        to_user = c.in_ok-to_user.ensures e.1.to_user (ap (λ (r : Row). column r 9) is) i;
        held = c.in_ok-held.ensures e.1.held (ap (λ (r : Row). column r 10) is) i;
        records = c.in_ok-records.ensures e.1.records (ap (λ (r : Row). column r 11) is) i;
        blocks = c.in_ok-blocks.ensures e.1.blocks (ap (λ (r : Row). column r 12) is) i;
        came = c.in_ok-came.ensures e.1.came (ap (λ (r : Row). column r 13) is) i;
      },
    )
