use Rattle.std.proofs.Common.{◌≡◌, [], replicate, vec_capacity}
use Rattle.njh_arrivals.proofs.arrivals.Arrivals.none.Given as goal

abbrev pub invariant-loop-done : goal.invariant-loop-done
invariant-loop-done l = (l.rows.items ≡ replicate l._done []) × (vec_capacity l.rows ≡ l.customers)
