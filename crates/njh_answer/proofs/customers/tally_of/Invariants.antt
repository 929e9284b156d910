use Rattle.std.proofs.Common.{◌≡◌, take}
use Rattle.njh_hub.specs.WholeHub.{part}
use Rattle.njh_answer.specs.Customers.{counted, tally_of}
use Rattle.njh_answer.proofs.customers.tally_of.Given as goal

abbrev pub invariant-loop-index : goal.invariant-loop-index
invariant-loop-index l = record {
  tallied : l.tally ≡ tally_of (take l.index (part l.customer l.hub).customer.spool.whole);
  counts : counted l.tally ≡ l.index;
}
