use Rattle.{std.proofs.Common.{◌≡◌, length, slice_set}, njh_spool.specs.Spools.spool_at}
use Rattle.njh_customer.specs.{Acting.all_acted, CustomerSteps.{IsReady, customer_of}}
use Rattle.njh_customer.proofs.shared.Shared.all_act.Given as goal

-- what is left to act is what leads on from here
abbrev pub invariant-loop-item : goal.invariant-loop-item
invariant-loop-item l = record {
  rest : all_acted l.id.number l.block.items (customer_of l.id.customer l.self l.lines)
      ≡ all_acted l.id.number l.fn.block.items (customer_of l.id.customer l.fn.self l.fn.lines);
  others : l.self.spool ≡ slice_set l.fn.self.spool l.id.customer (spool_at l.id.customer l.self.spool);
  tables : l.self.tables ≡ l.fn.self.tables;
  ready : IsReady l.id l.self l.lines;
}

abbrev pub decreases-loop-item : goal.decreases-loop-item
decreases-loop-item l = length l.block.items
