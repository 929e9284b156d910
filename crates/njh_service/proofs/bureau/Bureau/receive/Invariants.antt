use Rattle.std.proofs.Common.{◌≡◌}
use Rattle.njh_service.proofs.bureau.Bureau.receive.Given as goal

-- the lines, the tables, the orders and the end of the service are as they were
abbrev pub invariant-loop : goal.invariant-loop
invariant-loop g l = record {
  exchange : l.self.exchange ≡ l.fn.self.exchange;
  tables : l.self.tables ≡ l.fn.self.tables;
  orders : l.self.console.orders ≡ l.fn.self.console.orders;
  stop : l.self.stop ≡ l.fn.self.stop;
}
