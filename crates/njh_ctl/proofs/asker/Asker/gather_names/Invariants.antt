use Rattle.std.proofs.Common.{Some, map}
use Rattle.std.specs.Prelude.{string_bytes}
use Rattle.njh_ctl.specs.Asked.{Gathered, IsName}
use Rattle.njh_ctl.specs.Lists.{Customers}
use Rattle.njh_ctl.proofs.asker.Asker.gather_names.Given as goal

abbrev pub invariant-loop : goal.invariant-loop
invariant-loop g l = Gathered Customers IsName l.fn.self l.self (map string_bytes l.names.items) (Some l.from)
