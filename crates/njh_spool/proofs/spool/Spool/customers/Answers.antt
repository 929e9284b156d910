use Rattle.std.proofs.Common.{arith}
use Rattle.njh_spool.specs.code.Slots.{contents}
use Rattle.njh_spool.proofs.KeptLaws.{length-spools_from}
use Rattle.njh_spool.proofs.spool.Spool.customers.Goals as goal

pub returns : goal.returns
returns c = rw (← c.self.view_is) (omega (
  arith,
  length-spools_from 0 c.self.inside.customers.items
      (contents c.self.inside.slots c.self.inside.store.chains),
  c.self.inside.customers.ok.0,
  c.self.invariant.few,
  c.len.ensures,
))
