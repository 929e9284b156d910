use Rattle.std.proofs.Common.{ap, arith}
use Rattle.njh_spool.specs.declared.customer_files.CustomerFiles.{CustomerFiles}
use Rattle.njh_spool.proofs.KeptLaws.{own_is}
use Rattle.njh_spool.proofs.Calls.{call_on}
use Rattle.njh_spool.proofs.CallFinds as finds
use Rattle.njh_spool.proofs.spool.Spool.arrived.Goals as goal

pub index-requires : goal.index-requires
index-requires c =
    let here = call_on c.self.inside c.args.customer 0 c.self.invariant (rw c.self.view_is c.requires) in
    omega (arith, (finds.has here).within, c.from.ensures, c.self.inside.customers.ok.0)

pub returns : goal.returns
returns c =
    let here = call_on c.self.inside c.args.customer 0 c.self.invariant (rw c.self.view_is c.requires) in
    let has = finds.has here in
    let own =
    own_is c.self.inside.customers.items c.args.customer c.from.result c.index.result.now has.within c.from.ensures
    c.index.ensures in
    rw (← c.self.view_is, has.part) (ap (λ (o : CustomerFiles). o.arrived) own)
