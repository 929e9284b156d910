use Rattle.njh_spool.proofs.Calls.{call_on, files_at, own_at}
use Rattle.njh_spool.proofs.CallFinds as finds
use Rattle.njh_spool.proofs.ReadLaws.{whole_short}
use Rattle.njh_spool.proofs.spool.Spool.records_are_short.Goals as goal

pub returns : goal.returns
returns c =
    let here = call_on c.self.inside c.args.customer 0 c.self.invariant (rw c.self.view_is c.requires) in
    let has = finds.has here in
    rw (← c.self.view_is, has.part)
    (whole_short (files_at here) (own_at here).whole (λ n. (c.self.invariant.files c.args.customer n).short))
