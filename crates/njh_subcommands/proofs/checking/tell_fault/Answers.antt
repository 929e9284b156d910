use Rattle.njh_subcommands.proofs.CheckLaws.{never_right}
use Rattle.njh_subcommands.proofs.checking.tell_fault.Goals as goal

pub returns-clause-fault : goal.returns-clause-fault
returns-clause-fault g c =
    never_right c.tell_tables.result c.args.bytes.now (g.W.Write.contents c.args.out.now)
    (g.W.Write.contents c.tell_tables.new.out) c.requires c.tell_tables.ensures.right
