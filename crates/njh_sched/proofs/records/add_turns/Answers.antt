use Rattle.std.proofs.Common.{sym}
use Rattle.njh_spool.specs.Spools.{spool_at}
use Rattle.njh_sched.proofs.TurnLaws.{no_turns}
use Rattle.njh_sched.proofs.records.add_turns.Goals as goal

pub returns-in-None-clause-source : goal.returns-in-None-clause-source
returns-in-None-clause-source g c goes =
    no_turns goes c.args.writer.now.limit c.args.writer.now (g.L.Outgoing.outlet c.args.line.now)
    (spool_at c.args.customer c.args.spool.now) (sym c.in-None.ensures)
