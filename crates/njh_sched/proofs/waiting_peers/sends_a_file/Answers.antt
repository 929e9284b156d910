use Rattle.std.proofs.Common.{sym, ◌∙◌}
use Rattle.njh_spool.specs.Spools.{spool_at}
use Rattle.njh_sched.specs.Tight.{is_being_sent}
use Rattle.njh_sched.proofs.FileLists.{one_more, some_here}
use Rattle.njh_sched.proofs.waiting_peers.sends_a_file.Goals as goal

pub returns-then-is_sent_at : goal.returns-then-is_sent_at
returns-then-is_sent_at c =
    sym (some_here is_being_sent (spool_at c.args.customer c.args.spool.now).whole c.loop-index.index
    (sym c.is_sent_at.ensures
    ∙ c.if-is_sent_at.true))

pub loop-index-preserved : goal.loop-index-preserved
loop-index-preserved c =
    one_more is_being_sent (spool_at c.args.customer c.args.spool.now).whole c.loop-index.index c.loop-index.invariant
    (sym c.is_sent_at.ensures ∙ c.if-is_sent_at.false)
