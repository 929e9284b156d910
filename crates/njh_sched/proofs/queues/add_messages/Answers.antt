use Rattle.std.proofs.Common.{◌∙◌, sym, ap}
use Rattle.njh_block.specs.Blocks.{messages_on}
use Rattle.njh_sched.specs.NextBlock.{after_sources, messages_where, filling}
use Rattle.njh_sched.proofs.SourceLists.{nothing_left}
use Rattle.njh_sched.proofs.queues.add_messages.Goals as goal

pub returns-else-messages_on-clause-source : goal.returns-else-messages_on-clause-source
returns-else-messages_on-clause-source g c goes s =
    ap (λ b. after_sources goes (messages_where b (g.L.Outgoing.outlet c.args.line.now).messages)
    (filling c.args.writer.now
    (g.L.Outgoing.outlet c.args.line.now) s))
    (ap messages_on (sym c.peer_fcs.ensures) ∙ sym c.messages_on.ensures ∙ c.if-messages_on.false)
    ∙ nothing_left goes (filling c.args.writer.now (g.L.Outgoing.outlet c.args.line.now) s)
