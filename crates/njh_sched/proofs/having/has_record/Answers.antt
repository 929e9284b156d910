use Rattle.std.proofs.Common.{◌∙◌, ◌&&◌, ◌||◌, not, sym, ap}
use Rattle.njh_block.specs.Blocks.{all_suspended}
use Rattle.njh_spool.specs.Spools.{spool_at}
use Rattle.njh_stream.specs.Sending.{goes_by}
use Rattle.njh_table.specs.TableFile.{entry_of}
use Rattle.njh_sched.specs.code.Having.{has_queued, has_request}
use Rattle.njh_sched.proofs.HavingLaws.{has_record_is}
use Rattle.njh_sched.proofs.having.has_record.Goals as goal

pub returns-then-all_suspended : goal.returns-then-all_suspended
returns-then-all_suspended g c =
    let o = g.L.Outgoing.outlet c.args.line.now in
    let goes = goes_by (entry_of c.args.entry.now) c.args.id.number in
    let s = spool_at c.args.id.customer c.args.spool.now in
    sym (has_record_is goes o s
    ∙ ap (λ b. not b && (has_queued o || has_request goes o s))
    (ap all_suspended (sym c.peer_fcs.ensures) ∙ sym c.all_suspended.ensures ∙ c.if-all_suspended.true))

pub returns : goal.returns
returns g c =
    let o = g.L.Outgoing.outlet c.args.line.now in
    let goes = goes_by (entry_of c.args.entry.now) c.args.id.number in
    let s = spool_at c.args.id.customer c.args.spool.now in
    c.has_some.ensures
    ∙ sym (has_record_is goes o s
    ∙ ap (λ b. not b && (has_queued o || has_request goes o s))
    (ap all_suspended (sym c.peer_fcs.ensures) ∙ sym c.all_suspended.ensures ∙ c.if-all_suspended.false))
