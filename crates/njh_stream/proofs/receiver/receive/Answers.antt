-- A file that comes is given up first.
use Rattle.std.proofs.Common.{sym, ap, ◌∙◌, subst}
use Rattle.njh_spool.specs.Spools.{spool_at}
use Rattle.njh_table.specs.TableFile.{entry_of}
use Rattle.njh_stream.specs.Arrivals.{arrival_of}
use Rattle.njh_stream.specs.code.Verdicts.{IsAfter}
use Rattle.njh_stream.specs.Receiving.{received_arrival, without_open}
use Rattle.njh_stream.proofs.ReceivingLaws.{begun_after, request_cuts}
use Rattle.njh_stream.proofs.receiver.receive.Goals as goal

pub returns-in-Request : goal.returns-in-Request
returns-in-Request c =
    let from = c.args.from.now in
    let entry = entry_of from.customer.now in
    let s = spool_at from.id.customer c.args.spool.now in
    subst (λ x. IsAfter c.begin.result c.begin.new.spool c.args.spool.now from.id.customer x)
    (request_cuts entry from.id.number c.args.kind c.args.receiver s
    ∙ ap (λ a. received_arrival entry from.id.number c.args.kind c.args.receiver (arrival_of a) s)
    (sym c.in-Request.is))
    (begun_after c.begin.result c.begin.new.spool c.give_up.new.spool c.args.spool.now from.id.customer
    (without_open c.args.receiver s) c.args.kind c.requires.spooled c.give_up.ensures c.begin.ensures)
