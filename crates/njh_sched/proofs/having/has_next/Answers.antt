use Rattle.std.proofs.Common.{◌∙◌, sym, ap}
use Rattle.njh_spool.specs.Spools.{spool_at}
use Rattle.njh_stream.specs.Sending.{goes_by}
use Rattle.njh_table.specs.TableFile.{NamedCustomer, customer_at, entry_of}
use Rattle.njh_sched.specs.Having.{has_record}
use Rattle.njh_sched.proofs.FirstLaws.{first_has_room}
use Rattle.njh_sched.proofs.having.has_next.Goals as goal

pub returns-clause-record : goal.returns-clause-record
returns-clause-record g c =
    c.has_record.ensures
    ∙ ap (λ (entry : NamedCustomer). has_record (goes_by (entry_of entry) c.args.id.number)
    (g.L.Outgoing.outlet c.args.line.now) (spool_at c.args.id.customer c.args.spool.now)) c.customer.ensures

pub returns-clause-block : goal.returns-clause-block
returns-clause-block g c = λ w empty limit.
    let entry = customer_at c.args.tables.now c.args.id.customer in
    first_has_room (goes_by (entry_of entry) c.args.id.number) w (g.L.Outgoing.outlet c.args.line.now)
    (spool_at c.args.id.customer c.args.spool.now) empty limit
    (record { message = c.front_is_short.ensures; records = c.records_are_short.ensures })
    ∙ sym (c.has_record.ensures
    ∙ ap (λ (e : NamedCustomer). has_record (goes_by (entry_of e) c.args.id.number)
    (g.L.Outgoing.outlet c.args.line.now) (spool_at c.args.id.customer c.args.spool.now)) c.customer.ensures)
