-- The stream agrees with its file.
use Rattle.std.proofs.Common.{◌<◌, length, subst, sym}
use Rattle.njh_block.specs.Codes.{kind_of}
use Rattle.njh_spool.specs.Spools.{spool_at}
use Rattle.njh_spool.proofs.NumberLaws.{next_number-fresh}
use Rattle.njh_table.specs.TableFile.{customer_at, entry_of}
use Rattle.njh_stream.specs.Arrivals.{arrival_of}
use Rattle.njh_stream.specs.code.Agreement.{Agrees}
use Rattle.njh_stream.proofs.AgreesLaws.{step_agrees}
use Rattle.njh_stream.proofs.receiver.Receiver.step.Goals as goal

pub returns-in-Some-clause-agrees : goal.returns-in-Some-clause-agrees
returns-in-Some-clause-agrees c =
    let id = c.args.id in
    let entry = entry_of (customer_at c.args.tables.now id.customer) in
    let after = c.in-Some.ensures entry id.number in
    subst (λ k. Agrees k c.in-Some.after (spool_at id.customer c.receive_unread.new.spool)) c.kind.ensures
    (step_agrees entry id.number id.customer c.kind.result c.args.self.now c.in-Some.after
    (arrival_of c.args.arrival) c.args.spool.now c.receive_unread.new.spool next_number-fresh
    c.requires.spooled
    (subst (λ k. Agrees k c.args.self.now (spool_at id.customer c.args.spool.now)) (sym c.kind.ensures)
    c.requires.agrees)
    after.receiver after.spool)

pub returns-in-None-clause-agrees : goal.returns-in-None-clause-agrees
returns-in-None-clause-agrees c =
    let id = c.args.id in
    step_agrees (entry_of c.customer-customer.result.now) id.number id.customer (kind_of c.args.stream) c.args.self.now
    c.take.new.self
    (arrival_of c.args.arrival) c.receive_unread.new.spool c.take.new.spool next_number-fresh
    (subst (λ x. id.customer < length x) (sym c.in-None.ensures) c.requires.spooled)
    (subst (λ x. Agrees (kind_of c.args.stream) c.args.self.now (spool_at id.customer x)) (sym c.in-None.ensures)
    c.requires.agrees)
    c.take.ensures.receiver c.take.ensures.spool
