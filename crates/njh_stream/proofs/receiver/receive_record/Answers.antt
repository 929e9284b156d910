-- What a record's class says is what it does.
use Rattle.std.proofs.Common.{sym, ap, ◌∙◌, subst}
use Rattle.njh_spool.specs.Spools.{spool_at}
use Rattle.njh_table.specs.TableFile.{entry_of}
use Rattle.njh_stream.specs.SpoolFiles.{records_in}
use Rattle.njh_stream.specs.code.Classes.{received_by, stored_of}
use Rattle.njh_stream.specs.code.Verdicts.{IsAfter}
use Rattle.njh_stream.proofs.ClassLaws.{class_known, class_received, IsKnown}
use Rattle.njh_stream.proofs.ReceivingLaws.{partial_records_in}
use Rattle.njh_stream.proofs.StoringLaws.{stored_unread}
use Rattle.njh_stream.proofs.receiver.receive_record.Goals as goal

pub returns-in-Ends : goal.returns-in-Ends
returns-in-Ends c =
    let from = c.args.from.now in
    let r = stored_of c.args.next.now in
    let s = spool_at from.id.customer c.args.spool.now in
    let entry = entry_of from.customer.now in
    subst (λ x. IsAfter c.close.result c.close.new.spool c.args.spool.now from.id.customer x)
    (ap (λ x. received_by entry from.id.number x r s) c.in-Ends.ensures
    ∙ class_received entry from.id.number c.args.kind c.args.receiver r.srcb r.bytes s)
    c.close.ensures

pub returns-in-Stored : goal.returns-in-Stored
returns-in-Stored c =
    let from = c.args.from.now in
    let file = c.in-Stored.file in
    let r = stored_of c.args.next.now in
    let s = spool_at from.id.customer c.args.spool.now in
    let entry = entry_of from.customer.now in
    let known = subst (λ x. IsKnown x r.srcb s) (sym c.in-Stored.ensures)
    (class_known c.args.kind c.args.receiver r.srcb r.bytes s c.requires.agrees) in
    subst (λ x. IsAfter c.append.result c.append.new.spool c.args.spool.now from.id.customer x)
    (stored_unread entry from.id.number file r s (records_in file.number s) c.in-Stored.progress
    (partial_records_in file.kind file.progress file.number s c.quota_holds.ensures.sound known.0) known.0 known.1
    ∙ ap (λ x. received_by entry from.id.number x r s) c.in-Stored.ensures
    ∙ class_received entry from.id.number c.args.kind c.args.receiver r.srcb r.bytes s)
    c.append.ensures

pub returns-in-Judged : goal.returns-in-Judged
returns-in-Judged c =
    let from = c.args.from.now in
    let r = stored_of c.args.next.now in
    let s = spool_at from.id.customer c.args.spool.now in
    let entry = entry_of from.customer.now in
    subst (λ x. IsAfter c.store.result c.store.new.spool c.args.spool.now from.id.customer x)
    (ap (λ x. received_by entry from.id.number x r s) c.in-Judged.ensures
    ∙ class_received entry from.id.number c.args.kind c.args.receiver r.srcb r.bytes s)
    c.store.ensures
