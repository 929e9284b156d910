-- The records of a file that is open are those of its number, and the verdict by what is kept is the verdict on the
-- record.
use Rattle.std.proofs.Common.{sym, ap, ◌∙◌, subst, ◌++◌, ◌∷◌, []}
use Rattle.std.specs.Option.{option_map}
use Rattle.njh_spool.specs.Spools.{spool_at}
use Rattle.njh_spool.specs.CustomerSpool.{has_room_for}
use Rattle.njh_header.specs.FileHeaders.{job_header_of}
use Rattle.njh_table.specs.TableFile.{entry_of}
use Rattle.njh_stream.specs.code.Classes.{stored_of}
use Rattle.njh_stream.specs.code.Verdicts.{IsAfter, appended_where}
use Rattle.njh_stream.specs.Receiving.{received_cancelling, notice_of, progress_of}
use Rattle.njh_stream.proofs.ReceivingLaws.{partial_records_in, progress_in}
use Rattle.njh_stream.proofs.StoringLaws.{stored_cancelled, stored_taken}
use Rattle.njh_stream.proofs.storing.store.Goals as goal

pub judge-verdict-requires-clause-kept : goal.judge-verdict-requires-clause-kept
judge-verdict-requires-clause-kept c =
    let file = c.args.file in
    let s = spool_at c.args.from.now.id.customer c.args.spool.now in
    progress_in file.kind file.progress file.number s c.requires.kept
    ∙ ap (progress_of file.kind)
    (sym (c.of-earlier.ensures ∙ partial_records_in file.kind file.progress file.number s c.quota_holds.ensures.sound
    c.requires.kept))

pub returns-in-Cancelled : goal.returns-in-Cancelled
returns-in-Cancelled c =
    let file = c.args.file in
    let from = c.args.from.now in
    let r = stored_of c.args.next.now in
    let s = spool_at from.id.customer c.args.spool.now in
    subst (λ x. IsAfter c.cancel.result c.cancel.new.spool c.args.spool.now from.id.customer x)
    (ap (λ h. received_cancelling file.number
    (notice_of (option_map (λ x. x.origin) h) (option_map (λ t. t.items) c.in-Cancelled.text)) s)
    c.header_with-header.ensures
    ∙ stored_cancelled (entry_of from.customer.now) from.id.number file.kind file.number r s
    c.of-earlier.result (option_map (λ t. t.items) c.in-Cancelled.text)
    (c.of-earlier.ensures ∙ partial_records_in file.kind file.progress file.number s c.quota_holds.ensures.sound
    c.requires.kept)
    c.in-Cancelled.ensures.verdict)
    c.cancel.ensures

pub returns-in-Taken : goal.returns-in-Taken
returns-in-Taken c =
    let file = c.args.file in
    let from = c.args.from.now in
    let r = stored_of c.args.next.now in
    let s = spool_at from.id.customer c.args.spool.now in
    subst (λ x. IsAfter c.append.result c.append.new.spool c.args.spool.now from.id.customer x)
    (ap (λ x. appended_where (has_room_for file.number r s) file.number c.in-Taken.progress
    (job_header_of (x ++ r ∷ [])) r s)
    (sym c.of-earlier.ensures)
    ∙ stored_taken (entry_of from.customer.now) from.id.number file.kind file.number r s c.of-earlier.result
    c.in-Taken.progress
    (c.of-earlier.ensures ∙ partial_records_in file.kind file.progress file.number s c.quota_holds.ensures.sound
    c.requires.kept)
    c.in-Taken.ensures.verdict c.in-Taken.ensures.progress)
    c.append.ensures
