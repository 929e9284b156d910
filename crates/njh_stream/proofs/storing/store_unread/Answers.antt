-- What a record's class says is what it does.
use Rattle.std.proofs.Common.{◌≡◌, true, None, refl, sym, ap, ◌∙◌, subst, ◌++◌, ◌∷◌, []}
use Rattle.std.specs.Option.{is_some}
use Rattle.njh_spool.specs.Spools.{spool_at}
use Rattle.njh_spool.specs.CustomerSpool.{has_room_for, partial_numbered, partial_records}
use Rattle.njh_header.specs.FileHeaders.{job_header_of}
use Rattle.njh_stream.specs.code.Classes.{received_by, stored_of}
use Rattle.njh_stream.specs.code.Verdicts.{appended_where, IsAfter}
use Rattle.njh_stream.specs.declared.receiver.Receiver.TheVariants.{Open}
use Rattle.njh_stream.proofs.ClassLaws.{class_known, class_received, IsKnown}
use Rattle.njh_stream.proofs.StoringLaws.{stored_unread, had_room}
use Rattle.njh_stream.proofs.storing.store_unread.Goals as goal

pub returns-in-Ok : goal.returns-in-Ok
returns-in-Ok c =
    let file = c.in-Stored.file in
    let progress = c.in-Stored.progress in
    let r = stored_of c.args.next.now in
    let s = spool_at c.args.customer c.args.spool.now in
    let known = subst (λ x. IsKnown x r.srcb s) (sym c.in-Stored.ensures)
    (class_known c.args.kind c.args.receiver r.srcb r.bytes s c.requires.agrees) in
    let room : has_room_for file.number r s ≡ true =
    had_room (is_some (partial_numbered file.number s)) (has_room_for file.number r s) c.append.result c.in-Ok.is
    c.append.ensures.fault in
    λ entry l.
    subst (λ x. IsAfter (record { receiver = Open file.number progress; answer = None; notice = None })
    c.append.new.self c.args.spool.now c.args.customer x)
    (ap (λ b. appended_where b file.number progress (job_header_of (partial_records file.number s ++ r ∷ [])) r s)
    (sym room)
    ∙ stored_unread entry l file r s (partial_records file.number s) progress refl known.0 known.1
    ∙ ap (λ x. received_by entry l x r s) c.in-Stored.ensures
    ∙ class_received entry l c.args.kind c.args.receiver r.srcb r.bytes s)
    (record { receiver = refl; answer = refl; notice = refl; spool = c.in-Ok.ensures.ok })
