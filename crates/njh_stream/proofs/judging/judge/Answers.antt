-- What the stream keeps is what the records so far say, so the verdict by it is the verdict by them.
use Rattle.std.proofs.Common.{◌≡◌, None, sym, ◌∙◌, subst}
use Rattle.njh_table.specs.TableFile.{entry_of}
use Rattle.njh_stream.specs.code.Classes.{stored_of, unread_progress}
use Rattle.njh_stream.proofs.judging.judge.Goals as goal
use Rattle.njh_stream.proofs.ProgressLaws.{placed_progress, header_progress}
use Rattle.njh_stream.proofs.UnreadLaws.{job_judged, later_judged}

pub returns-in-JobHeader-clause-verdict : goal.returns-in-JobHeader-clause-verdict
returns-in-JobHeader-clause-verdict c =
    let file = c.args.file.now in
    let r = stored_of c.args.next.now in
    c.judge_data_set.ensures.verdict
    ∙ sym (job_judged (entry_of c.args.from.now.customer.now) c.args.from.now.id.number file.kind c.args.earlier.now r
    (sym c.in-JobHeader.is ∙ c.requires.kept)
    (subst (λ p. unread_progress file.kind p r.srcb ≡ None) c.in-JobHeader.is c.requires.read))

pub returns-in-JobHeader-clause-progress : goal.returns-in-JobHeader-clause-progress
returns-in-JobHeader-clause-progress c =
    header_progress c.args.file.now.kind c.args.earlier.now (stored_of c.args.next.now) c.judge_data_set.result
    (sym c.in-JobHeader.is ∙ c.requires.kept) c.judge_data_set.ensures.progress

pub returns-in-Placed-clause-verdict : goal.returns-in-Placed-clause-verdict
returns-in-Placed-clause-verdict c =
    let file = c.args.file.now in
    let r = stored_of c.args.next.now in
    c.judge_later.ensures.verdict
    ∙ sym (later_judged (entry_of c.args.from.now.customer.now) c.args.from.now.id.number file.kind c.args.earlier.now r
    c.in-Placed.node c.in-Placed.last (sym c.in-Placed.is ∙ c.requires.kept)
    (subst (λ p. unread_progress file.kind p r.srcb ≡ None) c.in-Placed.is c.requires.read))

pub returns-in-Placed-clause-progress : goal.returns-in-Placed-clause-progress
returns-in-Placed-clause-progress c =
    placed_progress c.args.file.now.kind c.args.earlier.now (stored_of c.args.next.now) c.in-Placed.node
    c.in-Placed.last
    c.judge_later.result (sym c.in-Placed.is ∙ c.requires.kept) c.judge_later.ensures.progress
