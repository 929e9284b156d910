-- What is kept says whether the file is whole.
use Rattle.std.proofs.Common.{sym, ap, ◌∙◌, subst}
use Rattle.njh_spool.specs.Spools.{spool_at}
use Rattle.njh_stream.specs.code.Verdicts.{IsAfter}
use Rattle.njh_stream.specs.Receiving.{closed_by}
use Rattle.njh_stream.proofs.ReceivingLaws.{closed_as}
use Rattle.njh_stream.proofs.receiver.close.Goals as goal

pub returns-then-is_whole : goal.returns-then-is_whole
returns-then-is_whole c =
    subst (λ x. IsAfter c.answered.result c.finish.new.self c.args.spool.now c.args.customer x)
    (sym (closed_as c.args.file.kind c.args.file.progress c.args.file.number (spool_at c.args.customer c.args.spool.now)
    c.requires.kept
    ∙ ap (λ b. closed_by b c.args.file.number (spool_at c.args.customer c.args.spool.now))
    (sym c.is_whole.ensures ∙ c.if-is_whole.true)))
    (record {
      receiver = c.answered.ensures.receiver;
      answer = c.answered.ensures.answer;
      notice = c.answered.ensures.notice;
      spool = c.finish.ensures.after;
    })

pub returns-else-is_whole : goal.returns-else-is_whole
returns-else-is_whole c =
    subst (λ x. IsAfter c.answered-else-is_whole.result c.abandon.new.self c.args.spool.now c.args.customer x)
    (sym (closed_as c.args.file.kind c.args.file.progress c.args.file.number (spool_at c.args.customer c.args.spool.now)
    c.requires.kept
    ∙ ap (λ b. closed_by b c.args.file.number (spool_at c.args.customer c.args.spool.now))
    (sym c.is_whole.ensures ∙ c.if-is_whole.false)))
    (record {
      receiver = c.answered-else-is_whole.ensures.receiver;
      answer = c.answered-else-is_whole.ensures.answer;
      notice = c.answered-else-is_whole.ensures.notice;
      spool = c.abandon.ensures.after;
    })
