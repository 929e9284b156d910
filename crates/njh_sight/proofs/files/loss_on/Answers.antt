use Rattle.std.proofs.Common.{◌≡◌, ℕ, Bool, Option, Some, None, refl, rules, subst, sym}
use Rattle.std.specs.Prelude.{IsSomeAnd}
use Rattle.njh_log.specs.declared.entry.LogEvent.{LogEvent}
use Rattle.njh_log.specs.declared.notice_line.NoticeLine.{NoticeLine}
use Rattle.njh_stream.specs.Receiving.{Notice}
use Rattle.njh_sight.specs.Telling.{loss, Copies, IsTold}
use Rattle.njh_sight.proofs.files.loss_on.Goals as goal

-- its owner was told what the line has
told_of : (place : ℕ) (notice : Notice) (drains : Bool) (found : Option NoticeLine) → IsSomeAnd found (Copies notice)
    → IsTold place notice (loss place drains found)
told_of place notice drains None copies = absurd copies
told_of place notice drains (Some line) copies = (line, (copies, refl))

pub returns-clause-noticed : goal.returns-clause-noticed
returns-clause-noticed c = λ notice has is.
    let drains = c.drains_on-drains.result in
    let found = c.notice_on-notice.result in
    let same : c.loss.result ≡ loss c.args.place drains found = search rules in
    subst (λ (told : LogEvent). IsTold c.args.place notice told) (sym same)
    (told_of c.args.place notice drains found (c.notice_on-notice.ensures.noticed notice has is))
