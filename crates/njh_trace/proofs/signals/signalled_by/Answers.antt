use Rattle.std.proofs.Common.{sym}
use Rattle.njh_trace.proofs.PartLaws.{signalled_of-more}
use Rattle.njh_trace.proofs.signals.signalled_by.Goals as goal

pub returns-in-Some : goal.returns-in-Some
returns-in-Some c =
    sym (signalled_of-more c.args.word.now c.args.name.now c.in-Some.field-0.0.now c.in-Some.field-0.1.now
    c.in-Some.ensures.split)
