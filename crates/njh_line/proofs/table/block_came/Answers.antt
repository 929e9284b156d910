use Rattle.std.proofs.Common.{ℕ, ◌+◌, ◌∙◌, sym, ap}
use Rattle.njh_line.specs.declared.ending.SessionEnd.TheVariants as why
use Rattle.njh_line.specs.declared.session.Session.{Session}
use Rattle.njh_line.specs.declared.verdict.LineReply.TheVariants.{Sequence}
use Rattle.njh_line.specs.LineTable.{acting, end_with}
use Rattle.njh_line.specs.Openings.{shown_first}
use Rattle.njh_line.proofs.RowLaws as rows
use Rattle.njh_line.proofs.table.block_came.Goals as goal

pub returns-in-Acts-clause-outcome : goal.returns-in-Acts-clause-outcome
returns-in-Acts-clause-outcome c =
    c.acting.ensures.outcome ∙ ap (λ (s : Session). acting c.args.config.now (shown_first c.args.first) s)
    c.after_acting.ensures
    ∙ rows.acts _ _ _ _ _ c.requires.inside (sym c.counted.ensures ∙ c.in-Acts.is)

pub returns-in-Repeats-clause-outcome : goal.returns-in-Repeats-clause-outcome
returns-in-Repeats-clause-outcome c =
    c.try_with.ensures.outcome ∙ rows.repeats _ _ _ _ _ c.requires.inside (sym c.counted.ensures ∙ c.in-Repeats.is)

pub returns-in-OutOfSequence-clause-outcome : goal.returns-in-OutOfSequence-clause-outcome
returns-in-OutOfSequence-clause-outcome c =
    c.end_with.ensures
    ∙ ap (λ (n : ℕ). end_with why.OutOfSequence (Sequence n) c.args.session)
    (c.normal.ensures ∙ ap (λ (n : ℕ). 0x80 + n) c.expected.ensures.value)
    ∙ rows.is_out_of_sequence _ _ _ _ _ c.requires.inside (sym c.counted.ensures ∙ c.in-OutOfSequence.is)
