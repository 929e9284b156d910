use Rattle.std.proofs.Common.{inl, refl, rules}
use Rattle.njh_answer.specs.Answers.{told_of}
use Rattle.njh_console.proofs.page.page_of.Goals as goal

pub returns : goal.returns
returns c = (
  told_of c.args.answer,
  inl refl,
  record {
    status_is = refl;
    text_is = (c.in_ok-text.ensures.order, c.in_ok-text.ensures.text);
    text_fits = search rules;
    deed_is = refl;
  },
)
