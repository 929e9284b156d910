use Rattle.std.proofs.Common.{sym, ◌∙◌}
use Rattle.njh_ebcdic.proofs.PageLaws.{place-page, unwritten-none}
use Rattle.njh_ebcdic.proofs.characters.paged_byte.Goals as goal

pub returns-then-not-is_written : goal.returns-then-not-is_written
returns-then-not-is_written c =
    sym (unwritten-none c.args.character (sym c.is_written.ensures ∙ c.if-not-is_written.true))

pub returns-in_err-place : goal.returns-in_err-place
returns-in_err-place c =
    c.from_residual.ensures
    ∙ (sym c.in_err-place.was ∙ (c.place_of.ensures.place
    ∙ sym (place-page c.args.character (sym c.is_written.ensures ∙ c.if-not-is_written.false))))

pub returns : goal.returns
returns c =
    sym c.in_ok-place.was ∙ (c.place_of.ensures.place
    ∙ sym (place-page c.args.character (sym c.is_written.ensures ∙ c.if-not-is_written.false)))
