use Rattle.std.proofs.Common.{sym, ◌∙◌, arith}
use Rattle.njh_ebcdic.proofs.PageLaws.{shown-written, shown-unwritten}
use Rattle.njh_ebcdic.proofs.characters.text_of.Goals as goal

pub returns-then-is_written : goal.returns-then-is_written
returns-then-is_written c =
    shown-written c.args.byte c.from-character.result (omega arith)
    (c.from-character.ensures ∙ c.seen_character.ensures)
    (sym c.is_written.ensures ∙ c.if-is_written.true)

pub returns-else-is_written : goal.returns-else-is_written
returns-else-is_written c =
    shown-unwritten c.args.byte c.from-character.result (omega arith)
    (c.from-character.ensures ∙ c.seen_character.ensures)
    (sym c.is_written.ensures ∙ c.if-is_written.false)
