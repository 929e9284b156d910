use Rattle.std.proofs.Common.{rules, arith}
use Rattle.std.proofs.lemmas.Grind.{put_two}
use Rattle.njh_ebcdic.proofs.PageLaws.{shown_text-more}
use Rattle.njh_ebcdic.proofs.name.NameDisplay.fmt.Goals as goal

pub loop-byte-preserved : goal.loop-byte-preserved
loop-byte-preserved g c = λ plain.
    put_two _ _ _ _ _ _ _ (c.loop-byte.invariant plain) (search rules)
    (shown_text-more c.trimmed-byte-items.result.now c.loop-byte.byte-index 0 c.text_of.result (omega arith)
    c.text_of.ensures)
