use Rattle.std.{proofs.Common.{◌++◌, ap, ◌∙◌, arith}, specs.Prelude.encode_utf8}
use Rattle.njh_ebcdic.proofs.PageLaws.{shown_text-more}
use Rattle.njh_keeper.proofs.rows.field_text.Goals as goal

pub loop-byte-preserved : goal.loop-byte-preserved
loop-byte-preserved c =
    c.in_ok-push.ensures.bytes ∙ ap (λ bytes. bytes ++ encode_utf8 c.text_of.result) c.loop-byte.invariant
    ∙ shown_text-more c.trim_blanks-byte-items.result.now c.loop-byte.byte-index 0 c.text_of.result (omega arith)
    c.text_of.ensures
