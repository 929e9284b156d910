use Rattle.std.proofs.Common.{rules, arith}
use Rattle.std.proofs.lemmas.Grind.{put_two}
use Rattle.njh_request.proofs.QuoteLaws.{shown-more}
use Rattle.njh_request.proofs.quote.QuoteDisplay.fmt.Goals as goal

pub loop-byte-preserved : goal.loop-byte-preserved
loop-byte-preserved g c = λ plain.
    put_two _ _ _ _ _ _ _ (c.loop-byte.invariant plain) (search rules)
    (shown-more c.text-byte-items.result.now c.loop-byte.byte-index 0 c.shown.result (omega arith) c.shown.ensures)
