use Rattle.std.proofs.Common.{arith}
use Rattle.std.proofs.lemmas.Bool.{false≢true}
use Rattle.njh_lines.proofs.attention.is_any_due.Goals as goal

pub returns : goal.returns
returns c = (
  λ no. absurd (false≢true no),
  λ any. absurd (c.loop-place.invariant any.place any.from
      (omega (arith, any.before, any.within, c.loop-place-test.false, c.min-place-end.ensures)) any.due),
)
