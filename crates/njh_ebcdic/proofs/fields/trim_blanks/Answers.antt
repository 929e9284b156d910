use Rattle.std.proofs.Common.{sym, ◌∙◌, arith}
use Rattle.njh_ebcdic.proofs.Blanks.{trimmed-blank, trimmed-other}
use Rattle.njh_ebcdic.proofs.fields.trim_blanks.Goals as goal

pub loop-last-preserved : goal.loop-last-preserved
loop-last-preserved c = record {
  same = sym (trimmed-blank _ _ _ c.in-Some.ensures.cases.0 c.if-last-eq-BLANK.true) ∙ c.loop-last.invariant.same;
  shorter = omega (arith, c.in-Some.ensures.cases.1);
}

pub returns-else-last-eq-BLANK-clause-value : goal.returns-else-last-eq-BLANK-clause-value
returns-else-last-eq-BLANK-clause-value c =
    sym (trimmed-other _ _ _ c.in-Some.ensures.cases.0 c.if-last-eq-BLANK.false) ∙ c.loop-last.invariant.same
