use Rattle.njh_turns.proofs.ServedLaws.{break_so, served_so}
use Rattle.njh_turns.proofs.serve.serve_turns.Goals as goal

pub returns-in-Ok-attend-clause-served : goal.returns-in-Ok-attend-clause-served
returns-in-Ok-attend-clause-served g c =
    served_so g.W.Wire.says c.in-Ok-attend.ensures.attended c.in-Ok.ensures.lines c.in-Ok.ensures.calm
    c.from-turns.ensures

pub returns-clause-breaks : goal.returns-clause-breaks
returns-clause-breaks g c = λ other. (
  c.in-Err-attend.ensures.keeps.counted,
  break_so g.W.Wire.says c.in-Err-attend.ensures.breaks c.in-Ok.ensures.lines c.in-Ok.ensures.calm
      c.from-turns.ensures,
)
