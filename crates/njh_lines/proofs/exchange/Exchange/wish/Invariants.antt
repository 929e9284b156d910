use Rattle.njh_lines.specs.LineStates.{line_wished}
use Rattle.njh_lines.proofs.StateLaws.{AreMadeTo}
use Rattle.njh_lines.proofs.exchange.Exchange.wish.Given as goal

-- the lines so far are as the operator wants them
abbrev pub invariant-loop-place : goal.invariant-loop-place
invariant-loop-place g l = AreMadeTo l.place (line_wished l.fn.id l.fn.wish) l.fn.self.lines l.self.lines
