use Rattle.njh_io.proofs.LineLaws.{lines_from-none, lines_from-some}
use Rattle.njh_io.proofs.lines.ended_line.Goals as goal

pub returns-in-None-clause-lines : goal.returns-in-None-clause-lines
returns-in-None-clause-lines c = λ front more. lines_from-none front c.args.text.now more c.in-None.ensures

pub returns-in-Some-clause-lines : goal.returns-in-Some-clause-lines
returns-in-Some-clause-lines c = λ front more.
    lines_from-some front c.args.text.now more c.in-Some.place c.split_at.result.0.now c.split_at.result.1.now
    c.split_at-in-Some.result.1.now c.in-Some.ensures c.split_at.ensures.front c.split_at.ensures.back
    c.split_at-in-Some.ensures.back
