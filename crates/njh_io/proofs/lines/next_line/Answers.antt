use Rattle.std.proofs.Common.{◌<◌, length, rules}
use Rattle.njh_io.proofs.LineLaws.{lines_of-first, lines_of-last}
use Rattle.njh_io.proofs.lines.next_line.Goals as goal

pub returns-in-Some-clause-lines : goal.returns-in-Some-clause-lines
returns-in-Some-clause-lines c =
    lines_of-first c.args.text.now c.in-Some.line.now c.in-Some.behind.now c.in-Some.ensures.lines

pub returns-in-None-clause-lines : goal.returns-in-None-clause-lines
returns-in-None-clause-lines c =
    let some : 0 < length c.args.text.now = search rules in
    lines_of-last c.args.text.now c.in-None.ensures.lines some
