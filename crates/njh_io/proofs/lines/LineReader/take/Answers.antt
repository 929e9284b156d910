use Rattle.std.proofs.Common.{◌++◌, ap, ◌∙◌, rules}
use Rattle.njh_io.specs.Lines.{is_first_long}
use Rattle.njh_io.proofs.LineLaws.{first_long}
use Rattle.njh_io.proofs.lines.LineReader.take.Goals as goal

pub returns-in_err-keep-in-None-clause-long : goal.returns-in_err-keep-in-None-clause-long
returns-in_err-keep-in-None-clause-long c = λ same more.
    ap is_first_long (c.in-None.ensures.lines c.args.self.now more)
    ∙ first_long (c.args.self.now ++ c.args.piece.now) more
    (c.keep.ensures.long (first_of (search (rules, same), cc same)))
