use Rattle.std.proofs.Common.{arith}
use Rattle.std.proofs.lemmas.Str.Pattern.{split_once_first}
use Rattle.njh_table.proofs.RangeLaws.{halves_are}
use Rattle.njh_table.proofs.range_text.halves.Goals as goal

pub returns : goal.returns
returns c =
    halves_are c.args.text.now c.split_once.result
    (split_once_first 47 c.args.text.now c.split_once.result c.split_once.ensures.cases (omega arith))
