use Rattle.std.proofs.{Common.{None, arith}, lemmas.Str.Pattern.strip_prefix_char}
use Rattle.njh_keeper.proofs.AsideLaws.{no_mark_is}
use Rattle.njh_keeper.proofs.aside.taken_up.Goals as goal

pub returns-in-None : goal.returns-in-None
returns-in-None c = no_mark_is c.args.text.now
    (strip_prefix_char 33 c.args.text.now None c.in-None.ensures.cases (omega arith))
