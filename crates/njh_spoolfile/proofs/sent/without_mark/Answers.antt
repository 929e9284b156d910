use Rattle.std.proofs.{Common.{None, arith}, lemmas.Str.Pattern.strip_prefix_char}
use Rattle.njh_spoolfile.proofs.SentLaws.{no_mark_is}
use Rattle.njh_spoolfile.proofs.sent.without_mark.Goals as goal

pub returns-in-None : goal.returns-in-None
returns-in-None c = no_mark_is c.args.to_node.now
    (strip_prefix_char 62 c.args.to_node.now None c.in-None.ensures.cases (omega arith))
