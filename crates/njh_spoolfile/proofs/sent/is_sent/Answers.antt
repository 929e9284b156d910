use Rattle.std.proofs.{Common.{◌∙◌, arith}, lemmas.Str.Pattern.strip_prefix_char}
use Rattle.njh_spoolfile.proofs.SentLaws.{mark_seen}
use Rattle.njh_spoolfile.proofs.sent.is_sent.Goals as goal

pub returns : goal.returns
returns c =
    let text = c.args.to_node.now in
    c.is_some.ensures ∙ mark_seen text c.strip_prefix.result
    (strip_prefix_char 62 text c.strip_prefix.result c.strip_prefix.ensures.cases (omega arith))
