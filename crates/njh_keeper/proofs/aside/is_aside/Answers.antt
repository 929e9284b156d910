use Rattle.std.proofs.{Common.{◌∙◌, arith}, lemmas.Str.Pattern.strip_prefix_char}
use Rattle.njh_keeper.proofs.AsideLaws.{mark_seen}
use Rattle.njh_keeper.proofs.aside.is_aside.Goals as goal

pub returns : goal.returns
returns c =
    let text = c.args.text.now in
    c.is_some.ensures ∙ mark_seen text c.strip_prefix.result
    (strip_prefix_char 33 text c.strip_prefix.result c.strip_prefix.ensures.cases (omega arith))
