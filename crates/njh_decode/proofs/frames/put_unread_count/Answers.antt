use Rattle.std.specs.Prelude.{codes}
use Rattle.std.proofs.lemmas.Result.{on_ok_weaker}
use Rattle.njh_decode.specs.Words.{label, number_words}
use Rattle.njh_decode.specs.Frames.{unread_words}
use Rattle.njh_decode.proofs.LineLaws.{two_parts}
use Rattle.njh_decode.proofs.frames.put_unread_count.Goals as goal

pub returns : goal.returns
unfolding unread_words
returns c =
    let weaker = two_parts c.args.lines.now.items (label (codes "  unread bytes: ")) (number_words c.args.count) in
    on_ok_weaker c.put_numbered.result (weaker _) c.put_numbered.ensures
