use Rattle.std.proofs.Common.{false, set, ap, ◌∙◌, arith}
use Rattle.std.proofs.lemmas.List.Edits.{map_over_more}
use Rattle.njh_table.specs.Marks.{line_marked}
use Rattle.njh_table.proofs.marks.take_line_marks.Goals as goal

pub loop-index-preserved : goal.loop-index-preserved
loop-index-preserved c =
    ap (set c.loop-index.lines.items c.loop-index.index) c.set_up.ensures
    ∙ map_over_more (line_marked false) c.args.lines.now.items c.loop-index.lines.items c.loop-index.index
    c.index_mut.result.now
    (omega (arith, c.loop-index-test.true, c.len-index-end.ensures)) c.loop-index.invariant c.index_mut.ensures.value
