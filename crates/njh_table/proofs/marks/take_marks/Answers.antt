use Rattle.std.proofs.Common.{set, ap, ◌∙◌, arith}
use Rattle.std.proofs.lemmas.List.Edits.{map_over_more}
use Rattle.njh_table.specs.Marks.{customer_unmarked}
use Rattle.njh_table.proofs.marks.take_marks.Goals as goal

pub loop-index-preserved : goal.loop-index-preserved
loop-index-preserved c =
    ap (set c.loop-index.customers.items c.loop-index.index) c.set_all_down.ensures
    ∙ map_over_more customer_unmarked c.args.customers.now.items c.loop-index.customers.items c.loop-index.index
    c.index_mut.result.now
    (omega (arith, c.loop-index-test.true, c.len-index-end.ensures)) c.loop-index.invariant c.index_mut.ensures.value
