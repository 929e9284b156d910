use Rattle.std.proofs.Common.{◌≡◌, [], get_or, sym, ap, ◌∙◌}
use Rattle.std.proofs.lemmas.Slice.Eq.{bytes_eq-Decides}
use Rattle.njh_sched.proofs.FileLists.{none_at}
use Rattle.njh_sched.proofs.files.is_among.Goals as goal

pub returns-then-eq : goal.returns-then-eq
returns-then-eq c = λ _ test none.
    let same : get_or c.args.nodes.now c.loop-other.other-index [] ≡ c.args.node.now =
    (bytes_eq-Decides (get_or c.args.nodes.now c.loop-other.other-index []) c.args.node.now).0
    (sym c.eq.ensures ∙ c.if-eq.true) in
    ap test (sym same) ∙ none_at c.args.nodes.now c.loop-other.other-index test c.loop-other-test.true none
