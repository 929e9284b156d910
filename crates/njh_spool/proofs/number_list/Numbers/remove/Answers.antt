use Rattle.std.proofs.Common.{ap, ◌∙◌, eqb, not, filter, rules}
use Rattle.std.proofs.lemmas.Fn.{filter_same}
use Rattle.njh_spool.proofs.number_list.Numbers.remove.Goals as goal

pub returns : goal.returns
returns c =
    filter_same _ _ _ (λ x b f' k. search rules) _ _ c.retain.ensures.filtered
    ∙ ap (filter (λ m. not (eqb m c.args.number))) c.self.view_is
