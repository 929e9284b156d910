use Rattle.std.proofs.Common.{ap, ◌∙◌, rules}
use Rattle.std.proofs.lemmas.Fn.{filter_same}
use Rattle.njh_arrivals.specs.Arrivals.{without}
use Rattle.njh_arrivals.proofs.arrivals.ArrivalRow.forget.Goals as goal

pub returns : goal.returns
returns c =
    filter_same _ _ _ (λ x b f' k. search rules) _ _ c.retain.ensures.filtered
    ∙ ap (without c.args.file) c.self.view_is
