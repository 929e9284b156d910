use Rattle.std.proofs.Common.{ap, ◌∙◌, rules}
use Rattle.std.proofs.lemmas.Fn.{filter_same}
use Rattle.njh_anteroom.specs.Remembered.{without}
use Rattle.njh_anteroom.proofs.MemoryLaws.{memory_filtered}
use Rattle.njh_anteroom.proofs.memory.Memory.forget.Goals as goal

pub invariant_of-self : goal.invariant_of-self
invariant_of-self c = (
  memory_filtered c.args.number _ _ (filter_same _ _ _ (λ x b f' k. search rules) _ _ c.retain.ensures.filtered)
      c.self.invariant.0,
  search rules,
)

pub returns : goal.returns
returns c =
    filter_same _ _ _ (λ x b f' k. search rules) _ _ c.retain.ensures.filtered
    ∙ ap (without c.args.number) c.self.view_is
