use Rattle.std.proofs.Common.{◌∙◌, ℕ, ap, rules}
use Rattle.njh_anteroom.specs.Remembered.{with_room, without}
use Rattle.njh_anteroom.proofs.MemoryLaws.{memory_noted}
use Rattle.njh_anteroom.proofs.memory.Memory.note.Goals as goal

pub invariant_of-self : goal.invariant_of-self
invariant_of-self c = (
  memory_noted c.args.remembered c.args.self.now _ _
      (c.self.view_is ∙ (c.make_room.ensures.rest ∙ (ap with_room c.forget.ensures
      ∙ ap (λ (n : ℕ). with_room (without n c.args.self.now)) c.number_of.ensures)))
      c.push_reserved.ensures.items c.requires c.self.invariant.0 (search rules),
  search rules,
)
