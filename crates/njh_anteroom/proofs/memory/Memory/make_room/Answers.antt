use Rattle.std.proofs.Common.{rules, subst, sym}
use Rattle.njh_anteroom.specs.Remembered.{IsMemory}
use Rattle.njh_anteroom.proofs.MemoryLaws.{memory_removed}
use Rattle.njh_anteroom.proofs.memory.Memory.make_room.Goals as goal

pub invariant_of-self : goal.invariant_of-self
invariant_of-self c = (
  subst IsMemory (sym c.remove.ensures.items)
      (memory_removed c.self.inside.seen.items c.first_to_go-place.result c.self.invariant.0),
  search rules,
)
