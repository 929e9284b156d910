use Rattle.std.proofs.Common.{◌∙◌, ap, sym}
use Rattle.njh_anteroom.specs.Remembered.{remembered_of}
use Rattle.njh_anteroom.proofs.MemoryLaws.{found_stranger}
use Rattle.njh_anteroom.proofs.QueueLaws.{if_some_is}
use Rattle.njh_anteroom.proofs.memory.Memory.find.Goals as goal

pub returns-clause-no_loopback : goal.returns-clause-no_loopback
returns-clause-no_loopback c =
    if_some_is c.found.result
    (λ r is. found_stranger c.args.number c.self.inside.seen.items r
    (ap (remembered_of c.args.number) (sym c.deref.ensures.value) ∙ (sym c.found.ensures ∙ is))
    c.self.invariant.0.no_loopback)
