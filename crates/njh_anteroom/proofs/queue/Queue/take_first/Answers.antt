use Rattle.std.proofs.Common.{subst, sym, List}
use Rattle.njh_anteroom.specs.Waiting.{number_in, HasPlace, IsQueue}
use Rattle.njh_anteroom.specs.declared.guest.Guest.{Guest}
use Rattle.njh_anteroom.proofs.QueueLaws.{taken_returns}
use Rattle.njh_anteroom.proofs.queue.Queue.take_first.Goals as goal

pub returns-clause-returns : goal.returns-clause-returns
returns-clause-returns g c =
    let Queue : List (Guest g.row.C.Denot) → Type 0 = λ waiting. IsQueue waiting in
    let Place : List (Guest g.row.C.Denot) → Type 0 = λ waiting. HasPlace (number_in c.take.result) waiting in
    subst Place (sym c.take.ensures.rest)
    (taken_returns c.args.self.now c.take.result c.take.ensures.guest
    (subst Queue c.self.view_is c.self.invariant.0))
