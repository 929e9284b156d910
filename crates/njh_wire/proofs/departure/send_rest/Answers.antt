use Rattle.std.proofs.Common.{ℕ, ◌≤◌, List, [], length, take, ap, subst}
use Rattle.njh_wire.specs.declared.farewell.Farewell.{Farewell}
use Rattle.njh_wire.proofs.departure.send_rest.Goals as goal

pub returns-in-Ok-clause-moved : goal.returns-in-Ok-clause-moved
returns-in-Ok-clause-moved g c =
    let Went : List ℕ → Type 0 = λ l. g.C.Connection.moved c.args.connection.now c.send.new.self []
    (take c.in-Ok.count l) in
    let Within : List ℕ → Type 0 = λ l. c.in-Ok.count ≤ length l in
    let Left : List ℕ → Farewell = λ l. record c.args.farewell.now { waiting = l } in (
      c.in-Ok.count,
      subst Within c.as_slice.ensures c.in-Ok.ensures.within,
      subst Went c.as_slice.ensures c.in-Ok.ensures.moved,
      ap Left c.remove_front.ensures,
    )
