use Rattle.std.proofs.Common.{◌∙◌, ◌∷◌, ℕ, List, [], arith, subst, sym}
use Rattle.njh_wire.proofs.MovedLaws.{moved_stop}
use Rattle.njh_sites.proofs.controls.receive_up_to.Goals as goal

-- one byte more
pub loop-connection-preserved : goal.loop-connection-preserved
loop-connection-preserved g c =
    let before = c.loop-connection.bytes.items in
    let Came : List ℕ → Type 0 = λ bytes.
    g.C.Connection.moved c.args.connection.now c.receive_byte.new.connection bytes [] in (
      subst Came (sym c.push.ensures.items)
          (g.met.C.Connection.more _ _ _ before (c.in-Ok.byte ∷ []) [] [] c.loop-connection.invariant.0 c.in-Ok.ensures.moved),
      (
        omega (arith, c.push.ensures.len),
        c.in-Ok.ensures.place ∙ c.loop-connection.invariant.1.1,
      ),
    )

-- and then none
pub returns-in-Err-clause-moved : goal.returns-in-Err-clause-moved
returns-in-Err-clause-moved g c =
    moved_stop g.C.Connection.moved g.met.C.Connection.more _ _ _ _ c.loop-connection.invariant.0 c.in-Err.ensures.moved
