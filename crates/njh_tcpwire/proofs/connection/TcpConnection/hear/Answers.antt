use Rattle.std.proofs.Common.{ℕ, List, refl, ap, ◌∙◌, take}
use Rattle.njh_link.specs.Links.{after_came}
use Rattle.njh_tcpwire.proofs.StepLaws.{moves_heard}
use Rattle.njh_tcpwire.proofs.connection.TcpConnection.hear.Goals as goal

pub returns-clause-moved : goal.returns-clause-moved
returns-clause-moved g c =
    let given = rw (← c.self.view_is) at c.requires in
    let side = c.self.inside.side in
    moves_heard g.C.Connection.moved g.met.C.Connection.none _ _ _ c.hear-taken.result c.self.view_is given refl
    (c.hear-taken.ensures.heard
    ∙ ap (λ (l : List ℕ). after_came (take c.hear-taken.result l) side.link) c.as_slice.ensures)
    c.remove_front.ensures refl
