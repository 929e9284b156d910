use Rattle.std.proofs.Common.{IsTrue, subst}
use Rattle.sqlite.specs.Held.{Held}
use Rattle.njh_spoolfile.proofs.store.Store.stop.Goals as goal

pub returns : goal.returns
returns g c clean =
    subst (λ (conn : Held _). IsTrue (g.S.Store.view conn.store).is_numbered) c.into_conn.ensures
    (subst IsTrue c.into_store.ensures.undone.numbered (c.into_store.ensures.numbered clean))
