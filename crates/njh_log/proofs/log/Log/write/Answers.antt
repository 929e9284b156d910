use Rattle.std.proofs.Common.{sym, subst}
use Rattle.njh_log.specs.Logging.{Logging, IsLogged}
use Rattle.njh_log.proofs.log.Log.write.Goals as goal

-- it is counted once
pub returns-then-not-hand_on-clause-logged : goal.returns-then-not-hand_on-clause-logged
returns-then-not-hand_on-clause-logged g c = λ some.
    let P : Logging g.row.L.Denot → Type 0 = λ new. IsLogged g.L.Write.contents c.args.self.now new in
    subst P (sym c.count.ensures) c.if-not-hand_on.ensures.dropped
