use Rattle.sqlite.specs.Held.{state}
use Rattle.sqlite.proofs.StateLemmas.{survives_weaker}
use Rattle.njh_spoolfile.proofs.Runs.{begins, begin_keeps_nothing}
use Rattle.njh_spoolfile.proofs.statements.begin.Goals as goal

pub returns-clause-begun : goal.returns-clause-begun
returns-clause-begun g c clean =
    begins (state g.S.Store c.args.conn.now) (state g.S.Store c.execute.new.self) _ (c.in_ok-execute.ensures.runs clean)

pub returns-clause-crash : goal.returns-clause-crash
returns-clause-crash g c =
    survives_weaker (state g.S.Store c.args.conn.now) (state g.S.Store c.execute.new.self) _ _
    (λ clean. begin_keeps_nothing (state g.S.Store c.args.conn.now)) c.execute.ensures.survives

pub returns-in_err-execute-clause-crash : goal.returns-in_err-execute-clause-crash
returns-in_err-execute-clause-crash g c =
    survives_weaker (state g.S.Store c.args.conn.now) (state g.S.Store c.execute.new.self) _ _
    (λ clean. begin_keeps_nothing (state g.S.Store c.args.conn.now)) c.execute.ensures.survives
