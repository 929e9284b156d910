use Rattle.sqlite.specs.Held.{state}
use Rattle.sqlite.proofs.StateLemmas.{survives_weaker}
use Rattle.njh_spoolfile.proofs.Runs.{commits, commit_keeps_now}
use Rattle.njh_spoolfile.proofs.statements.commit.Goals as goal

pub returns-clause-kept : goal.returns-clause-kept
returns-clause-kept g c clean =
    commits (state g.S.Store c.args.conn.now) (state g.S.Store c.execute.new.self) _
    (c.in_ok-execute.ensures.runs clean)

pub returns-clause-crash : goal.returns-clause-crash
returns-clause-crash g c =
    survives_weaker (state g.S.Store c.args.conn.now) (state g.S.Store c.execute.new.self) _ _
    (λ clean. commit_keeps_now (state g.S.Store c.args.conn.now)) c.execute.ensures.survives

pub returns-in_err-execute-clause-crash : goal.returns-in_err-execute-clause-crash
returns-in_err-execute-clause-crash g c =
    survives_weaker (state g.S.Store c.args.conn.now) (state g.S.Store c.execute.new.self) _ _
    (λ clean. commit_keeps_now (state g.S.Store c.args.conn.now)) c.execute.ensures.survives
