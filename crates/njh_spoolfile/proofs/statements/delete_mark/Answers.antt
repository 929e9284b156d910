use Rattle.std.proofs.Common.{arith}
use Rattle.sqlite.specs.State.{HasCleanDisk}
use Rattle.sqlite.specs.Held.{state}
use Rattle.sqlite.proofs.StateLemmas.{survives_weaker}
use Rattle.njh_spoolfile.proofs.Meaning.{delete_mark, delete_mark_is}
use Rattle.njh_spoolfile.proofs.Runs.{drops_mark, keeps_nothing}
use Rattle.njh_spoolfile.proofs.statements.delete_mark.Goals as goal

pub returns-clause-dropped : goal.returns-clause-dropped
returns-clause-dropped g c clean =
    let early : HasCleanDisk (state g.S.Store c.args.conn.now) = omega (arith, c.execute.ensures.survives.clean) in
    (drops_mark (state g.S.Store c.args.conn.now) (state g.S.Store c.execute.new.self) _ (c.requires.ready early).0
    (c.requires.ready early).1 (rw c.values_of_number.ensures at (c.in_ok-execute.ensures.runs clean))).0

pub returns-clause-unmarked : goal.returns-clause-unmarked
returns-clause-unmarked g c clean =
    let early : HasCleanDisk (state g.S.Store c.args.conn.now) = omega (arith, c.execute.ensures.survives.clean) in
    (drops_mark (state g.S.Store c.args.conn.now) (state g.S.Store c.execute.new.self) _ (c.requires.ready early).0
    (c.requires.ready early).1 (rw c.values_of_number.ensures at (c.in_ok-execute.ensures.runs clean))).1

pub returns-clause-crash : goal.returns-clause-crash
returns-clause-crash g c =
    survives_weaker (state g.S.Store c.args.conn.now) (state g.S.Store c.execute.new.self) _ _
    (λ clean. let ready = c.requires.ready (omega (arith, c.execute.ensures.survives.clean)) in keeps_nothing
    delete_mark _ (state g.S.Store c.args.conn.now) _ ready.0 _ delete_mark_is ready.1 (λ e. absurd (cc))
    (λ name e. absurd (cc))) c.execute.ensures.survives

pub returns-in_err-execute-clause-crash : goal.returns-in_err-execute-clause-crash
returns-in_err-execute-clause-crash g c =
    survives_weaker (state g.S.Store c.args.conn.now) (state g.S.Store c.execute.new.self) _ _
    (λ clean. let ready = c.requires.ready (omega (arith, c.execute.ensures.survives.clean)) in keeps_nothing
    delete_mark _ (state g.S.Store c.args.conn.now) _ ready.0 _ delete_mark_is ready.1 (λ e. absurd (cc))
    (λ name e. absurd (cc))) c.execute.ensures.survives
