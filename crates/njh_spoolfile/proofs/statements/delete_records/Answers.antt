use Rattle.std.proofs.Common.{arith}
use Rattle.sqlite.specs.State.{HasCleanDisk}
use Rattle.sqlite.specs.Held.{state}
use Rattle.sqlite.proofs.StateLemmas.{survives_weaker}
use Rattle.njh_spoolfile.proofs.Meaning.{delete_records, delete_records_is}
use Rattle.njh_spoolfile.proofs.CountLaws.{drops_count}
use Rattle.njh_spoolfile.proofs.Runs.{drops_records, keeps_nothing}
use Rattle.njh_spoolfile.proofs.statements.delete_records.Goals as goal

pub returns-clause-dropped : goal.returns-clause-dropped
returns-clause-dropped g c clean =
    let early : HasCleanDisk (state g.S.Store c.args.conn.now) = omega (arith, c.execute.ensures.survives.clean) in
    drops_records (state g.S.Store c.args.conn.now) (state g.S.Store c.execute.new.self) c.args.key c.args.first
    c.args.end _ (c.requires.ready early).0 (c.requires.ready early).1
    (rw c.values_of_places-values.ensures at (c.in_ok-count.ensures.runs clean))

pub returns-clause-counted : goal.returns-clause-counted
returns-clause-counted g c clean =
    let early : HasCleanDisk (state g.S.Store c.args.conn.now) = omega (arith, c.execute.ensures.survives.clean) in
    drops_count (state g.S.Store c.args.conn.now) (state g.S.Store c.execute.new.self) c.args.key c.args.first
    c.args.end _ (c.requires.ready early).0
    (rw c.values_of_places-values.ensures at (c.in_ok-count.ensures.runs clean))

pub returns-clause-crash : goal.returns-clause-crash
returns-clause-crash g c =
    survives_weaker (state g.S.Store c.args.conn.now) (state g.S.Store c.execute.new.self) _ _
    (λ clean. let ready = c.requires.ready (omega (arith, c.execute.ensures.survives.clean)) in keeps_nothing
    delete_records _ (state g.S.Store c.args.conn.now) _ ready.0 _ delete_records_is ready.1 (λ e. absurd (cc))
    (λ name e. absurd (cc))) c.execute.ensures.survives

pub returns-in_err-count-clause-crash : goal.returns-in_err-count-clause-crash
returns-in_err-count-clause-crash g c =
    survives_weaker (state g.S.Store c.args.conn.now) (state g.S.Store c.execute.new.self) _ _
    (λ clean. let ready = c.requires.ready (omega (arith, c.execute.ensures.survives.clean)) in keeps_nothing
    delete_records _ (state g.S.Store c.args.conn.now) _ ready.0 _ delete_records_is ready.1 (λ e. absurd (cc))
    (λ name e. absurd (cc))) c.execute.ensures.survives
