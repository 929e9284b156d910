use Rattle.std.proofs.Common.{arith}
use Rattle.sqlite.specs.State.{HasCleanDisk}
use Rattle.sqlite.specs.Held.{state}
use Rattle.sqlite.proofs.StateLemmas.{survives_weaker}
use Rattle.njh_spoolfile.specs.Tables.{spool_schema}
use Rattle.njh_spoolfile.proofs.Meaning.{insert_version, insert_version_is, insert_version_plain}
use Rattle.njh_spoolfile.proofs.Runs.{keeps_nothing}
use Rattle.njh_spoolfile.proofs.NewTables.{sets}
use Rattle.njh_spoolfile.proofs.making.add_version.Goals as goal

pub returns-clause-added : goal.returns-clause-added
returns-clause-added g c clean =
    let early : HasCleanDisk (state g.S.Store c.args.conn.now) = omega (arith, c.execute.ensures.survives.clean) in
    sets 3 insert_version insert_version_is insert_version_plain (state g.S.Store c.args.conn.now)
    (state g.S.Store c.execute.new.self) _ (c.requires.ready early).0 (c.requires.ready early).1
    (c.in_ok-execute.ensures.runs clean)

pub returns-clause-crash : goal.returns-clause-crash
returns-clause-crash g c =
    survives_weaker (state g.S.Store c.args.conn.now) (state g.S.Store c.execute.new.self) _ _
    (λ clean. let ready = c.requires.ready (omega (arith, c.execute.ensures.survives.clean)) in keeps_nothing
    insert_version _ (state g.S.Store c.args.conn.now) spool_schema ready.0 _ insert_version_is ready.1
    (λ e. absurd (cc)) (λ name e. absurd (cc))) c.execute.ensures.survives

pub returns-in_err-execute-clause-crash : goal.returns-in_err-execute-clause-crash
returns-in_err-execute-clause-crash g c =
    survives_weaker (state g.S.Store c.args.conn.now) (state g.S.Store c.execute.new.self) _ _
    (λ clean. let ready = c.requires.ready (omega (arith, c.execute.ensures.survives.clean)) in keeps_nothing
    insert_version _ (state g.S.Store c.args.conn.now) spool_schema ready.0 _ insert_version_is ready.1
    (λ e. absurd (cc)) (λ name e. absurd (cc))) c.execute.ensures.survives
