use Rattle.std.proofs.Common.{refl, arith}
use Rattle.sqlite.specs.State.{HasCleanDisk}
use Rattle.sqlite.specs.Held.{state}
use Rattle.sqlite.proofs.StateLemmas.{survives_weaker}
use Rattle.njh_spoolfile.specs.Tables.{two_tables, spool_schema}
use Rattle.njh_spoolfile.proofs.Meaning.{create_records, create_records_is}
use Rattle.njh_spoolfile.proofs.Runs.{keeps_nothing}
use Rattle.njh_spoolfile.proofs.NewTables.{creates}
use Rattle.njh_spoolfile.proofs.making.create_records.Goals as goal

pub returns-clause-made : goal.returns-clause-made
returns-clause-made g c clean =
    let early : HasCleanDisk (state g.S.Store c.args.conn.now) = omega (arith, c.execute.ensures.survives.clean) in
    creates create_records two_tables spool_schema _ 2 create_records_is refl refl refl
    (state g.S.Store c.args.conn.now) (state g.S.Store c.execute.new.self) _ (c.requires.ready early).0
    (c.requires.ready early).1 (c.in_ok-execute.ensures.runs clean)

pub returns-clause-crash : goal.returns-clause-crash
returns-clause-crash g c =
    survives_weaker (state g.S.Store c.args.conn.now) (state g.S.Store c.execute.new.self) _ _
    (λ clean. let ready = c.requires.ready (omega (arith, c.execute.ensures.survives.clean)) in keeps_nothing
    create_records _ (state g.S.Store c.args.conn.now) two_tables ready.0 _ create_records_is.command ready.1
    (λ e. absurd (cc)) (λ name e. absurd (cc))) c.execute.ensures.survives

pub returns-in_err-execute-clause-crash : goal.returns-in_err-execute-clause-crash
returns-in_err-execute-clause-crash g c =
    survives_weaker (state g.S.Store c.args.conn.now) (state g.S.Store c.execute.new.self) _ _
    (λ clean. let ready = c.requires.ready (omega (arith, c.execute.ensures.survives.clean)) in keeps_nothing
    create_records _ (state g.S.Store c.args.conn.now) two_tables ready.0 _ create_records_is.command ready.1
    (λ e. absurd (cc)) (λ name e. absurd (cc))) c.execute.ensures.survives
