use Rattle.std.proofs.Common.{arith}
use Rattle.sqlite.specs.State.{HasCleanDisk}
use Rattle.sqlite.specs.Held.{state}
use Rattle.sqlite.proofs.StateLemmas.{survives_weaker}
use Rattle.njh_spoolfile.specs.Tables.{spool_schema}
use Rattle.njh_spoolfile.proofs.Meaning.{insert_mark, insert_mark_is, insert_mark_plain}
use Rattle.njh_spoolfile.proofs.Runs.{keeps_nothing}
use Rattle.njh_spoolfile.proofs.NewTables.{is_marked_then, marks, sets}
use Rattle.njh_spoolfile.proofs.statements.insert_mark.Goals as goal

pub returns-clause-added : goal.returns-clause-added
returns-clause-added g c clean =
    let early : HasCleanDisk (state g.S.Store c.args.conn.now) = omega (arith, c.execute.ensures.survives.clean) in
    marks (state g.S.Store c.args.conn.now) (state g.S.Store c.execute.new.self)
    (sets 0 insert_mark insert_mark_is insert_mark_plain (state g.S.Store c.args.conn.now)
    (state g.S.Store c.execute.new.self) _ (c.requires.ready early).0 (c.requires.ready early).1
    (c.in_ok-execute.ensures.runs clean))

pub returns-clause-marked : goal.returns-clause-marked
returns-clause-marked g c clean =
    let early : HasCleanDisk (state g.S.Store c.args.conn.now) = omega (arith, c.execute.ensures.survives.clean) in
    let set = sets 0 insert_mark insert_mark_is insert_mark_plain (state g.S.Store c.args.conn.now)
    (state g.S.Store c.execute.new.self) _ (c.requires.ready early).0 (c.requires.ready early).1
    (c.in_ok-execute.ensures.runs clean) in
    λ spool held. is_marked_then spool _ _ set.sets held

pub returns-clause-crash : goal.returns-clause-crash
returns-clause-crash g c =
    survives_weaker (state g.S.Store c.args.conn.now) (state g.S.Store c.execute.new.self) _ _
    (λ clean. let ready = c.requires.ready (omega (arith, c.execute.ensures.survives.clean)) in keeps_nothing
    insert_mark _ (state g.S.Store c.args.conn.now) spool_schema ready.0 _ insert_mark_is ready.1
    (λ e. absurd (cc)) (λ name e. absurd (cc))) c.execute.ensures.survives

pub returns-in_err-execute-clause-crash : goal.returns-in_err-execute-clause-crash
returns-in_err-execute-clause-crash g c =
    survives_weaker (state g.S.Store c.args.conn.now) (state g.S.Store c.execute.new.self) _ _
    (λ clean. let ready = c.requires.ready (omega (arith, c.execute.ensures.survives.clean)) in keeps_nothing
    insert_mark _ (state g.S.Store c.args.conn.now) spool_schema ready.0 _ insert_mark_is ready.1
    (λ e. absurd (cc)) (λ name e. absurd (cc))) c.execute.ensures.survives
