use Rattle.std.proofs.Common.{arith}
use Rattle.sqlite.specs.State.{HasCleanDisk}
use Rattle.sqlite.specs.Held.{state}
use Rattle.sqlite.proofs.StateLemmas.{survives_weaker}
use Rattle.njh_spoolfile.proofs.ReadingLaws.{versions_are, select_version_keeps_nothing, if_ok, on_ok, shown_same}
use Rattle.njh_spoolfile.proofs.ReadingLaws.{stays}
use Rattle.njh_spoolfile.proofs.Meaning.{select_version, select_version_plain}
use Rattle.njh_spoolfile.proofs.versions.rows_of_versions.Goals as goal

pub returns-clause-rows : goal.returns-clause-rows
returns-clause-rows g c clean =
    let early : HasCleanDisk (state g.S.Store c.args.conn.now) = omega (arith, c.query_all.ensures.survives.clean) in
    if_ok _ _ (λ rows shown. versions_are (state g.S.Store c.args.conn.now) (state g.S.Store c.query_all.new.self)
    rows.items (c.requires.ready early) shown) c.query_all.result (c.query_all.ensures.ok clean)

pub returns-clause-crash : goal.returns-clause-crash
returns-clause-crash g c =
    survives_weaker (state g.S.Store c.args.conn.now) (state g.S.Store c.query_all.new.self) _ _
    (λ clean. select_version_keeps_nothing (state g.S.Store c.args.conn.now)
    (c.requires.ready (omega (arith, c.query_all.ensures.survives.clean)))) c.query_all.ensures.survives

pub returns-clause-same : goal.returns-clause-same
returns-clause-same g c clean =
    let early : HasCleanDisk (state g.S.Store c.args.conn.now) = omega (arith, c.query_all.ensures.survives.clean) in
    on_ok _ _ (λ rows shown. stays (state g.S.Store c.args.conn.now) (state g.S.Store c.query_all.new.self)
    (shown_same select_version _ (state g.S.Store c.args.conn.now) (state g.S.Store c.query_all.new.self) rows.items
    (c.requires.ready early) select_version_plain shown))
    c.query_all.result (c.query_all.ensures.ok clean)
