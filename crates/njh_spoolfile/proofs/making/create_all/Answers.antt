use Rattle.std.proofs.Common.{◌∙◌, arith}
use Rattle.sqlite.specs.State.{HasCleanDisk}
use Rattle.sqlite.specs.Held.{state}
use Rattle.njh_spoolfile.specs.Steps.{Sets, StartsEmpty}
use Rattle.njh_spoolfile.proofs.NewTables.{starts}
use Rattle.njh_spoolfile.proofs.ReadingLaws.{ok_then}
use Rattle.njh_spoolfile.proofs.making.create_all.Goals as goal

pub returns-clause-made : goal.returns-clause-made
returns-clause-made g c clean =
    let early : HasCleanDisk (state g.S.Store c.create_tables.new.conn) =
    omega (arith, c.add_version.ensures.crash.clean) in
    let made = c.in_ok-create_tables.ensures.made early in
    ok_then c.add_version.result
    (Sets 3 (state g.S.Store c.create_tables.new.conn) (state g.S.Store c.add_version.new.conn))
    (StartsEmpty (state g.S.Store c.args.conn.now) (state g.S.Store c.add_version.new.conn))
    (λ set. record {
      is_open = set.is_open;
      schema = set.schema;
      waits = set.waits;
      committed = set.committed ∙ made.committed;
      holds = starts _ _ set.sets made.no_version made.no_files made.no_records;
    }) (c.add_version.ensures.added clean)
