use Rattle.std.proofs.Common.{arith}
use Rattle.sqlite.specs.State.{HasCleanDisk}
use Rattle.sqlite.specs.Held.{state}
use Rattle.njh_spoolfile.specs.Kept.{file_of, with_file, without_file}
use Rattle.njh_spoolfile.proofs.ReadingLaws.{ok_then, changes_then}
use Rattle.njh_spoolfile.proofs.store.replace_file.Goals as goal

pub returns-clause-changed : goal.returns-clause-changed
returns-clause-changed g c clean =
    let old = state g.S.Store c.args.conn.now in
    let mid = state g.S.Store c.delete_file.new.conn in
    let new = state g.S.Store c.insert_file.new.conn in
    let late : HasCleanDisk mid = omega (arith, c.insert_file.ensures.crash.clean) in
    ok_then c.insert_file.result _ _ (λ added. changes_then (without_file c.args.id)
    (with_file c.args.id (file_of c.args.file.now)) old mid new (c.in_ok-delete_file.ensures.dropped late) added)
    (c.insert_file.ensures.added clean)
