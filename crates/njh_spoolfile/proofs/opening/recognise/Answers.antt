use Rattle.std.proofs.Common.{◌≡◌, Bool, false, IsTrue, sym, ◌∙◌}
use Rattle.sqlite.specs.Held.{state}
use Rattle.njh_spoolfile.proofs.NewTables.{no_spool}
use Rattle.njh_spoolfile.proofs.opening.recognise.Goals as goal

apart : (b : Bool) → IsTrue b → ¬ (b ≡ false)
apart b true_is false_is = absurd (let e = sym true_is ∙ false_is in cc)

pub returns-then-not-branch-clause-refused : goal.returns-then-not-branch-clause-refused
returns-then-not-branch-clause-refused g c clean _ =
    let old = (state g.S.Store c.args.conn.now).now in
    let live = c.test_tables.ensures.live (c.requires.fresh clean).is_open in
    no_spool old.trees old.schema live.0
    (λ same. apart _ (c.in_ok-test_tables.ensures.same.1 same) c.if-not-branch.true)
