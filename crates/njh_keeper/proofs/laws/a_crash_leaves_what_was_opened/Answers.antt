use Rattle.{std.proofs.Common.◌∙◌, njh_spoolfile.specs.CommitState.CommitState}
use Rattle.njh_keeper.proofs.laws.a_crash_leaves_what_was_opened.Goals as goal

pub returns : goal.returns
returns g c before behind table parts s from stands left m =
    let it = from.committed m.clean s stands in
    let both : CommitState = record { now = it.spool; kept = it.spool } in
    c.a_crash_leaves_what_was_committed.ensures behind both left it.stands m ∙ it.left
