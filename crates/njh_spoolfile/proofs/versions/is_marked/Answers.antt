use Rattle.std.proofs.Common.{sym, ap, ◌∙◌}
use Rattle.njh_spoolfile.specs.Kept.{has_number}
use Rattle.njh_spoolfile.proofs.VersionLaws.{same_number}
use Rattle.njh_spoolfile.proofs.versions.is_marked.Goals as goal

pub returns-clause-marked : goal.returns-clause-marked
returns-clause-marked g c clean =
    c.has_number.ensures ∙ ap (has_number 0) c.as_slice.ensures.value
    ∙ sym (same_number 0 _ _ (c.in_ok-rows.ensures.rows clean))
