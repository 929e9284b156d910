use Rattle.std.proofs.Common.{sym, ap, ◌∙◌}
use Rattle.njh_spoolfile.specs.Kept.{version_in}
use Rattle.njh_spoolfile.proofs.VersionLaws.{same_version}
use Rattle.njh_spoolfile.proofs.versions.version_of.Goals as goal

pub returns-clause-version : goal.returns-clause-version
returns-clause-version g c clean =
    c.version_in.ensures ∙ ap version_in c.as_slice.ensures.value
    ∙ sym (same_version _ _ (c.in_ok-rows.ensures.rows clean))
