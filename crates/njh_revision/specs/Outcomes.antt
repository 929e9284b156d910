-- How grave it is what came of a look at a source of tables.
use Rattle.njh_log.specs.declared.severity.Severity.{Severity}
use Rattle.njh_log.specs.declared.severity.Severity.TheVariants.{Error, Warning, Information}
use Rattle.njh_revision.specs.declared.outcome.SourceOutcome.{SourceOutcome}
use Rattle.njh_revision.specs.declared.outcome.SourceOutcome.TheVariants as outcomes

-- it gives no tables, or nobody can be given other routes by them; else they are taken
abbrev pub severity_of : {F : Type 0} → SourceOutcome F → Severity
severity_of (outcomes.Refused fault) = Error
severity_of (outcomes.Differs difference tables) = Warning
severity_of outcomes.Same = Information
severity_of (outcomes.Taken before) = Information
