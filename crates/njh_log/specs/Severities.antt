-- How grave a line of the log is.
use Rattle.std.specs.Prelude.{ℕ}
use Rattle.njh_line.specs.declared.ending.SessionEnd.TheVariants as ends
use Rattle.njh_log.specs.declared.entry.LogEvent.{LogEvent}
use Rattle.njh_log.specs.declared.entry.LogEvent.TheVariants as events
use Rattle.njh_log.specs.declared.entry.SessionChange.{SessionChange}
use Rattle.njh_log.specs.declared.entry.SessionChange.TheVariants as changes
use Rattle.njh_log.specs.declared.entry.DownCause.{DownCause}
use Rattle.njh_log.specs.declared.entry.DownCause.TheVariants as why
use Rattle.njh_log.specs.declared.severity.Severity.{Severity}
use Rattle.njh_log.specs.declared.severity.Severity.TheVariants.{Error, Warning, Information}

-- its number (RFC 5424, "PRI")
abbrev pub severity_number : Severity → ℕ
severity_number Error = 3
severity_number Warning = 4
severity_number Information = 6

-- only a sign-off ends a session in order, or the operator, who stops its line
abbrev pub end_severity : DownCause → Severity
end_severity (why.Ended ends.SignOff) = Information
end_severity why.Stopped = Information
end_severity _ = Warning

abbrev pub change_severity : SessionChange → Severity
change_severity (changes.Up node) = Information
change_severity (changes.Down end) = end_severity end

abbrev pub severity_of : LogEvent → Severity
severity_of (events.ListenFailed address cause) = Error
severity_of events.AcceptFailed = Error
severity_of (events.RoutesRefused fault) = Error
severity_of (events.SpoolAstray faults) = Error
severity_of events.ClosedEarly = Warning
severity_of (events.Failed failure) = Warning
severity_of (events.DialFailed address) = Warning
severity_of (events.OpenToAll port) = Warning
severity_of (events.TurnedAway rebuff count) = Warning
severity_of (events.SecondOpen node) = Warning
severity_of (events.OtherNames hosts) = Warning
severity_of (events.NoOpen count) = Warning
severity_of (events.PeerRefused reason) = Warning
severity_of events.NoNje = Warning
severity_of (events.SignOnRefused refusal) = Warning
severity_of (events.SignOnsRefused refusal address count) = Warning
severity_of (events.NoSession due) = Warning
severity_of (events.FileRefused file) = Warning
severity_of (events.ComingRefused stream notice) = Warning
severity_of (events.ComingCutOff stream) = Warning
severity_of (events.NearQuota used quota) = Warning
severity_of (events.NearFiles files most) = Warning
severity_of (events.Unrouted files) = Warning
severity_of (events.RequestRefused refusal) = Warning
severity_of (events.NoRequest visitors) = Warning
severity_of (events.SessionChanged change) = change_severity change
severity_of (events.SessionsChanged change count) = Warning
severity_of _ = Information
