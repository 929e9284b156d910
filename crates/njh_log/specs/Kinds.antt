-- Of which kind an event is.
use Rattle.std.specs.Prelude.{ℕ}
use Rattle.njh_log.specs.declared.entry.LogEvent.{LogEvent}
use Rattle.njh_log.specs.declared.entry.LogEvent.TheVariants as events
use Rattle.njh_log.specs.declared.event_kind.EventKind.{EventKind}
use Rattle.njh_log.specs.declared.event_kind.EventKind.TheVariants as kinds

-- its number among the kinds
abbrev pub kind_number : EventKind → ℕ
kind_number kinds.Connections = 0
kind_number kinds.Ends = 1
kind_number kinds.Ports = 2
kind_number kinds.Dials = 3
kind_number kinds.Untaken = 4
kind_number kinds.Refusals = 5
kind_number kinds.Strangers = 6
kind_number kinds.Waits = 7
kind_number kinds.Sessions = 8
kind_number kinds.Files = 9
kind_number kinds.Limits = 10
kind_number kinds.Routes = 11
kind_number kinds.Orders = 12
kind_number kinds.Requests = 13
kind_number kinds.Commands = 14
kind_number kinds.Others = 15

abbrev pub kind_of : LogEvent → EventKind
kind_of (events.ConnectedFrom address) = kinds.Connections
kind_of (events.ConnectedTo address) = kinds.Connections
kind_of events.Closed = kinds.Ends
kind_of events.ClosedEarly = kinds.Ends
kind_of (events.Failed failure) = kinds.Ends
kind_of (events.ListenFailed address cause) = kinds.Ports
kind_of (events.Listening address) = kinds.Ports
kind_of (events.OpenToAll port) = kinds.Ports
kind_of (events.Dials address) = kinds.Ports
kind_of (events.DialFailed address) = kinds.Dials
kind_of (events.PeerRefused reason) = kinds.Dials
kind_of events.NoNje = kinds.Dials
kind_of events.AcceptFailed = kinds.Untaken
kind_of (events.TurnedAway rebuff count) = kinds.Strangers
kind_of (events.SecondOpen node) = kinds.Strangers
kind_of (events.OpenWhileStopped node) = kinds.Strangers
kind_of (events.OtherNames hosts) = kinds.Strangers
kind_of (events.NoOpen count) = kinds.Strangers
kind_of (events.SignOnRefused refusal) = kinds.Refusals
kind_of (events.SignOnsRefused refusal address count) = kinds.Refusals
kind_of (events.NoSession due) = kinds.Waits
kind_of (events.SessionChanged change) = kinds.Sessions
kind_of (events.SessionsChanged change count) = kinds.Sessions
kind_of (events.FileIn file) = kinds.Files
kind_of (events.FileHeld file) = kinds.Files
kind_of (events.FileOut file) = kinds.Files
kind_of (events.FileRefused file) = kinds.Files
kind_of (events.ComingRefused stream notice) = kinds.Files
kind_of (events.ComingCutOff stream) = kinds.Files
kind_of (events.FileLeft stream) = kinds.Files
kind_of (events.NearQuota used quota) = kinds.Limits
kind_of (events.NearFiles files most) = kinds.Limits
kind_of events.NewRoutes = kinds.Routes
kind_of (events.Route news) = kinds.Routes
kind_of events.MoreRoutes = kinds.Routes
kind_of (events.Unrouted files) = kinds.Routes
kind_of (events.RoutesRefused fault) = kinds.Routes
kind_of events.LineStarted = kinds.Orders
kind_of events.LineDrains = kinds.Orders
kind_of events.LineStopped = kinds.Orders
kind_of (events.ServiceEnds moment) = kinds.Orders
kind_of (events.OrderGiven number terms) = kinds.Orders
kind_of (events.RequestRefused refusal) = kinds.Requests
kind_of (events.NoRequest visitors) = kinds.Requests
kind_of (events.SpoolAstray faults) = kinds.Others
kind_of events.SpoolBack = kinds.Others
