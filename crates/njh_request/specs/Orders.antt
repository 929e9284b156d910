-- What a body orders: a command or a message for a customer, how a line is to be, the end of the service, that the
-- table file is read or another is compared.
use Rattle.std.specs.Prelude.{ℕ, Bool, true, false, List, codes, cond, bytes_eq, Option, Some, None, Result, Ok, Err}
use Rattle.json.specs.Json.{Json}
use Rattle.njh_ebcdic.specs.Users.{User}
use Rattle.njh_table.specs.declared.LineId.{LineId}
use Rattle.njh_request.specs.Bodies.{owner_in, path_in, state_in, text_in, unless, waits_in, whom_in}
use Rattle.njh_request.specs.Members.{odd_in}
use Rattle.njh_request.specs.declared.member.Form.TheVariants as form
use Rattle.njh_request.specs.declared.member.Member.TheVariants as member
use Rattle.njh_request.specs.declared.methods.Methods.TheVariants as methods
use Rattle.njh_request.specs.declared.order.Order.{Order}
use Rattle.njh_request.specs.declared.order.Order.TheVariants as order
use Rattle.njh_request.specs.declared.refusal.RequestRefusal.{RequestRefusal}
use Rattle.njh_request.specs.declared.refusal.RequestRefusal.TheVariants.{BadMember, BadMethod, NotJson}
use Rattle.njh_request.specs.declared.request.LineWish.{LineWish}
use Rattle.njh_request.specs.declared.request.LineWish.TheVariants as wish
use Rattle.njh_request.specs.declared.request.EndMoment.{EndMoment}
use Rattle.njh_request.specs.declared.request.EndMoment.TheVariants as moment
use Rattle.njh_request.specs.declared.resource.Resource.{Resource}
use Rattle.njh_request.specs.declared.resource.Resource.TheVariants as resource

-- what is ordered, or why it is refused
abbrev pub Ordered : Type 0
Ordered = Result Order RequestRefusal

-- a command, and the owner in whose name it is given where one is named
abbrev pub command_by : ℕ → Result (List ℕ) RequestRefusal → Result (Option User) RequestRefusal → Ordered
command_by c (Err why) owner = Err why
command_by c (Ok text) (Err why) = Err why
command_by c (Ok text) (Ok owner) = Ok (order.Command c owner text)

-- {"command": "HOLD LYON.42", "owner": {"node": "LYON", "user": "ANNA"}}
abbrev pub command_in : ℕ → Json → Ordered
command_in c j = unless (odd_in NotJson form.Order j) (command_by c (text_in member.Command j) (owner_in j))

abbrev pub message_by : ℕ → Result User RequestRefusal → Result (List ℕ) RequestRefusal → Ordered
message_by c (Err why) text = Err why
message_by c (Ok whom) (Err why) = Err why
message_by c (Ok whom) (Ok text) = Ok (order.Message c whom text)

-- {"to": {"node": "LYON", "user": "ANNA"}, "text": "THE HUB STOPS AT SIX"}
abbrev pub message_in : ℕ → Json → Ordered
message_in c j = unless (odd_in NotJson form.Message j) (message_by c (whom_in j) (text_in member.Text j))

-- at once, or once nothing is on the streams
abbrev pub moment_by : Bool → EndMoment
moment_by false = moment.AtOnce
moment_by true = moment.WhenIdle

abbrev pub wish_of_text : List ℕ → EndMoment → Option LineWish
wish_of_text text when =
    cond (bytes_eq text (codes "started")) (Some wish.Started)
    (cond (bytes_eq text (codes "stopped")) (Some (wish.Stopped when)) None)

abbrev pub line_wished : LineId → Option LineWish → Ordered
line_wished id None = Err (BadMember member.State)
line_wished id (Some w) = Ok (order.Line id w)

abbrev pub line_with : LineId → Result (List ℕ) RequestRefusal → Result Bool RequestRefusal → Ordered
line_with id (Err why) waits = Err why
line_with id (Ok text) (Err why) = Err why
line_with id (Ok text) (Ok waits) = line_wished id (wish_of_text text (moment_by waits))

-- {"state": "stopped", "when_idle": true}
abbrev pub line_in : LineId → Json → Ordered
line_in id j = unless (odd_in NotJson form.Line j) (line_with id (state_in j) (waits_in j))

abbrev pub stop_by : Result Bool RequestRefusal → Ordered
stop_by (Err why) = Err why
stop_by (Ok waits) = Ok (order.Stop (moment_by waits))

-- {"when_idle": true}
abbrev pub stop_in : Json → Ordered
stop_in j = unless (odd_in NotJson form.Stop j) (stop_by (waits_in j))

-- {}
abbrev pub reload_in : Json → Ordered
reload_in j = unless (odd_in NotJson form.Reload j) (Ok order.Reload)

abbrev pub diff_by : Result (List ℕ) RequestRefusal → Ordered
diff_by (Err why) = Err why
diff_by (Ok path) = Ok (order.Diff path)

-- {"file": "/etc/njehub/tables.toml.new"}
abbrev pub diff_in : Json → Ordered
diff_in j = unless (odd_in NotJson form.Diff j) (diff_by (path_in j))

-- what an object orders of a resource
abbrev pub ordered_of : Resource → Json → Ordered
ordered_of (resource.Orders c) j = command_in c j
ordered_of (resource.Messages c) j = message_in c j
ordered_of (resource.Line id) j = line_in id j
ordered_of resource.Stop j = stop_in j
ordered_of resource.Reload j = reload_in j
ordered_of resource.Diff j = diff_in j
ordered_of resource.Status j = Err (BadMethod methods.Get)
ordered_of resource.Customers j = Err (BadMethod methods.Get)
ordered_of (resource.Lines c) j = Err (BadMethod methods.Get)
ordered_of (resource.Files c) j = Err (BadMethod methods.Get)
ordered_of (resource.Outcome key) j = Err (BadMethod methods.Get)
