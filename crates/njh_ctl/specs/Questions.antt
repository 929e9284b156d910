-- What is asked of a console at once, as a request of HTTP; and what the console reads in it.
use Rattle.std.specs.Prelude.{◌≡◌, ℕ, ◌++◌, ◌==◌, ◌&&◌, not, Bool, true, List, [], codes, is_some, nat_lt, Option, Some}
use Rattle.std.specs.Prelude.{None, ok_or, Result, Ok, Err}
use Rattle.std.specs.Fmt.{decimal}
use Rattle.std.specs.List.{list_all}
use Rattle.std.specs.Result.{result_map_both, result_ok}
use Rattle.json.specs.Json.{Json, Members, boolean, number, string, object, member, no_members}
use Rattle.njh_arguments.specs.Choices.{OwnerView, owner_view, viewed_owner}
use Rattle.njh_arguments.specs.Commands.{ChangeView, Held, Released, Cancelled, Rerouted, change_view}
use Rattle.njh_ebcdic.specs.Reading.{name_of_text}
use Rattle.njh_ebcdic.specs.Users.{User}
use Rattle.njh_request.specs.Bodies.{json_of_body, user_by}
use Rattle.njh_request.specs.Fields.{field_of_text, text_of_characters}
use Rattle.njh_request.specs.OrderNames.{order_name_of}
use Rattle.njh_request.specs.FilePaths.{path_of_text}
use Rattle.njh_request.specs.Orders.{command_by, diff_by, message_by, moment_by}
use Rattle.njh_request.specs.Paths.{customer_named, key_of}
use Rattle.njh_request.specs.Quotes.{quote_of}
use Rattle.njh_request.specs.Requests.{Read, on_terms}
use Rattle.njh_request.specs.Terms.{found, giver_where, terms_by}
use Rattle.njh_request.specs.declared.member.Member.TheVariants as member
use Rattle.njh_request.specs.declared.order.Order.TheVariants as ordered
use Rattle.njh_request.specs.declared.order_key.OrderKey.{OrderKey}
use Rattle.njh_request.specs.declared.refusal.RequestRefusal.{RequestRefusal}
use Rattle.njh_request.specs.declared.refusal.RequestRefusal.TheVariants.{BadMember, BadPlace, NoCustomer, NoLine}
use Rattle.njh_request.specs.declared.request.LineWish.{LineWish}
use Rattle.njh_request.specs.declared.request.LineWish.TheVariants as wish
use Rattle.njh_request.specs.declared.request.Request.TheVariants as request
use Rattle.njh_request.specs.declared.terms.Terms as console
use Rattle.njh_table.specs.TableFile.{TableFile, line_named}
use Rattle.njh_table.specs.declared.LineId.{LineId}
use Rattle.njh_ctl.specs.declared.bodies.Stated.{Stated}
use Rattle.njh_ctl.specs.declared.order.Order.{Order}
use Rattle.njh_ctl.specs.declared.order.Order.TheVariants as order
use Rattle.njh_ctl.specs.declared.order.Terms.{Terms}
use Rattle.njh_ctl.specs.declared.question.Question.{Question}
use Rattle.njh_ctl.specs.declared.question.Question.TheVariants as question

abbrev pub Text : Type 0
Text = List ℕ

-- ---- terms

-- under which name something is ordered, up to which second, and by whom
pub record TermsView : Type 0 where
  pub name : Text
  pub until : ℕ
  pub by : Text

abbrev pub terms_view : Terms → TermsView
terms_view terms = record { name = terms.name.now; until = terms.until; by = terms.by.now }

-- the same with the digits of the second
pub record StatedView : Type 0 where
  pub name : Text
  pub until : Text
  pub by : Text

abbrev pub stated_view : Stated → StatedView
stated_view stated = record { name = stated.name.now; until = stated.until.now; by = stated.by.now }

abbrev pub stated_by : TermsView → StatedView
stated_by terms = record { name = terms.name; until = decimal terms.until; by = terms.by }

-- ---- its parts

abbrev pub order_method : Order → Text
order_method (order.Change change files) = codes "POST"
order_method (order.Tell customer user text) = codes "POST"
order_method (order.Shutdown when_idle) = codes "POST"
order_method order.Reload = codes "POST"
order_method (order.Diff file) = codes "POST"
order_method (order.Stop line when_idle) = codes "PUT"
order_method (order.Start line) = codes "PUT"

abbrev pub method_of : Question → Text
method_of question.Status = codes "GET"
method_of (question.Customers from) = codes "GET"
method_of (question.Lines customer from) = codes "GET"
method_of (question.Files customer from) = codes "GET"
method_of (question.Outcome key) = codes "GET"
method_of (question.Order order terms) = order_method order

abbrev pub customer_path : Text → Text → Text
customer_path customer part = codes "/v1/customers/" ++ (customer ++ (codes "/" ++ part))

abbrev pub outcome_path : Text → Text
outcome_path key = codes "/v1/orders/" ++ key

abbrev pub line_path : Text → Text
line_path line = codes "/v1/lines/" ++ line

abbrev pub order_path : Order → Text
order_path (order.Change change files) = customer_path files.customer.now (codes "orders")
order_path (order.Tell customer user text) = customer_path customer.now (codes "messages")
order_path (order.Stop line when_idle) = line_path line.now
order_path (order.Start line) = line_path line.now
order_path (order.Shutdown when_idle) = codes "/v1/stop"
order_path order.Reload = codes "/v1/reload"
order_path (order.Diff file) = codes "/v1/diff"

abbrev pub path_of : Question → Text
path_of question.Status = codes "/v1/status"
path_of (question.Customers from) = codes "/v1/customers"
path_of (question.Lines customer from) = customer_path customer.now (codes "lines")
path_of (question.Files customer from) = customer_path customer.now (codes "files")
path_of (question.Outcome key) = outcome_path key.now
path_of (question.Order order terms) = order_path order

abbrev pub from_text : ℕ → Text
from_text from = codes "from=" ++ decimal from

abbrev pub query_of : Question → Option Text
query_of (question.Customers from) = Some (from_text from)
query_of (question.Lines customer from) = Some (from_text from)
query_of (question.Files customer from) = Some (from_text from)
query_of question.Status = None
query_of (question.Outcome key) = None
query_of (question.Order order terms) = None

-- ---- its body

-- HOLD LYON.42, REROUTE LYON.42 METZ
abbrev pub change_text : ChangeView → Text → Text
change_text Held name = codes "HOLD " ++ name
change_text Released name = codes "RELEASE " ++ name
change_text Cancelled name = codes "CANCEL " ++ name
change_text (Rerouted node) name = codes "REROUTE " ++ (name ++ (codes " " ++ node))

abbrev pub owner_data : OwnerView → Json
owner_data owner =
    object (member (codes "node") (string owner.node) (member (codes "user") (string owner.user) no_members))

-- "name":"ctl-483920184756-0","until":1790650004,"by":"anna"
abbrev pub stated_members : StatedView → Members
stated_members stated = member (codes "name") (string stated.name)
    (member (codes "until") (number stated.until) (member (codes "by") (string stated.by) no_members))

abbrev pub command_data : Text → Option OwnerView → StatedView → Json
command_data text None stated = object (member (codes "command") (string text) (stated_members stated))
command_data text (Some owner) stated = object (member (codes "command") (string text)
    (member (codes "owner") (owner_data owner) (stated_members stated)))

abbrev pub tell_data : OwnerView → Text → StatedView → Json
tell_data user text stated = object (member (codes "text") (string text)
    (member (codes "to") (owner_data user) (stated_members stated)))

abbrev pub stop_data : Bool → StatedView → Json
stop_data when_idle stated = object (member (codes "state") (string (codes "stopped"))
    (member (codes "when_idle") (boolean when_idle) (stated_members stated)))

abbrev pub start_data : StatedView → Json
start_data stated = object (member (codes "state") (string (codes "started")) (stated_members stated))

abbrev pub shutdown_data : Bool → StatedView → Json
shutdown_data when_idle stated =
    object (member (codes "when_idle") (boolean when_idle) (stated_members stated))

abbrev pub reload_data : StatedView → Json
reload_data stated = object (stated_members stated)

abbrev pub diff_data : Text → StatedView → Json
diff_data file stated = object (member (codes "file") (string file) (stated_members stated))

abbrev pub order_data : Order → StatedView → Json
order_data (order.Change change files) stated =
    command_data (change_text (change_view change) files.name.now) (viewed_owner files.owner) stated
order_data (order.Tell customer user text) stated = tell_data (owner_view user) text.now stated
order_data (order.Stop line when_idle) stated = stop_data when_idle stated
order_data (order.Start line) stated = start_data stated
order_data (order.Shutdown when_idle) stated = shutdown_data when_idle stated
order_data order.Reload stated = reload_data stated
order_data (order.Diff file) stated = diff_data file.now stated

abbrev pub data_of : Question → Option Json
data_of question.Status = None
data_of (question.Customers from) = None
data_of (question.Lines customer from) = None
data_of (question.Files customer from) = None
data_of (question.Outcome key) = None
data_of (question.Order order terms) = Some (order_data order (stated_by (terms_view terms)))

-- a body is this JSON, or nothing
abbrev pub IsBody : Option Json → Text → Type 0
IsBody None body = body ≡ []
IsBody (Some j) body = json_of_body body ≡ Some j

-- ---- what can be asked

-- no stroke: strokes part the words of a path
abbrev pub is_path_byte : ℕ → Bool
is_path_byte b = not (b == 47)

abbrev pub is_word : Text → Bool
is_word name = list_all is_path_byte name

abbrev pub is_place : ℕ → Bool
is_place n = nat_lt n 1000000000000000000

-- a number or a name of an order
abbrev pub is_key : Text → Bool
is_key text = is_some (key_of text)

abbrev pub is_orderable : Order → Bool
is_orderable (order.Change change files) = is_word files.customer.now
is_orderable (order.Tell customer user text) = is_word customer.now
is_orderable (order.Stop line when_idle) = is_word line.now
is_orderable (order.Start line) = is_word line.now
is_orderable (order.Shutdown when_idle) = true
is_orderable order.Reload = true
is_orderable (order.Diff file) = true

abbrev pub is_askable : Question → Bool
is_askable question.Status = true
is_askable (question.Customers from) = is_place from
is_askable (question.Lines customer from) = is_word customer.now && is_place from
is_askable (question.Files customer from) = is_word customer.now && is_place from
is_askable (question.Outcome key) = is_word key.now && is_key key.now
is_askable (question.Order order terms) = is_orderable order && is_place terms.until

-- ---- what is meant, as a console of these tables reads it

-- the terms, with the second as it is read
abbrev pub terms_where : TermsView → Option ℕ → Result console.Terms RequestRefusal
terms_where terms until = terms_by (found member.Name (order_name_of terms.name)) (found member.Until until)
    (found member.By (giver_where terms.by))

abbrev pub terms_meant : TermsView → Result console.Terms RequestRefusal
terms_meant terms = terms_where terms (Some terms.until)

abbrev pub of_customer : Text → Option ℕ → (ℕ → Read) → Read
of_customer name None what = Err (NoCustomer (quote_of name))
of_customer name (Some c) what = what c

abbrev pub of_line : Text → Option LineId → LineWish → TermsView → Read
of_line name None w terms = Err (NoLine (quote_of name))
of_line name (Some id) w terms = on_terms (Ok (ordered.Line id w)) (terms_meant terms)

abbrev pub user_meant : OwnerView → Result User RequestRefusal
user_meant owner = user_by (ok_or (result_ok (name_of_text owner.node)) (BadMember member.Node))
    (ok_or (field_of_text owner.user) (BadMember member.User))

abbrev pub owner_meant : Option OwnerView → Result (Option User) RequestRefusal
owner_meant None = Ok None
owner_meant (Some owner) = result_map_both Some (λ why. why) (user_meant owner)

abbrev pub command_meant : Text → Result Text RequestRefusal
command_meant text = ok_or (text_of_characters text) (BadMember member.Command)

abbrev pub text_meant : Text → Result Text RequestRefusal
text_meant text = ok_or (text_of_characters text) (BadMember member.Text)

-- what came of the order of a number or a name
abbrev pub outcome_meant : Option OrderKey → Read
outcome_meant None = Err BadPlace
outcome_meant (Some key) = Ok (request.Outcome key)

abbrev pub file_meant : Text → Result Text RequestRefusal
file_meant text = ok_or (path_of_text text) (BadMember member.File)

abbrev pub order_meant : TableFile → Order → TermsView → Read
order_meant tables (order.Change change files) terms =
    of_customer files.customer.now (customer_named tables files.customer.now)
    (λ c. on_terms (command_by c (command_meant (change_text (change_view change) files.name.now))
    (owner_meant (viewed_owner files.owner))) (terms_meant terms))
order_meant tables (order.Tell customer user text) terms =
    of_customer customer.now (customer_named tables customer.now)
    (λ c. on_terms (message_by c (user_meant (owner_view user)) (text_meant text.now)) (terms_meant terms))
order_meant tables (order.Stop line when_idle) terms =
    of_line line.now (line_named tables line.now) (wish.Stopped (moment_by when_idle)) terms
order_meant tables (order.Start line) terms = of_line line.now (line_named tables line.now) wish.Started terms
order_meant tables (order.Shutdown when_idle) terms =
    on_terms (Ok (ordered.Stop (moment_by when_idle))) (terms_meant terms)
order_meant tables order.Reload terms = on_terms (Ok ordered.Reload) (terms_meant terms)
order_meant tables (order.Diff file) terms = on_terms (diff_by (file_meant file.now)) (terms_meant terms)

abbrev pub meant : TableFile → Question → Read
meant tables question.Status = Ok request.Status
meant tables (question.Customers from) = Ok (request.Customers from)
meant tables (question.Lines customer from) =
    of_customer customer.now (customer_named tables customer.now) (λ c. Ok (request.Lines c from))
meant tables (question.Files customer from) =
    of_customer customer.now (customer_named tables customer.now) (λ c. Ok (request.Files c from))
meant tables (question.Outcome key) = outcome_meant (key_of key.now)
meant tables (question.Order order terms) = order_meant tables order (terms_view terms)
