-- What is asked is what a console reads.
use Rattle.std.proofs.Common.{◌≡◌, ℕ, Bool, true, List, Option, Some, None, Ok}
use Rattle.std.proofs.Common.{option_map, refl, ap, ◌∙◌}
use Rattle.std.specs.Prelude.{codes, decimal, is_some}
use Rattle.std.specs.Str.{is_utf8}
use Rattle.std.proofs.lemmas.Bool.{and_parts}
use Rattle.json.proofs.OnLiterals.{json_on_literals}
use Rattle.json.specs.Json.{Json}
use Rattle.percent_encoding.specs.Percent.{percent_decode}
use Rattle.njh_arguments.specs.Choices.{OwnerView, owner_view, viewed_owner}
use Rattle.njh_arguments.specs.Commands.{change_view}
use Rattle.njh_request.specs.Bodies.{json_of_body}
use Rattle.njh_request.specs.Paths.{Named, customer_by, customer_named, key_of, line_by, named_or_nothing, number_in}
use Rattle.njh_request.specs.Paths.{resource_of}
use Rattle.njh_request.specs.Orders.{Ordered, command_by, diff_by, message_by, moment_by}
use Rattle.njh_request.specs.Requests.{Read, asked_where, customers_from, files_from, lines_from, object_asks, on_terms}
use Rattle.njh_request.specs.Requests.{read_where, request_of}
use Rattle.njh_request.specs.declared.order.Order.TheVariants as ordered
use Rattle.njh_request.specs.declared.order_key.OrderKey.{OrderKey}
use Rattle.njh_request.specs.declared.request.LineWish.{LineWish}
use Rattle.njh_request.specs.declared.request.LineWish.TheVariants as wish
use Rattle.njh_request.specs.declared.request.Request.TheVariants as request
use Rattle.njh_request.specs.declared.resource.Resource.TheVariants as resource
use Rattle.njh_table.specs.TableFile.{TableFile, line_named}
use Rattle.njh_table.specs.declared.LineId.{LineId}
use Rattle.njh_ctl.specs.Questions.{IsBody, TermsView, change_text, command_data, command_meant, customer_path, data_of}
use Rattle.njh_ctl.specs.Questions.{from_text, is_askable, is_key, is_orderable, is_place, is_word, line_path, meant}
use Rattle.njh_ctl.specs.Questions.{method_of, of_customer, of_line, order_data, order_meant, order_method, order_path}
use Rattle.njh_ctl.specs.Questions.{outcome_meant, outcome_path, owner_meant, path_of, query_of, shutdown_data}
use Rattle.njh_ctl.specs.Questions.{start_data, stated_by, stop_data, tell_data, terms_meant, terms_view, terms_where}
use Rattle.njh_ctl.specs.Questions.{diff_data, file_meant, reload_data, text_meant, user_meant}
use Rattle.njh_ctl.specs.declared.order.Order.{Order}
use Rattle.njh_ctl.specs.declared.order.Order.TheVariants as order
use Rattle.njh_ctl.specs.declared.question.Question.{Question}
use Rattle.njh_ctl.specs.declared.question.Question.TheVariants as question
use Rattle.njh_ctl.proofs.Numerals.{number-decimal, place-from_text}
use Rattle.njh_ctl.proofs.Paths.{resource-customer_path, resource-line_path, resource-order_path, word_parts}

-- ---- bodies

-- the last second is read as it is
on_read : (what : Ordered) (terms : TermsView) → is_place terms.until ≡ true
    → on_terms what (terms_where terms (number_in (decimal terms.until))) ≡ on_terms what (terms_meant terms)
on_read what terms place =
    ap (λ (until : Option ℕ). on_terms what (terms_where terms until)) (number-decimal terms.until place)

command_read : (c : ℕ) (text : List ℕ) (owner : Option OwnerView) (terms : TermsView) → is_place terms.until ≡ true
    → object_asks (resource.Orders c) (command_data text owner (stated_by terms))
    ≡ on_terms (command_by c (command_meant text) (owner_meant owner)) (terms_meant terms)
unfolding json_on_literals
command_read c text None terms place = on_read (command_by c (command_meant text) (owner_meant None)) terms place
command_read c text (Some owner) terms place =
    on_read (command_by c (command_meant text) (owner_meant (Some owner))) terms place

message_read : (c : ℕ) (user : OwnerView) (text : List ℕ) (terms : TermsView) → is_place terms.until ≡ true
    → object_asks (resource.Messages c) (tell_data user text (stated_by terms))
    ≡ on_terms (message_by c (user_meant user) (text_meant text)) (terms_meant terms)
unfolding json_on_literals
message_read c user text terms place = on_read (message_by c (user_meant user) (text_meant text)) terms place

stop_read : (id : LineId) (when_idle : Bool) (terms : TermsView) → is_place terms.until ≡ true
    → object_asks (resource.Line id) (stop_data when_idle (stated_by terms))
    ≡ on_terms (Ok (ordered.Line id (wish.Stopped (moment_by when_idle)))) (terms_meant terms)
unfolding json_on_literals
stop_read id when_idle terms place =
    on_read (Ok (ordered.Line id (wish.Stopped (moment_by when_idle)))) terms place

start_read : (id : LineId) (terms : TermsView) → is_place terms.until ≡ true
    → object_asks (resource.Line id) (start_data (stated_by terms))
    ≡ on_terms (Ok (ordered.Line id wish.Started)) (terms_meant terms)
unfolding json_on_literals
start_read id terms place = on_read (Ok (ordered.Line id wish.Started)) terms place

shutdown_read : (when_idle : Bool) (terms : TermsView) → is_place terms.until ≡ true
    → object_asks resource.Stop (shutdown_data when_idle (stated_by terms))
    ≡ on_terms (Ok (ordered.Stop (moment_by when_idle))) (terms_meant terms)
unfolding json_on_literals
shutdown_read when_idle terms place = on_read (Ok (ordered.Stop (moment_by when_idle))) terms place

reload_read : (terms : TermsView) → is_place terms.until ≡ true
    → object_asks resource.Reload (reload_data (stated_by terms)) ≡ on_terms (Ok ordered.Reload) (terms_meant terms)
unfolding json_on_literals
reload_read terms place = on_read (Ok ordered.Reload) terms place

diff_read : (file : List ℕ) (terms : TermsView) → is_place terms.until ≡ true
    → object_asks resource.Diff (diff_data file (stated_by terms)) ≡ on_terms (diff_by (file_meant file)) (terms_meant terms)
unfolding json_on_literals
diff_read file terms place = on_read (diff_by (file_meant file)) terms place

-- ---- what is asked of a resource

lines_asked : (path name : List ℕ) (o : Option ℕ) (from : ℕ) (body : List ℕ) → is_place from ≡ true
    → asked_where (named_or_nothing path (customer_by name (codes "lines") o)) (codes "GET") (Some (from_text from)) body
    ≡ of_customer name o (λ c. Ok (request.Lines c from))
lines_asked path name None from body place = refl
lines_asked path name (Some c) from body place = ap (lines_from c) (place-from_text from place)

files_asked : (path name : List ℕ) (o : Option ℕ) (from : ℕ) (body : List ℕ) → is_place from ≡ true
    → asked_where (named_or_nothing path (customer_by name (codes "files") o)) (codes "GET") (Some (from_text from)) body
    ≡ of_customer name o (λ c. Ok (request.Files c from))
files_asked path name None from body place = refl
files_asked path name (Some c) from body place = ap (files_from c) (place-from_text from place)

outcome_asked : (path : List ℕ) (o : Option OrderKey) (body : List ℕ) → is_some o ≡ true
    → asked_where (named_or_nothing path (option_map (λ k. Ok (resource.Outcome k)) o)) (codes "GET") None body
    ≡ outcome_meant o
outcome_asked path None body is = cc is
outcome_asked path (Some k) body is = refl

command_asked : (path name : List ℕ) (o : Option ℕ) (text : List ℕ) (owner : Option OwnerView) (terms : TermsView)
    (body : List ℕ) → is_place terms.until ≡ true
    → json_of_body body ≡ Some (command_data text owner (stated_by terms))
    → asked_where (named_or_nothing path (customer_by name (codes "orders") o)) (codes "POST") None body
    ≡ of_customer name o (λ c. on_terms (command_by c (command_meant text) (owner_meant owner)) (terms_meant terms))
command_asked path name None text owner terms body place is = refl
command_asked path name (Some c) text owner terms body place is =
    ap (read_where (object_asks (resource.Orders c))) is ∙ command_read c text owner terms place

message_asked : (path name : List ℕ) (o : Option ℕ) (user : OwnerView) (text : List ℕ) (terms : TermsView)
    (body : List ℕ) → is_place terms.until ≡ true → json_of_body body ≡ Some (tell_data user text (stated_by terms))
    → asked_where (named_or_nothing path (customer_by name (codes "messages") o)) (codes "POST") None body
    ≡ of_customer name o (λ c. on_terms (message_by c (user_meant user) (text_meant text)) (terms_meant terms))
message_asked path name None user text terms body place is = refl
message_asked path name (Some c) user text terms body place is =
    ap (read_where (object_asks (resource.Messages c))) is ∙ message_read c user text terms place

line_asked : (path name : List ℕ) (o : Option LineId) (w : LineWish) (terms : TermsView) (j : Json) (body : List ℕ)
    → json_of_body body ≡ Some j
    → ((id : LineId) → object_asks (resource.Line id) j ≡ on_terms (Ok (ordered.Line id w)) (terms_meant terms))
    → asked_where (named_or_nothing path (Some (line_by name o))) (codes "PUT") None body ≡ of_line name o w terms
line_asked path name None w terms j body is reads = refl
line_asked path name (Some id) w terms j body is reads = ap (read_where (object_asks (resource.Line id))) is ∙ reads id

-- ---- all

-- what a path asks for that is this without its escapes
abbrev asked_plainly : TableFile → (method path plain : List ℕ) → Option (List ℕ) → List ℕ → Read
asked_plainly tables method path plain query body =
    asked_where (named_or_nothing path (resource_of tables plain)) method query body

by_path : (tables : TableFile) (method path plain : List ℕ) (query : Option (List ℕ)) (body : List ℕ) (r : Option Named)
    (read : Read) → resource_of tables plain ≡ r → asked_where (named_or_nothing path r) method query body ≡ read
    → asked_plainly tables method path plain query body ≡ read
by_path tables method path plain query body r read is asks =
    ap (λ (o : Option Named). asked_where (named_or_nothing path o) method query body) is ∙ asks

order_whole : (tables : TableFile) (o : Order) (terms : TermsView) (path body : List ℕ) → is_orderable o ≡ true
    → is_place terms.until ≡ true → json_of_body body ≡ Some (order_data o (stated_by terms))
    → asked_plainly tables (order_method o) path (order_path o) None body ≡ order_meant tables o terms
order_whole tables (order.Change change files) terms path body able place is =
    by_path tables (codes "POST") path (customer_path files.customer.now (codes "orders")) None body
    (customer_by files.customer.now (codes "orders") (customer_named tables files.customer.now))
    (of_customer files.customer.now (customer_named tables files.customer.now)
    (λ c. on_terms (command_by c (command_meant (change_text (change_view change) files.name.now))
    (owner_meant (viewed_owner files.owner))) (terms_meant terms)))
    (resource-customer_path tables files.customer.now (codes "orders") able refl)
    (command_asked path files.customer.now (customer_named tables files.customer.now)
    (change_text (change_view change) files.name.now) (viewed_owner files.owner) terms body place is)
order_whole tables (order.Tell customer user text) terms path body able place is =
    by_path tables (codes "POST") path (customer_path customer.now (codes "messages")) None body
    (customer_by customer.now (codes "messages") (customer_named tables customer.now))
    (of_customer customer.now (customer_named tables customer.now)
    (λ c. on_terms (message_by c (user_meant (owner_view user)) (text_meant text.now)) (terms_meant terms)))
    (resource-customer_path tables customer.now (codes "messages") able refl)
    (message_asked path customer.now (customer_named tables customer.now) (owner_view user) text.now terms body place is)
order_whole tables (order.Stop line when_idle) terms path body able place is =
    by_path tables (codes "PUT") path (line_path line.now) None body
    (Some (line_by line.now (line_named tables line.now)))
    (of_line line.now (line_named tables line.now) (wish.Stopped (moment_by when_idle)) terms)
    (resource-line_path tables line.now able)
    (line_asked path line.now (line_named tables line.now) (wish.Stopped (moment_by when_idle)) terms
    (stop_data when_idle (stated_by terms)) body is (λ id. stop_read id when_idle terms place))
order_whole tables (order.Start line) terms path body able place is =
    by_path tables (codes "PUT") path (line_path line.now) None body
    (Some (line_by line.now (line_named tables line.now)))
    (of_line line.now (line_named tables line.now) wish.Started terms) (resource-line_path tables line.now able)
    (line_asked path line.now (line_named tables line.now) wish.Started terms (start_data (stated_by terms)) body is
    (λ id. start_read id terms place))
order_whole tables (order.Shutdown when_idle) terms path body able place is =
    ap (read_where (object_asks resource.Stop)) is ∙ shutdown_read when_idle terms place
order_whole tables order.Reload terms path body able place is =
    ap (read_where (object_asks resource.Reload)) is ∙ reload_read terms place
order_whole tables (order.Diff file) terms path body able place is =
    ap (read_where (object_asks resource.Diff)) is ∙ diff_read file.now terms place

read_whole : (tables : TableFile) (q : Question) (path body : List ℕ) → is_askable q ≡ true → IsBody (data_of q) body
    → asked_plainly tables (method_of q) path (path_of q) (query_of q) body ≡ meant tables q
read_whole tables question.Status path body askable is = refl
read_whole tables (question.Customers from) path body askable is = ap customers_from (place-from_text from askable)
read_whole tables (question.Lines customer from) path body askable is =
    let both = and_parts (is_word customer.now) (is_place from) askable in
    by_path tables (codes "GET") path (customer_path customer.now (codes "lines")) (Some (from_text from)) body
    (customer_by customer.now (codes "lines") (customer_named tables customer.now))
    (of_customer customer.now (customer_named tables customer.now) (λ c. Ok (request.Lines c from)))
    (resource-customer_path tables customer.now (codes "lines") both.0 refl)
    (lines_asked path customer.now (customer_named tables customer.now) from body both.1)
read_whole tables (question.Files customer from) path body askable is =
    let both = and_parts (is_word customer.now) (is_place from) askable in
    by_path tables (codes "GET") path (customer_path customer.now (codes "files")) (Some (from_text from)) body
    (customer_by customer.now (codes "files") (customer_named tables customer.now))
    (of_customer customer.now (customer_named tables customer.now) (λ c. Ok (request.Files c from)))
    (resource-customer_path tables customer.now (codes "files") both.0 refl)
    (files_asked path customer.now (customer_named tables customer.now) from body both.1)
read_whole tables (question.Outcome key) path body askable is =
    let both = and_parts (is_word key.now) (is_key key.now) askable in
    by_path tables (codes "GET") path (outcome_path key.now) None body
    (option_map (λ k. Ok (resource.Outcome k)) (key_of key.now)) (outcome_meant (key_of key.now))
    (resource-order_path tables key.now (word_parts key.now both.0))
    (outcome_asked path (key_of key.now) body both.1)
read_whole tables (question.Order order terms) path body askable is =
    let both = and_parts (is_orderable order) (is_place terms.until) askable in
    order_whole tables order (terms_view terms) path body both.0 both.1 is

-- a request with these parts is read as what is meant
pub read_back : (tables : TableFile) (q : Question) (method path : List ℕ) (query : Option (List ℕ)) (body : List ℕ)
    → is_askable q ≡ true → method ≡ method_of q → percent_decode path ≡ path_of q → is_utf8 (path_of q) ≡ true
    → query ≡ query_of q → IsBody (data_of q) body → request_of tables method path query body ≡ meant tables q
read_back tables q method path query body askable method_is path_is text query_is is =
    rw (method_is, path_is, text, query_is) (read_whole tables q path body askable is)
