-- What is read of a request for what tables name is of the tables.
use Rattle.std.proofs.Common.{◌≡◌, ℕ, Bool, true, false, cond, List, Option, Some, None, Result, Ok, Err, IfOk, subst, sym}
use Rattle.json.specs.Json.{Json}
use Rattle.njh_ebcdic.specs.Users.{User}
use Rattle.njh_table.specs.declared.LineId.{LineId}
use Rattle.njh_table.specs.TableFile.{HasLine, TableFile}
use Rattle.njh_request.specs.Bodies.{json_of_body, owner_in, path_in, state_in, text_in, unless, waits_in, whom_in}
use Rattle.njh_request.specs.Members.{odd_in}
use Rattle.njh_request.specs.Named.{HasCustomer, IsNamedOf, IsOrderedOf, IsReadOf, IsResourceOf}
use Rattle.njh_request.specs.Orders.{Ordered, command_by, line_wished, line_with, message_by, moment_by, ordered_of}
use Rattle.njh_request.specs.Orders.{diff_by, stop_by, wish_of_text}
use Rattle.njh_request.specs.Paths.{Named, place_in}
use Rattle.njh_request.specs.Requests.{Read, asked, asked_where, body_asks, by_method, customers_from, files_from, is_by}
use Rattle.njh_request.specs.Requests.{lines_from, object_asks, on_terms, read_where, without_place}
use Rattle.njh_request.specs.Terms.{terms_in}
use Rattle.njh_request.specs.declared.member.Form.TheVariants as form
use Rattle.njh_request.specs.declared.member.Member.TheVariants as member
use Rattle.njh_request.specs.declared.methods.Methods.{Methods}
use Rattle.njh_request.specs.declared.methods.Methods.TheVariants as methods
use Rattle.njh_request.specs.declared.refusal.RequestRefusal.{RequestRefusal}
use Rattle.njh_request.specs.declared.refusal.RequestRefusal.TheVariants.{BadMethod, NotJson}
use Rattle.njh_request.specs.declared.order.Order.TheVariants as order
use Rattle.njh_request.specs.declared.request.LineWish.{LineWish}
use Rattle.njh_request.specs.declared.request.Request.TheVariants as request
use Rattle.njh_request.specs.declared.resource.Resource.{Resource}
use Rattle.njh_request.specs.declared.resource.Resource.TheVariants as resource
use Rattle.njh_request.specs.declared.terms.Terms.{Terms}

cond-there : (tables : TableFile) (wanted : Methods) (right : Bool) (read : Read) → IsReadOf tables read
    → IsReadOf tables (cond right read (Err (BadMethod wanted)))
cond-there tables wanted true read there = there
cond-there tables wanted false read there = tt

method-there : (tables : TableFile) (wanted : Methods) (method : List ℕ) (read : Read) → IsReadOf tables read
    → IsReadOf tables (by_method wanted method read)
method-there tables wanted method read there = cond-there tables wanted (is_by wanted method) read there

without_place-there : (tables : TableFile) (query : Option (List ℕ)) (read : Read) → IsReadOf tables read
    → IsReadOf tables (without_place query read)
without_place-there tables None read there = there
without_place-there tables (Some query) read there = tt

customers-there : (tables : TableFile) (from : Option ℕ) → IsReadOf tables (customers_from from)
customers-there tables None = tt
customers-there tables (Some from) = tt

lines-there : (tables : TableFile) (c : ℕ) (from : Option ℕ) → HasCustomer tables c → IsReadOf tables (lines_from c from)
lines-there tables c None there = tt
lines-there tables c (Some from) there = there

files-there : (tables : TableFile) (c : ℕ) (from : Option ℕ) → HasCustomer tables c → IsReadOf tables (files_from c from)
files-there tables c None there = tt
files-there tables c (Some from) there = there

unless-there : (tables : TableFile) (odd : Option RequestRefusal) (what : Ordered) → IsOrderedOf tables what
    → IsOrderedOf tables (unless odd what)
unless-there tables None what there = there
unless-there tables (Some why) what there = tt

command-there : (tables : TableFile) (c : ℕ) (text : Result (List ℕ) RequestRefusal)
    (owner : Result (Option User) RequestRefusal) → HasCustomer tables c → IsOrderedOf tables (command_by c text owner)
command-there tables c (Err why) owner there = tt
command-there tables c (Ok text) (Err why) there = tt
command-there tables c (Ok text) (Ok owner) there = there

message-there : (tables : TableFile) (c : ℕ) (whom : Result User RequestRefusal) (text : Result (List ℕ) RequestRefusal)
    → HasCustomer tables c → IsOrderedOf tables (message_by c whom text)
message-there tables c (Err why) text there = tt
message-there tables c (Ok whom) (Err why) there = tt
message-there tables c (Ok whom) (Ok text) there = there

wished-there : (tables : TableFile) (id : LineId) (wish : Option LineWish) → HasLine tables id
    → IsOrderedOf tables (line_wished id wish)
wished-there tables id None there = tt
wished-there tables id (Some wish) there = there

line-there : (tables : TableFile) (id : LineId) (text : Result (List ℕ) RequestRefusal)
    (waits : Result Bool RequestRefusal) → HasLine tables id → IsOrderedOf tables (line_with id text waits)
line-there tables id (Err why) waits there = tt
line-there tables id (Ok text) (Err why) there = tt
line-there tables id (Ok text) (Ok waits) there =
    wished-there tables id (wish_of_text text (moment_by waits)) there

stop-there : (tables : TableFile) (waits : Result Bool RequestRefusal) → IsOrderedOf tables (stop_by waits)
stop-there tables (Err why) = tt
stop-there tables (Ok waits) = tt

diff-there : (tables : TableFile) (path : Result (List ℕ) RequestRefusal) → IsOrderedOf tables (diff_by path)
diff-there tables (Err why) = tt
diff-there tables (Ok path) = tt

ordered-there : (tables : TableFile) (r : Resource) (j : Json) → IsResourceOf tables r
    → IsOrderedOf tables (ordered_of r j)
ordered-there tables (resource.Orders c) j there =
    unless-there tables (odd_in NotJson form.Order j) (command_by c (text_in member.Command j) (owner_in j))
    (command-there tables c (text_in member.Command j) (owner_in j) there)
ordered-there tables (resource.Messages c) j there =
    unless-there tables (odd_in NotJson form.Message j) (message_by c (whom_in j) (text_in member.Text j))
    (message-there tables c (whom_in j) (text_in member.Text j) there)
ordered-there tables (resource.Line id) j there =
    unless-there tables (odd_in NotJson form.Line j) (line_with id (state_in j) (waits_in j))
    (line-there tables id (state_in j) (waits_in j) there)
ordered-there tables resource.Stop j there =
    unless-there tables (odd_in NotJson form.Stop j) (stop_by (waits_in j)) (stop-there tables (waits_in j))
ordered-there tables resource.Reload j there =
    unless-there tables (odd_in NotJson form.Reload j) (Ok order.Reload) tt
ordered-there tables resource.Diff j there =
    unless-there tables (odd_in NotJson form.Diff j) (diff_by (path_in j)) (diff-there tables (path_in j))
ordered-there tables resource.Status j there = tt
ordered-there tables resource.Customers j there = tt
ordered-there tables (resource.Lines c) j there = tt
ordered-there tables (resource.Files c) j there = tt
ordered-there tables (resource.Outcome key) j there = tt

terms-there : (tables : TableFile) (what : Ordered) (terms : Result Terms RequestRefusal) → IsOrderedOf tables what
    → IsReadOf tables (on_terms what terms)
terms-there tables (Err why) terms there = tt
terms-there tables (Ok what) (Err why) there = tt
terms-there tables (Ok what) (Ok terms) there = there

json-there : (tables : TableFile) (r : Resource) (json : Option Json) → IsResourceOf tables r
    → IsReadOf tables (read_where (object_asks r) json)
json-there tables r None there = tt
json-there tables r (Some j) there = terms-there tables (ordered_of r j) (terms_in j) (ordered-there tables r j there)

posted-there : (tables : TableFile) (r : Resource) (wanted : Methods) (method : List ℕ) (query : Option (List ℕ))
    (body : List ℕ) → IsResourceOf tables r
    → IsReadOf tables (by_method wanted method (without_place query (body_asks (object_asks r) body)))
posted-there tables r wanted method query body there =
    method-there tables wanted method (without_place query (body_asks (object_asks r) body))
    (without_place-there tables query (body_asks (object_asks r) body)
    (json-there tables r (json_of_body body) there))

asked-there : (tables : TableFile) (r : Resource) (method : List ℕ) (query : Option (List ℕ)) (body : List ℕ)
    → IsResourceOf tables r → IsReadOf tables (asked r method query body)
asked-there tables resource.Status method query body there =
    method-there tables methods.Get method (without_place query (Ok request.Status))
    (without_place-there tables query (Ok request.Status) tt)
asked-there tables resource.Customers method query body there =
    method-there tables methods.Get method (customers_from (place_in query)) (customers-there tables (place_in query))
asked-there tables (resource.Lines c) method query body there =
    method-there tables methods.Get method (lines_from c (place_in query)) (lines-there tables c (place_in query) there)
asked-there tables (resource.Files c) method query body there =
    method-there tables methods.Get method (files_from c (place_in query)) (files-there tables c (place_in query) there)
asked-there tables (resource.Outcome key) method query body there =
    method-there tables methods.Get method (without_place query (Ok (request.Outcome key)))
    (without_place-there tables query (Ok (request.Outcome key)) tt)
asked-there tables (resource.Orders c) method query body there =
    posted-there tables (resource.Orders c) methods.Post method query body there
asked-there tables (resource.Messages c) method query body there =
    posted-there tables (resource.Messages c) methods.Post method query body there
asked-there tables (resource.Line id) method query body there =
    posted-there tables (resource.Line id) methods.Put method query body there
asked-there tables resource.Stop method query body there =
    posted-there tables resource.Stop methods.Post method query body there
asked-there tables resource.Reload method query body there =
    posted-there tables resource.Reload methods.Post method query body there
asked-there tables resource.Diff method query body there =
    posted-there tables resource.Diff methods.Post method query body there

-- what is asked for is there, if what the path names is
pub read-there : (tables : TableFile) (named : Named) (method : List ℕ) (query : Option (List ℕ)) (body : List ℕ)
    → IsNamedOf tables named → IsReadOf tables (asked_where named method query body)
read-there tables (Ok r) method query body there = asked-there tables r method query body there
read-there tables (Err why) method query body there = tt

pub reads-there : {E : Type 0} (tables : TableFile) (result : Result Read E) (named : Named) (method : List ℕ)
    (query : Option (List ℕ)) (body : List ℕ) → IfOk result (λ read. read ≡ asked_where named method query body)
    → IsNamedOf tables named → IfOk result (IsReadOf tables)
reads-there tables (Ok read) named method query body is there =
    subst (λ (r : Read). IsReadOf tables r) (sym is) (read-there tables named method query body there)
reads-there tables (Err why) named method query body is there = tt
