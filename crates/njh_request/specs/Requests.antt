-- What a request asks for: a resource by a method, with a place to go on from or an object of JSON.
use Rattle.std.specs.Prelude.{ℕ, Bool, ◌||◌, List, codes, cond, bytes_eq, Option, Some, None}
use Rattle.std.specs.Prelude.{Result, Ok, Err}
use Rattle.json.specs.Json.{Json}
use Rattle.njh_table.specs.TableFile.{TableFile}
use Rattle.njh_request.specs.Bodies.{json_of_body}
use Rattle.njh_request.specs.Orders.{Ordered, ordered_of}
use Rattle.njh_request.specs.Paths.{Named, place_in, resource_at}
use Rattle.njh_request.specs.Terms.{terms_in}
use Rattle.njh_request.specs.declared.methods.Methods.{Methods}
use Rattle.njh_request.specs.declared.methods.Methods.TheVariants as methods
use Rattle.njh_request.specs.declared.refusal.RequestRefusal.{RequestRefusal}
use Rattle.njh_request.specs.declared.refusal.RequestRefusal.TheVariants.{BadMethod, BadPlace, NoPlace, NotJson}
use Rattle.njh_request.specs.declared.request.Request.{Request}
use Rattle.njh_request.specs.declared.request.Request.TheVariants as request
use Rattle.njh_request.specs.declared.resource.Resource.{Resource}
use Rattle.njh_request.specs.declared.resource.Resource.TheVariants as resource
use Rattle.njh_request.specs.declared.terms.Terms.{Terms}

-- what is asked for, or why it is refused
abbrev pub Read : Type 0
Read = Result Request RequestRefusal

-- ---- methods

-- HEAD is answered as GET is, without the body
abbrev pub is_by : Methods → List ℕ → Bool
is_by methods.Get method = bytes_eq method (codes "GET") || bytes_eq method (codes "HEAD")
is_by methods.Post method = bytes_eq method (codes "POST")
is_by methods.Put method = bytes_eq method (codes "PUT")

abbrev pub by_method : Methods → List ℕ → Read → Read
by_method wanted method asked = cond (is_by wanted method) asked (Err (BadMethod wanted))

-- ---- places to go on from

-- nothing stands behind a path from which there is no place to go on
abbrev pub without_place : Option (List ℕ) → Read → Read
without_place None asked = asked
without_place (Some query) asked = Err NoPlace

abbrev pub customers_from : Option ℕ → Read
customers_from None = Err BadPlace
customers_from (Some from) = Ok (request.Customers from)

abbrev pub lines_from : ℕ → Option ℕ → Read
lines_from c None = Err BadPlace
lines_from c (Some from) = Ok (request.Lines c from)

abbrev pub files_from : ℕ → Option ℕ → Read
files_from c None = Err BadPlace
files_from c (Some from) = Ok (request.Files c from)

-- ---- bodies

abbrev pub on_terms : Ordered → Result Terms RequestRefusal → Read
on_terms (Err why) terms = Err why
on_terms (Ok what) (Err why) = Err why
on_terms (Ok what) (Ok terms) = Ok (request.Order terms what)

-- what an object asks of a resource: what it orders, on the terms that stand beside that
abbrev pub object_asks : Resource → Json → Read
object_asks r j = on_terms (ordered_of r j) (terms_in j)

abbrev pub read_where : (Json → Read) → Option Json → Read
read_where reads None = Err NotJson
read_where reads (Some j) = reads j

-- what a body asks
abbrev pub body_asks : (Json → Read) → List ℕ → Read
body_asks reads body = read_where reads (json_of_body body)

-- ---- all

abbrev pub asked : Resource → List ℕ → Option (List ℕ) → List ℕ → Read
asked resource.Status method query body = by_method methods.Get method (without_place query (Ok request.Status))
asked resource.Customers method query body = by_method methods.Get method (customers_from (place_in query))
asked (resource.Lines c) method query body = by_method methods.Get method (lines_from c (place_in query))
asked (resource.Files c) method query body = by_method methods.Get method (files_from c (place_in query))
asked (resource.Outcome key) method query body =
    by_method methods.Get method (without_place query (Ok (request.Outcome key)))
asked (resource.Orders c) method query body =
    by_method methods.Post method (without_place query (body_asks (object_asks (resource.Orders c)) body))
asked (resource.Messages c) method query body =
    by_method methods.Post method (without_place query (body_asks (object_asks (resource.Messages c)) body))
asked (resource.Line id) method query body =
    by_method methods.Put method (without_place query (body_asks (object_asks (resource.Line id)) body))
asked resource.Stop method query body =
    by_method methods.Post method (without_place query (body_asks (object_asks resource.Stop) body))
asked resource.Reload method query body =
    by_method methods.Post method (without_place query (body_asks (object_asks resource.Reload) body))
asked resource.Diff method query body =
    by_method methods.Post method (without_place query (body_asks (object_asks resource.Diff) body))

abbrev pub asked_where : Named → List ℕ → Option (List ℕ) → List ℕ → Read
asked_where (Err why) method query body = Err why
asked_where (Ok r) method query body = asked r method query body

-- What a method, a path, what stands behind it, and a body ask for.
abbrev pub request_of : TableFile → List ℕ → List ℕ → Option (List ℕ) → List ℕ → Read
request_of tables method path query body = asked_where (resource_at tables path) method query body
