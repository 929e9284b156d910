-- What the console answers in a round: the first request by what there is to be told of, and no other.
use Rattle.std.specs.Prelude.{◌≡◌, ◌⊎◌, ⊤, ℕ, ◌<◌, ◌≤◌, false, List, [], ◌∷◌, codes, length}
use Rattle.std.specs.Prelude.{Option, Some, None, Result, Ok, Err}
use Rattle.serde_json.specs.Data.{Data}
use Rattle.serde_json.specs.Written.{compact_text, has_float, IsInOrder}
use Rattle.http.specs.declared.request.Request.{Request}
use Rattle.http.specs.Request.{head_of, body_of}
use Rattle.http_uri.specs.Uri.{uri_path, uri_query}
use Rattle.http_server.specs.declared.response.Response.{Response}
use Rattle.http1.specs.Fields.{Header}
use Rattle.http_server.specs.Exchange.{Call}
use Rattle.http_server.specs.Response.{fields_of}
use Rattle.njh_request.specs.Refusals.{allow_of, allowed_by}
use Rattle.njh_request.specs.Requests.{request_of}
use Rattle.njh_request.specs.declared.methods.Methods.{Methods}
use Rattle.njh_request.specs.declared.refusal.RequestRefusal.{RequestRefusal}
use Rattle.njh_request.specs.declared.refusal.RequestRefusal.TheVariants.{Busy, TooLong}
use Rattle.njh_request.specs.declared.request.Request as asked
use Rattle.njh_answer.specs.Answers.{Told, answer_of, refuses}
use Rattle.njh_answer.specs.declared.answering.Deed.{Deed}
use Rattle.njh_answer.specs.declared.answering.Deed.TheVariants as deed
use Rattle.njh_console.specs.Orders.{TakenOrders}
use Rattle.njh_console.specs.Scenes.{Scene}

-- what a request of HTTP asks for
abbrev pub asked_by : Scene → Request (List ℕ) → Result asked.Request RequestRefusal
asked_by s r =
    request_of s.tables (head_of r).method (uri_path (head_of r).uri) (uri_query (head_of r).uri) (body_of r)

abbrev pub reply_to : Scene → TakenOrders → Result asked.Request RequestRefusal → Told
reply_to s o (Ok what) = answer_of what s.parts s.tables s.service s.lines s.arrivals o.records o.next
reply_to s o (Err why) = refuses s.service.since why

-- what is answered to a request
abbrev pub told_to : Scene → TakenOrders → Request (List ℕ) → Told
told_to s o r = reply_to s o (asked_by s r)

-- a text of this JSON; there is one only, unless the JSON has a number with a fraction
abbrev pub IsTextOf : Data → List ℕ → Type 0
IsTextOf json text = IsInOrder text json × (has_float json ≡ false → text ≡ compact_text json)

-- a text of this JSON is longer than an answer may be
abbrev pub IsTooLong : Data → Type 0
IsTooLong json = (text : List ℕ) × IsTextOf json text × (65536 < length text)

-- by which methods a resource is asked, where the method was wrong
abbrev pub allow_field : Option Methods → List Header
allow_field None = []
allow_field (Some methods) = (codes "allow", allow_of methods) ∷ []

abbrev pub allowed : Deed → Option Methods
allowed (deed.Refused why) = allowed_by why
allowed deed.Nothing = None
allowed (deed.Order ticket work) = None

-- the fields of an answer's head, but for those that HTTP adds
abbrev pub fields_told : Option Methods → List Header
fields_told methods = (codes "content-type", codes "application/json") ∷ allow_field methods

-- The response has this status, and its body is a text of this JSON, of at most 65,536 bytes. By which methods it is to
-- be asked stands in its head, if the request's wasn't one of them.
pub record IsToldBy (t : Told) (r : Response) : Type 0 where
  pub status_is : r.status ≡ t.status
  pub headers_are : fields_of r ≡ fields_told (allowed t.deed)
  pub body_is : IsTextOf t.json r.body.items
  pub body_fits : length r.body.items ≤ 65536

-- what is told in place of an answer: the answer itself, or that it would be too long
abbrev pub IsToldFor : ℕ → Told → Told → Type 0
IsToldFor since whole t = (t ≡ whole) ⊎ (IsTooLong whole.json × (t ≡ refuses since TooLong))

-- each is told to ask again
abbrev pub AreToldToWait : ℕ → List Call → Type 0
AreToldToWait since [] = ⊤
AreToldToWait since (c ∷ calls) =
    ((t : Told) × IsToldFor since (refuses since Busy) t × IsToldBy t c.1) × AreToldToWait since calls

-- Of the calls of a round the first is answered, and what it orders is taken; one behind it would be told to ask again.
abbrev pub AreAnswered : Scene → TakenOrders → List Call → Deed → Type 0
AreAnswered s o [] what = what ≡ deed.Nothing
AreAnswered s o (c ∷ calls) what =
    (t : Told) × IsToldFor s.service.since (told_to s o c.0) t × IsToldBy t c.1 × (what ≡ t.deed)
    × AreToldToWait s.service.since calls
