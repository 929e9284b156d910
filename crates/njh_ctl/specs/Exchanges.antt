-- How a question goes out by HTTP, and how what is answered is read.
use Rattle.std.specs.Prelude.{◌≡◌, ◌⊎◌, ℕ, ◌++◌, List, [], ◌∷◌, codes, drop, length, Option, Some, None, string_bytes}
use Rattle.std.specs.Option.{option_map}
use Rattle.std.specs.Io.KnownBytes.{Appends, Consumes}
use Rattle.http1.specs.Client.{ClientReads, after_end, after_request, new_client, planned_request, with_writing}
use Rattle.http1.specs.Client.{writing}
use Rattle.http1.specs.Conn.{after_data, data_text, finish_text}
use Rattle.http1.specs.Fields.{Header}
use Rattle.http1.specs.declared.client.Client.{Client}
use Rattle.http1.specs.declared.conn.BodySize.{BodySize}
use Rattle.http1.specs.declared.conn.BodySize.TheVariants.{Empty, Known}
use Rattle.http1.specs.declared.conn.Event.{Event}
use Rattle.http1.specs.declared.conn.Event.TheVariants as event
use Rattle.http1.specs.declared.conn.Limits.{Limits}
use Rattle.http1.specs.declared.conn.Progress.{Progress}
use Rattle.httparse.specs.Spans.{span_bytes}
use Rattle.httparse.specs.declared.spans.HeaderSpan.{HeaderSpan}
use Rattle.httparse.specs.declared.spans.ResponseSpans.{ResponseSpans}
use Rattle.percent_encoding.specs.Percent.{percent_decode}
use Rattle.json.specs.Json.{Json}
use Rattle.njh_ctl.specs.Questions.{IsBody, Text, data_of, method_of, path_of, query_of}
use Rattle.njh_ctl.specs.declared.question.Question.{Question}
use Rattle.njh_ctl.specs.declared.request_text.RequestText.{RequestText}
use Rattle.njh_ctl.specs.declared.session.Next.{Next}
use Rattle.njh_ctl.specs.declared.session.Next.TheVariants as next
use Rattle.njh_ctl.specs.declared.session.ReplyText.{ReplyText}

-- ---- what is asked, and what is answered

-- a question by the parts of its request, before escapes
pub record QuestionText : Type 0 where
  pub method : Text
  pub path : Text
  pub query : Option Text
  pub content : Option Json

abbrev pub text_of : Question → QuestionText
text_of q = record { method = method_of q; path = path_of q; query = query_of q; content = data_of q }

-- an answer of HTTP
pub record ReplyView : Type 0 where
  pub status : ℕ
  pub body : Text

-- a request that goes out
pub record RequestView : Type 0 where
  pub method : Text
  pub path : Text
  pub query : Option Text
  pub body : Text

-- a request is this question: its path is read by its escapes, its body as JSON
pub record Puts (q : QuestionText) (r : RequestView) : Type 0 where
  pub method : r.method ≡ q.method
  pub path : percent_decode r.path ≡ q.path
  pub query : r.query ≡ q.query
  pub content : IsBody q.content r.body

abbrev pub request_view : RequestText → RequestView
request_view r = record {
  method = r.method.now;
  path = string_bytes r.path;
  query = option_map string_bytes r.query;
  body = r.body.items;
}

-- ---- bytes that go out

abbrev pub target_of : RequestView → Text
target_of r = elim (r.query) [ None ↦ r.path | Some query ↦ r.path ++ (codes "?" ++ query) ]

abbrev pub host : List Header
host = (codes "host", codes "njehub") ∷ []

abbrev pub size_of : Text → BodySize
size_of [] = Empty
size_of (b ∷ body) = Known (length (b ∷ body))

-- the body, if there is one, and the end
abbrev pub rest_text : Client → Text → Text
rest_text c [] = finish_text (writing c) []
rest_text c (b ∷ body) = data_text (writing c) (b ∷ body) ++ finish_text (after_data (writing c) (length (b ∷ body))) []

abbrev pub after_rest : Client → Text → Client
after_rest c [] = after_end c
after_rest c (b ∷ body) = after_end (with_writing c (after_data (writing c) (length (b ∷ body))))

abbrev pub after_head : Client → RequestView → Client
after_head c r = after_request c r.method (size_of r.body) host

-- the head with the host, and the body with its length
abbrev pub bytes_of : Client → RequestView → Text
bytes_of c r =
    planned_request c r.method (target_of r) (size_of r.body) host ++ rest_text (after_head c r) r.body

abbrev pub client_after : Client → RequestView → Client
client_after c r = after_rest (after_head c r) r.body

-- ---- a connection

-- what was written to it and what has yet to be read, if that is known; and what was read and isn't taken
pub record Link : Type 0 where
  pub written : Option Text
  pub remaining : Option Text
  pub client : Client
  pub unread : Text

-- the request was written, to its end
pub record Sends (old new : Link) (r : RequestView) : Type 0 where
  pub written : Appends old.written new.written (bytes_of old.client r)
  pub client : new.client ≡ client_after old.client r
  pub unread : new.unread ≡ old.unread

abbrev pub status_after : Event ResponseSpans → ℕ → ℕ
status_after event.NeedMore status = status
status_after (event.Head head) status = head.code
status_after (event.Informational head) status = status
status_after (event.Data span) status = status
status_after (event.End count) status = status
status_after event.Paused status = status
status_after event.Upgraded status = status
status_after event.Closed status = status

abbrev pub body_after : Text → Event ResponseSpans → Text → Text
body_after input event.NeedMore body = body
body_after input (event.Head head) body = body
body_after input (event.Informational head) body = body
body_after input (event.Data span) body = body ++ span_bytes input span
body_after input (event.End count) body = body
body_after input event.Paused body = body
body_after input event.Upgraded body = body
body_after input event.Closed body = body

abbrev pub reply_after : Text → Event ResponseSpans → ReplyView → ReplyView
reply_after input e reply =
    record { status = status_after e reply.status; body = body_after input e reply.body }

abbrev pub IsEnd : Event ResponseSpans → Type 0
IsEnd event.NeedMore = ⊥
IsEnd (event.Head head) = ⊥
IsEnd (event.Informational head) = ⊥
IsEnd (event.Data span) = ⊥
IsEnd (event.End count) = Unit {0}
IsEnd event.Paused = ⊥
IsEnd event.Upgraded = ⊥
IsEnd event.Closed = ⊥

abbrev pub no_reply : ReplyView
no_reply = record { status = 0; body = [] }

-- the next part of an answer is read by the rules of HTTP
pub record Takes (old new : Link) (before after : ReplyView) : Type 0 where
  pub spans : List HeaderSpan
  pub read : Progress ResponseSpans
  pub reads : ClientReads old.client old.unread spans new.client read
  pub unread : new.unread ≡ drop read.consumed old.unread
  pub remaining : new.remaining ≡ old.remaining
  pub reply : after ≡ reply_after old.unread read.event before

-- what comes is put behind what isn't taken
pub record Receives (old new : Link) : Type 0 where
  pub came : Text
  pub consumed : Consumes old.remaining new.remaining came
  pub unread : new.unread ≡ old.unread ++ came
  pub client : new.client ≡ old.client

-- parts of an answer are read, one after another
pub data Reads (old : Link) : Link → ReplyView → Type 0 where
  reading_begins : Reads old old no_reply
  reading_comes : (mid new : Link) (reply : ReplyView) → Reads old mid reply → Receives mid new → Reads old new reply
  reading_takes : (mid new : Link) (before after : ReplyView) → Reads old mid before → Takes mid new before after
      → Reads old new after

-- an answer is read, to its end
pub record Hears (old new : Link) (reply : ReplyView) : Type 0 where
  pub before : Link
  pub so_far : ReplyView
  pub reads : Reads old before so_far
  pub last : Takes before new so_far reply
  pub ends : IsEnd last.read.event

-- a request is sent, and its answer is read
pub record IsExchanged (old new : Link) (request : RequestView) (reply : ReplyView) : Type 0 where
  pub sent : Link
  pub sends : Sends old sent request
  pub hears : Hears sent new reply

-- a connection on which nothing was sent or read yet
pub record IsFresh (link : Link) : Type 0 where
  pub limits : Limits
  pub client : link.client ≡ new_client limits
  pub unread : link.unread ≡ []

-- on this connection, or on a fresh one, if those before ended
abbrev pub GoesOn : Link → Link → Type 0
GoesOn old mid = (mid ≡ old) ⊎ IsFresh mid

pub record IsAnswered (old new : Link) (request : RequestView) (reply : ReplyView) : Type 0 where
  pub mid : Link
  pub goes_on : GoesOn old mid
  pub exchanged : IsExchanged mid new request reply

-- a question is asked, and its answer is heard
pub record IsHeard (old new : Link) (q : QuestionText) (reply : ReplyView) : Type 0 where
  pub request : RequestView
  pub puts : Puts q request
  pub answered : IsAnswered old new request reply

-- ---- an answer while it is read

abbrev pub reply_view : ReplyText → ReplyView
reply_view reply = record { status = reply.status; body = reply.body.items }

-- only at the end the answer is whole
abbrev pub IsNext : Next → Event ResponseSpans → Type 0
IsNext next.Look e = Unit {0}
IsNext next.Read e = Unit {0}
IsNext next.Whole e = IsEnd e

pub record TakesNext (old new : Link) (before after : ReplyView) (next : Next) : Type 0 where
  pub takes : Takes old new before after
  pub is_next : IsNext next takes.read.event
