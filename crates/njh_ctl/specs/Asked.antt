-- What is asked of a console one after another, and what is understood.
use Rattle.std.specs.Prelude.{◌≡◌, ℕ, ◌++◌, false, List, [], ◌∷◌, codes, cond, nat_lt, Option, Some, None}
use Rattle.std.specs.Prelude.{option_and_then, string_bytes}
use Rattle.serde_json.specs.Data.{Data}
use Rattle.serde_json.specs.View.{items_of, view}
use Rattle.json.specs.Json.{Json}
use Rattle.njh_ctl.specs.Answers.{count_in, json_in, list_in, next_in, string_in}
use Rattle.njh_ctl.specs.Exchanges.{IsHeard, Link, QuestionText, ReplyView, reply_view}
use Rattle.njh_ctl.specs.Lists.{Customers, Files, Lines, ListView, Messages, key_of}
use Rattle.njh_ctl.specs.Questions.{Text, customer_path, from_text, outcome_path}
use Rattle.njh_ctl.specs.declared.asker.Answer.{Answer}
use Rattle.njh_ctl.specs.declared.asker.Asked.{Asked}
use Rattle.njh_ctl.specs.declared.asker.Asked.TheVariants as asked
use Rattle.njh_ctl.specs.declared.reply.Refusal.{Refusal}
use Rattle.njh_ctl.specs.declared.reply.Heard.{Heard}
use Rattle.njh_ctl.specs.declared.reply.Heard.TheVariants as heard

-- ---- questions

abbrev pub asks : Text → Option Text → QuestionText
asks path query = record { method = codes "GET"; path = path; query = query; content = None }

abbrev pub orders : Text → Text → Json → QuestionText
orders method path content = record { method = method; path = path; query = None; content = Some content }

abbrev pub status_asked : QuestionText
status_asked = asks (codes "/v1/status") None

-- what came of the order of a name or a number
abbrev pub outcome_asked : Text → QuestionText
outcome_asked key = asks (outcome_path key) None

abbrev pub path_of_list : ListView → Text
path_of_list Customers = codes "/v1/customers"
path_of_list (Lines customer line) = customer_path customer (codes "lines")
path_of_list (Messages customer line) = customer_path customer (codes "lines")
path_of_list (Files customer wanted) = customer_path customer (codes "files")

abbrev pub part_asked : ListView → ℕ → QuestionText
part_asked list from = asks (path_of_list list) (Some (from_text from))

-- ---- answers

-- what an answer that is no refusal says
abbrev pub value_of : ReplyView → Option Data
value_of reply = cond (nat_lt reply.status 300) (json_in reply.body) None

-- why a refusal refuses
abbrev pub sentence_of : ReplyView → Option Text
sentence_of reply =
    cond (nat_lt reply.status 300) None (option_and_then (string_in (codes "error")) (json_in reply.body))

pub record AnswerView : Type 0 where
  pub reply : ReplyView
  pub value : Data

abbrev pub answer_view : Answer → AnswerView
answer_view answer = record { reply = reply_view answer.reply; value = view answer.value }

-- a refusal: its status, since when its service runs, if it says so, and why
pub record RefusalView : Type 0 where
  pub status : ℕ
  pub since : Option ℕ
  pub sentence : Text

abbrev pub refusal_view : Refusal → RefusalView
refusal_view refusal =
    record { status = refusal.status; since = refusal.since; sentence = string_bytes refusal.sentence }

-- an answer of this status that says this is a refusal
pub record IsRefusalIn (status : ℕ) (d : Data) (r : RefusalView) : Type 0 where
  pub status_is : r.status ≡ status
  pub since_is : r.since ≡ count_in (codes "since") d
  pub sentence_is : string_in (codes "error") d ≡ Some r.sentence

pub record IsRefusal (reply : ReplyView) (r : RefusalView) : Type 0 where
  pub value : Data
  pub found : json_in reply.body ≡ Some value
  pub refuses : nat_lt reply.status 300 ≡ false
  pub is_so : IsRefusalIn reply.status value r

-- what a reply says
abbrev pub IsUnderstood : ReplyView → Heard → Type 0
IsUnderstood reply (heard.Value value) = value_of reply ≡ Some (view value)
IsUnderstood reply (heard.Refused refusal) = IsRefusal reply (refusal_view refusal)

-- a question is asked, and what its answer says is understood
pub record Understands (q : QuestionText) (old new : Link) (answer : AnswerView) : Type 0 where
  pub heard : IsHeard old new q answer.reply
  pub value : value_of answer.reply ≡ Some answer.value

-- or it is refused so
pub record IsRefusedBy (q : QuestionText) (old new : Link) (r : RefusalView) : Type 0 where
  pub reply : ReplyView
  pub heard : IsHeard old new q reply
  pub why : IsRefusal reply r

-- what a reply is: an answer, or a refusal
abbrev pub IsAskedOf : ReplyView → Asked → Type 0
IsAskedOf reply (asked.Answered answer) =
    (reply_view answer.reply ≡ reply) × (value_of reply ≡ Some (view answer.value))
IsAskedOf reply (asked.Refused refusal) = IsRefusal reply (refusal_view refusal)

abbrev pub IsAskedSo : QuestionText → Link → Link → Asked → Type 0
IsAskedSo q old new (asked.Answered answer) = Understands q old new (answer_view answer)
IsAskedSo q old new (asked.Refused refusal) = IsRefusedBy q old new (refusal_view refusal)

-- ---- items that are gathered

-- each of these is one of those
pub data AreItems {A : Type 0} (is : Data → A → Type 0) : List Data → List A → Type 0 where
  no_item : AreItems is [] []
  one_item_more : (ds : List Data) (xs : List A) (d : Data) (x : A) → AreItems is ds xs → is d x
      → AreItems is (ds ++ (d ∷ [])) (xs ++ (x ∷ []))

-- one is put behind those so far
pub record AddsOne {A : Type 0} (is : Data → A → Type 0) (d : Data) (before after : List A) : Type 0 where
  pub one : A
  pub one_is : is d one
  pub all : after ≡ before ++ (one ∷ [])

-- those of these are put behind those so far
pub record AddsEach {A : Type 0} (is : Data → A → Type 0) (ds : List Data) (before after : List A) : Type 0 where
  pub more : List A
  pub are : AreItems is ds more
  pub all : after ≡ before ++ more

-- a part of a list is asked for, and what its items are is put behind what was gathered so far
pub record PartGathered {A : Type 0} (list : ListView) (is : Data → A → Type 0) (from : ℕ) (old new : Link)
    (before after : List A) (next : Option ℕ) : Type 0 where
  pub part : AnswerView
  pub items : List Data
  pub understood : Understands (part_asked list from) old new part
  pub found : list_in (key_of list) part.value ≡ Some (items_of items)
  pub adds : AddsEach is items before after
  pub goes_on : next_in part.value ≡ Some next

-- a list is gathered part by part, up to a place; none if it has ended
pub data Gathered {A : Type 0} (list : ListView) (is : Data → A → Type 0) (old : Link) : Link → List A → Option ℕ
    → Type 0 where
  gathering_begins : Gathered list is old old [] (Some 0)
  gathering_goes_on : (mid new : Link) (before after : List A) (from : ℕ) (next : Option ℕ)
      → Gathered list is old mid before (Some from) → PartGathered list is from mid new before after next
      → Gathered list is old new after next

-- a customer by its name
abbrev pub IsName : Data → Text → Type 0
IsName d name = string_in (codes "name") d ≡ Some name
