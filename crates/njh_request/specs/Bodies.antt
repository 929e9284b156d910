-- What a request's body holds: an object of JSON, and of its members what each has to be.
use Rattle.std.specs.Prelude.{ℕ, Bool, false, List, replicate, cond, Option, Some, None, option_and_then, ok_or}
use Rattle.std.specs.Prelude.{Result, Ok, Err}
use Rattle.std.specs.Result.{result_ok, result_map_both}
use Rattle.std.specs.Str.{is_utf8}
use Rattle.json.specs.Find.{as_bool, as_str, get}
use Rattle.json.specs.Json.{Json, document}
use Rattle.njh_ebcdic.specs.Reading.{name_of_text}
use Rattle.njh_ebcdic.specs.Users.{User}
use Rattle.njh_request.specs.Fields.{field_of_text, text_of_characters}
use Rattle.njh_request.specs.FilePaths.{path_of_text}
use Rattle.njh_request.specs.Members.{name_of, odd_in}
use Rattle.njh_request.specs.declared.member.Form.TheVariants as form
use Rattle.njh_request.specs.declared.member.Member.{Member}
use Rattle.njh_request.specs.declared.member.Member.TheVariants as member
use Rattle.njh_request.specs.declared.refusal.RequestRefusal.{RequestRefusal}
use Rattle.njh_request.specs.declared.refusal.RequestRefusal.TheVariants.{MissingMember, BadMember}

-- the JSON that bytes are
abbrev pub json_of_body : List ℕ → Option Json
json_of_body bytes = cond (is_utf8 bytes) (document bytes) None

-- what something is if no fault is known of it
abbrev pub unless : {A : Type 0} → Option RequestRefusal → Result A RequestRefusal → Result A RequestRefusal
unless None r = r
unless (Some why) r = Err why

abbrev pub member_in : Member → Json → Option Json
member_in m j = get (name_of m) j

-- a member that has to be there, by what it has to be
abbrev pub wanted : {A : Type 0} → (Json → Option A) → Member → Option Json → Result A RequestRefusal
wanted is m None = Err (MissingMember m)
wanted is m (Some j) = ok_or (is j) (BadMember m)

abbrev pub text_in : Member → Json → Result (List ℕ) RequestRefusal
text_in m j = wanted (λ d. option_and_then text_of_characters (as_str d)) m (member_in m j)

-- ---- files

abbrev pub path_of : Json → Option (List ℕ)
path_of j = option_and_then path_of_text (as_str j)

-- the file that is compared
abbrev pub path_in : Json → Result (List ℕ) RequestRefusal
path_in j = wanted path_of member.File (member_in member.File j)

-- ---- users

abbrev pub node_of : Json → Option (List ℕ)
node_of j = option_and_then (λ text. result_ok (name_of_text text)) (as_str j)

abbrev pub node_in : Json → Result (List ℕ) RequestRefusal
node_in j = wanted node_of member.Node (member_in member.Node j)

-- blanks if no user is named
abbrev pub field_where : Option Json → Result (List ℕ) RequestRefusal
field_where None = Ok (replicate 8 0x40)
field_where (Some j) = ok_or (option_and_then field_of_text (as_str j)) (BadMember member.User)

abbrev pub field_in : Json → Result (List ℕ) RequestRefusal
field_in j = field_where (member_in member.User j)

abbrev pub user_by : Result (List ℕ) RequestRefusal → Result (List ℕ) RequestRefusal → Result User RequestRefusal
user_by (Err why) field = Err why
user_by (Ok node) (Err why) = Err why
user_by (Ok node) (Ok field) = Ok (record { node = node; user = field })

-- the user that a member is: {"node": "LYON", "user": "ANNA"}
abbrev pub user_of : Member → Json → Result User RequestRefusal
user_of m j = unless (odd_in (BadMember m) form.User j) (user_by (node_in j) (field_in j))

-- who is told something
abbrev pub whom_where : Option Json → Result User RequestRefusal
whom_where None = Err (MissingMember member.To)
whom_where (Some j) = user_of member.To j

abbrev pub whom_in : Json → Result User RequestRefusal
whom_in j = whom_where (member_in member.To j)

-- in whose name something is ordered, if that is said
abbrev pub owner_where : Option Json → Result (Option User) RequestRefusal
owner_where None = Ok None
owner_where (Some j) = result_map_both Some (λ why. why) (user_of member.Owner j)

abbrev pub owner_in : Json → Result (Option User) RequestRefusal
owner_in j = owner_where (member_in member.Owner j)

-- ---- moments

abbrev pub flag_where : Option Json → Result Bool RequestRefusal
flag_where None = Ok false
flag_where (Some j) = ok_or (as_bool j) (BadMember member.WhenIdle)

-- whether something is to wait until nothing is on the streams
abbrev pub waits_in : Json → Result Bool RequestRefusal
waits_in j = flag_where (member_in member.WhenIdle j)

-- how a line is to be
abbrev pub state_in : Json → Result (List ℕ) RequestRefusal
state_in j = wanted as_str member.State (member_in member.State j)
