-- On which terms something is ordered: a name under which it is remembered, the last second in which it may be carried
-- out, and who orders it. Each may be left out.
use Rattle.std.specs.Prelude.{ℕ, ◌&&◌, List, length, cond, not, nat_le, Option, Some, None, option_and_then}
use Rattle.std.specs.Prelude.{Result, Ok, Err}
use Rattle.json.specs.Find.{as_number, as_str}
use Rattle.json.specs.Json.{Json}
use Rattle.njh_ebcdic.specs.Names.{is_empty}
use Rattle.njh_request.specs.Bodies.{member_in}
use Rattle.njh_request.specs.OrderNames.{order_name_of}
use Rattle.njh_request.specs.Paths.{number_in}
use Rattle.njh_request.specs.Quotes.{quote_of}
use Rattle.njh_request.specs.declared.member.Member.{Member}
use Rattle.njh_request.specs.declared.member.Member.TheVariants as member
use Rattle.njh_request.specs.declared.refusal.RequestRefusal.{RequestRefusal}
use Rattle.njh_request.specs.declared.refusal.RequestRefusal.TheVariants.{BadMember}
use Rattle.njh_request.specs.declared.terms.Terms.{Terms}

-- what a member that is there is
abbrev pub found : {A : Type 0} → Member → Option A → Result (Option A) RequestRefusal
found m None = Err (BadMember m)
found m (Some a) = Ok (Some a)

-- a member that may be left out
abbrev pub optional : {A : Type 0} → (Json → Option A) → Member → Option Json → Result (Option A) RequestRefusal
optional is m None = Ok None
optional is m (Some j) = found m (is j)

abbrev pub name_of_order : Json → Option (List ℕ)
name_of_order j = option_and_then order_name_of (as_str j)

abbrev pub name_in : Json → Result (Option (List ℕ)) RequestRefusal
name_in j = optional name_of_order member.Name (member_in member.Name j)

-- a second since the beginning of 1970, of 1 to 18 digits
abbrev pub moment_of : Json → Option ℕ
moment_of j = option_and_then number_in (as_number j)

abbrev pub until_in : Json → Result (Option ℕ) RequestRefusal
until_in j = optional moment_of member.Until (member_in member.Until j)

-- a text of 1 to 48 bytes
abbrev pub giver_where : List ℕ → Option (List ℕ)
giver_where text = cond (not (is_empty text) && nat_le (length text) 48) (Some (quote_of text)) None

abbrev pub giver_of : Json → Option (List ℕ)
giver_of j = option_and_then giver_where (as_str j)

abbrev pub by_in : Json → Result (Option (List ℕ)) RequestRefusal
by_in j = optional giver_of member.By (member_in member.By j)

abbrev pub terms_by : Result (Option (List ℕ)) RequestRefusal → Result (Option ℕ) RequestRefusal
    → Result (Option (List ℕ)) RequestRefusal → Result Terms RequestRefusal
terms_by (Err why) until by = Err why
terms_by (Ok name) (Err why) by = Err why
terms_by (Ok name) (Ok until) (Err why) = Err why
terms_by (Ok name) (Ok until) (Ok by) = Ok (record { name = name; until = until; by = by })

-- {"name": "anna-7", "until": 1790650004, "by": "anna"}
abbrev pub terms_in : Json → Result Terms RequestRefusal
terms_in j = terms_by (name_in j) (until_in j) (by_in j)
