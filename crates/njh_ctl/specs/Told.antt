-- What is told: for people, or as it came.
use Rattle.std.specs.Prelude.{◌≡◌, ◌++◌, Bool, true, false, [], ◌∷◌, codes, Some}
use Rattle.json.specs.Json.{member, no_members, object, string}
use Rattle.njh_request.specs.Bodies.{json_of_body}
use Rattle.njh_ctl.specs.Questions.{Text}
use Rattle.njh_ctl.specs.Shown.{newline}

-- what is told so far, and what is still to stand above what is told next
pub record Told : Type 0 where
  pub json : Bool
  pub head : Text
  pub text : Text

-- what stands above a list
abbrev pub headed : Text → Told → Told
headed head t = record t { head = head }

-- a text is told for people; with the first one comes what stands above it
abbrev pub with_told : Text → Told → Told
with_told [] t = t
with_told (c ∷ text) t = record t { head = []; text = t.text ++ (t.head ++ (c ∷ text)) }

-- a text is told as it came, as a line
abbrev pub with_came : Text → Told → Told
with_came [] t = t
with_came (c ∷ body) t = record t { text = t.text ++ ((c ∷ body) ++ newline) }

abbrev pub ToldWhere : Bool → (Text → Type 0) → Text → Told → Told → Type 0
ToldWhere true is body old new = new ≡ with_came body old
ToldWhere false is body old new = (text : Text) × is text × (new ≡ with_told text old)

-- an answer is told: as it came, or a text like this for people
abbrev pub Tells : (Text → Type 0) → Text → Told → Told → Type 0
Tells is body old new = ToldWhere old.json is body old new

-- nothing is told for people
abbrev pub IsNothing : Text → Type 0
IsNothing text = text ≡ []

abbrev pub LineWhere : Bool → Text → Told → Told → Type 0
LineWhere true line old new = (body : Text)
    × (json_of_body body ≡ Some (object (member (codes "told") (string line) no_members))) × (new ≡ with_came body old)
LineWhere false line old new = new ≡ with_told (line ++ newline) old

-- a line of `ctl` itself is told: for people, or as {"told": LINE}
abbrev pub LineTold : Text → Told → Told → Type 0
LineTold line old new = LineWhere old.json line old new
