-- A body is read as what it was written of.
use Rattle.std.proofs.Common.{◌≡◌, ◌∙◌, ℕ, ◌≤◌, Bool, true, List, Option, Some, None, cond, ap, lit≤, Result, Ok, Err, IfOk}
use Rattle.std.proofs.lemmas.Str.{is_utf8-from_IsUtf8}
use Rattle.std.specs.Str.{IsUtf8, is_utf8}
use Rattle.json.specs.Json.{Json, document, max_depth}
use Rattle.json.specs.Print.{IsNumber}
use Rattle.json.specs.Tree.{HasNumbers, depth}
use Rattle.njh_arguments.specs.Choices.{OwnerView}
use Rattle.njh_request.specs.Bodies.{json_of_body}
use Rattle.njh_ctl.specs.Questions.{StatedView, command_data}

where_text : (is_text : Bool) (found : Option Json) (j : Json) → is_text ≡ true → found ≡ Some j
    → cond is_text found None ≡ Some j
where_text is_text found j text is = ap (λ b. cond b found None) text ∙ is

pub body_read : (bytes : List ℕ) (j : Json) → is_utf8 bytes ≡ true → document bytes ≡ Some j
    → json_of_body bytes ≡ Some j
body_read bytes j text is = where_text (is_utf8 bytes) (document bytes) j text is

pub body_by : {V E : Type 0} (r : Result V E) (items : V → List ℕ) (j : Json) → depth j ≤ max_depth
    → IfOk r (λ b. IsUtf8 (items b)) → IfOk r (λ b. depth j ≤ max_depth → document (items b) ≡ Some j)
    → IfOk r (λ b. json_of_body (items b) ≡ Some j)
body_by (Ok b) items j shallow text reads =
    body_read (items b) j (is_utf8-from_IsUtf8 (items b) text) (reads shallow)
body_by (Err e) items j shallow text reads = tt

-- a command has one number, and is nested by two
pub command_numbers : (text : List ℕ) (owner : Option OwnerView) (stated : StatedView) → IsNumber stated.until
    → HasNumbers (command_data text owner stated)
command_numbers text None stated number = (tt, (tt, (number, (tt, tt))))
command_numbers text (Some owner) stated number = (tt, ((tt, (tt, tt)), (tt, (number, (tt, tt)))))

pub command_depth : (text : List ℕ) (owner : Option OwnerView) (stated : StatedView)
    → depth (command_data text owner stated) ≤ max_depth
command_depth text None stated = lit≤ tt
command_depth text (Some owner) stated = lit≤ tt
