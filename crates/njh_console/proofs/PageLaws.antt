-- An answer as it is written.
use Rattle.std.proofs.Common.{◌≡◌, ◌<◌, ◌≤◌, ◌∙◌, List, ℕ, length, refl, sym, ap, subst, arith, ◌+◌, ◌^◌, length-append}
use Rattle.std.specs.Fmt.{decimal}
use Rattle.std.specs.Prelude.{Option, string_bytes}
use Rattle.std.proofs.lemmas.Fmt.{length-decimal-le}
use Rattle.http_server.specs.declared.response.Response.{Response}
use Rattle.http_server.specs.Response.{IsResponse}
use Rattle.json.specs.Print.{escape_byte}
use Rattle.serde_json.specs.Written.{compact_text}
use Rattle.njh_request.specs.declared.methods.Methods.{Methods}
use Rattle.njh_request.specs.declared.refusal.RequestRefusal.TheVariants.{TooLong}
use Rattle.njh_answer.specs.Answers.{refusal_data, Told}
use Rattle.njh_console.specs.Rounds.{IsTextOf, IsToldBy, allowed, fields_told}
use Rattle.njh_console.specs.code.Pages.{IsPageOf}
use Rattle.njh_console.specs.declared.page.Page.{Page}

-- the text is as long as the number is
too_long_text : (since : ℕ) → length (compact_text (refusal_data since TooLong)) ≡ 57 + length (decimal since)
unfolding escape_byte
too_long_text since = simp length-append (omega arith)

-- that an answer would be too long isn't
pub too_long_fits : (since : ℕ) (text : List ℕ) → since < 2 ^ 64 → IsTextOf (refusal_data since TooLong) text
    → length text ≤ 65536
too_long_fits since text small written =
    let few : length (decimal since) ≤ 20 = length-decimal-le 20 since (omega arith) (omega arith) small in
    omega (arith, ap length (written.1 refl), too_long_text since, few)

-- a page that was written tells what it is of
pub page_told : (t : Told) (page : Page) (methods : Option Methods) (text : List ℕ) (response : Response) → IsPageOf t page
    → methods ≡ allowed page.deed → text ≡ string_bytes page.text
    → IsResponse page.status (fields_told methods) text response → IsToldBy t response
page_told t page methods text response of known same written =
    let body : response.body.items ≡ string_bytes page.text = written.body ∙ same in record {
      status_is = written.status ∙ of.status_is;
      headers_are = written.headers ∙ ap fields_told (known ∙ ap allowed of.deed_is);
      body_is = subst (λ (s : List ℕ). IsTextOf t.json s) (sym body) of.text_is;
      body_fits = subst (λ (s : List ℕ). length s ≤ 65536) (sym body) of.text_fits;
    }
