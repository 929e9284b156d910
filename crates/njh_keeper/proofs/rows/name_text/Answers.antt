use Rattle.njh_keeper.proofs.Words
use Words.{◌≡◌, ℕ, Bool, true, false, List, bytes_eq, string_bytes, Result, Ok, Err, IfOk, refl, ap, subst, ◌∙◌}
use Words.{IfOk-weaker, bytes_eq-Decides, NameFault, is_name, is_name_of}
use Rattle.{std.specs.Prelude.IsTrue, njh_ebcdic.proofs.ReadBack.name_of_text-shown_text}
use Rattle.njh_keeper.specs.code.Shown.{field_text}
use Rattle.njh_keeper.proofs.rows.name_text.Goals as goal

pub returns : goal.returns
returns c =
    IfOk-weaker c.field_text.result (λ text. string_bytes text ≡ field_text c.args.name)
    (λ text. is_name_of (string_bytes text) c.args.name ≡ true) (λ text is. reads (string_bytes text) is)
    (subst (λ (field : List ℕ). IfOk c.field_text.result (λ text. string_bytes text ≡ field_text field))
    c.bytes.ensures.same c.field_text.ensures)
  where
    reads : (text : List ℕ) → text ≡ field_text c.args.name → is_name_of text c.args.name ≡ true
    reads text is =
        ap (λ (t : List ℕ). is_name_of t c.args.name) is ∙ ap (λ (r : Result (List ℕ) NameFault). elim r as (λ _. Bool)
        [ Ok read ↦ bytes_eq read c.args.name | Err fault ↦ false ]) (name_of_text-shown_text c.args.name
        (subst (λ (field : List ℕ). IsTrue (is_name field)) c.bytes.ensures.same c.bytes.ensures.name))
        ∙ (bytes_eq-Decides c.args.name c.args.name).1 refl
