use Rattle.std.proofs.Common.{subst, ◌≡◌, List, ℕ, true, ◌∙◌}
use Rattle.std.specs.Prelude.{string_bytes, option_map}
use Rattle.std.specs.Str.{is_utf8}
use Rattle.njh_ctl.proofs.ReadBack.{read_back}
use Rattle.njh_ctl.proofs.request_text.RequestText.of.Goals as goal

pub returns-clause-meant : goal.returns-clause-meant
returns-clause-meant c tables =
    read_back tables c.args.question.now c.method.result.now (string_bytes c.in_ok-path.path)
    (option_map string_bytes c.in_ok-query.query) c.in_ok-body.body.items c.requires c.method.ensures
    (c.in_ok-path.ensures.plain ∙ c.as_str.ensures.value ∙ c.in_ok-plain.ensures)
    (subst (λ (path : List ℕ). is_utf8 path ≡ true) (c.as_str.ensures.value ∙ c.in_ok-plain.ensures)
    c.escaped.ensures.text)
    c.in_ok-query.ensures c.in_ok-body.ensures

pub returns-clause-puts : goal.returns-clause-puts
returns-clause-puts c = record {
  method = c.method.ensures;
  path = c.in_ok-path.ensures.plain ∙ c.as_str.ensures.value ∙ c.in_ok-plain.ensures;
  query = c.in_ok-query.ensures;
  content = c.in_ok-body.ensures;
}
