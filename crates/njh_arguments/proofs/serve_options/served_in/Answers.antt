use Rattle.std.proofs.Common.{◌≡◌, ◌∙◌, Some, codes, option_map, refl, sym, rules}
use Rattle.njh_arguments.proofs.ArgumentLaws.{first_value-rows}
use Rattle.njh_arguments.proofs.serve_options.served_in.Goals as goal

pub returns-clause-asked : goal.returns-clause-asked
returns-clause-asked c =
    let options = c.args.options.now in
    let found : option_map (λ s. s.now) c.get_str.result ≡ Some c.in-Some.tables.now = search rules in (
      refl,
      sym (first_value-rows options (codes "tables")) ∙ (sym c.get_str.ensures ∙ found),
      c.in_ok-turns.ensures.asked,
      c.in_ok-listen.ensures.asked,
      c.is_set.ensures.flag,
      c.is_set-2.ensures.flag,
      sym (first_value-rows options (codes "spool")) ∙ sym c.get_str-2.ensures,
      sym (first_value-rows options (codes "console")) ∙ sym c.get_str-3.ensures,
      c.in_ok-json.ensures.asked,
    )
