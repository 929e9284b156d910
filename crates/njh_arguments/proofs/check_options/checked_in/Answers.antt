use Rattle.std.proofs.Common.{◌≡◌, ◌∙◌, Some, None, codes, option_map, refl, sym, rules}
use Rattle.njh_arguments.proofs.ArgumentLaws.{first_value-rows}
use Rattle.njh_arguments.proofs.check_options.checked_in.Goals as goal

pub returns-clause-asked : goal.returns-clause-asked
returns-clause-asked c =
    let options = c.args.options.now in
    let found : option_map (λ s. s.now) c.get_str.result ≡ Some c.in-Some.file.now = search rules in (
      refl,
      sym (first_value-rows options (codes "tables")) ∙ sym c.get_str-2.ensures,
      sym (first_value-rows options (codes "script")) ∙ (sym c.get_str.ensures ∙ found),
    )

pub tables_in-requires : goal.tables_in-requires
tables_in-requires c =
    let options = c.args.options.now in
    let none : option_map (λ s. s.now) c.get_str.result ≡ None = search rules in
    sym (first_value-rows options (codes "script")) ∙ (sym c.get_str.ensures ∙ none)
