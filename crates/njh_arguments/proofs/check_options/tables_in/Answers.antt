use Rattle.std.proofs.Common.{◌≡◌, ◌∙◌, Some, None, codes, option_map, refl, sym, rules}
use Rattle.njh_arguments.proofs.ArgumentLaws.{first_value-rows}
use Rattle.njh_arguments.proofs.check_options.tables_in.Goals as goal

pub returns-in-Some-clause-asked : goal.returns-in-Some-clause-asked
returns-in-Some-clause-asked c =
    let options = c.args.options.now in
    let found : option_map (λ s. s.now) c.get_str.result ≡ Some c.in-Some.tables.now = search rules in
    (refl, sym (first_value-rows options (codes "tables")) ∙ (sym c.get_str.ensures ∙ found), c.requires)

pub returns-in-None-clause-refused : goal.returns-in-None-clause-refused
returns-in-None-clause-refused c =
    let options = c.args.options.now in
    let none : option_map (λ s. s.now) c.get_str.result ≡ None = search rules in
    (sym (first_value-rows options (codes "tables")) ∙ (sym c.get_str.ensures ∙ none), c.requires)
