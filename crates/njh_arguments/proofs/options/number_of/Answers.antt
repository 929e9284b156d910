use Rattle.std.proofs.Common.{◌≡◌, ◌∙◌, Option, Some, None, option_map, refl, sym, subst, rules}
use Rattle.clap.specs.Matches.{found_of}
use Rattle.clap.specs.Walk.{Text, first_of, rows_of}
use Rattle.njh_arguments.specs.Arguments.{SpellsNumber, Spells}
use Rattle.njh_arguments.proofs.ArgumentLaws.{first_value-rows}
use Rattle.njh_arguments.proofs.options.number_of.Goals as goal

pub returns-in-Ok-clause-asked : goal.returns-in-Ok-clause-asked
returns-in-Ok-clause-asked c =
    let options = c.args.options.now in
    let n = c.in-Ok.number in
    let text = c.in-Some.text.now in
    let found : option_map (λ s. s.now) c.get_str.result ≡ Some text = search rules in
    let named : first_of c.args.name.now (rows_of (found_of options)) ≡ Some text =
    sym (first_value-rows options c.args.name.now) ∙ (sym c.get_str.ensures ∙ found) in
    let spelled : Spells text n = search rules in
    subst (λ (o : Option Text). SpellsNumber o (Some n)) (sym named) spelled

pub returns-in-None-clause-asked : goal.returns-in-None-clause-asked
returns-in-None-clause-asked c =
    let options = c.args.options.now in
    let found : option_map (λ s. s.now) c.get_str.result ≡ None = search rules in
    let unnamed : first_of c.args.name.now (rows_of (found_of options)) ≡ None =
    sym (first_value-rows options c.args.name.now) ∙ (sym c.get_str.ensures ∙ found) in
    subst (λ (o : Option Text). SpellsNumber o None) (sym unnamed) refl
