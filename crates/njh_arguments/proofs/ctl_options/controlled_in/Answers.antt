use Rattle.std.proofs.Common.{◌≡◌, ◌∙◌, Some, None, codes, map, option_map, refl, sym, rules}
use Rattle.clap.specs.Words.{found_of, rows_of}
use Rattle.njh_arguments.specs.Choices.{given_of}
use Rattle.njh_arguments.specs.Commands.{view_of}
use Rattle.njh_arguments.proofs.ArgumentLaws.{all_values-rows, command_is, first_value-rows}
use Rattle.njh_arguments.proofs.ctl_options.controlled_in.Goals as goal

pub returns-in-Some-command_in-clause-asked : goal.returns-in-Some-command_in-clause-asked
returns-in-Some-command_in-clause-asked c =
    let options = c.args.options.now in
    let rows = rows_of (found_of options) in
    let words = map (λ word. word.now) c.in-Some.words.now in
    let all : option_map (λ s. map (λ v. v.now) s.now) c.get_strs.result ≡ Some words = search rules in
    let is : option_map view_of c.command_in.result ≡ Some (view_of c.in-Some-command_in.command) = search rules in (
      refl,
      sym (first_value-rows options (codes "console")) ∙ sym c.get_str.ensures,
      c.is_set.ensures.flag,
      command_is rows words (given_of c.given_in.result) (option_map view_of c.command_in.result)
          (sym (all_values-rows options (codes "command")) ∙ (sym c.get_strs.ensures ∙ all)) c.given_in.ensures
          c.command_in.ensures ∙ is,
    )

pub returns-in-None-clause-refused : goal.returns-in-None-clause-refused
returns-in-None-clause-refused c =
    let options = c.args.options.now in
    let rows = rows_of (found_of options) in
    let words = map (λ word. word.now) c.in-Some.words.now in
    let all : option_map (λ s. map (λ v. v.now) s.now) c.get_strs.result ≡ Some words = search rules in
    let is : option_map view_of c.command_in.result ≡ None = search rules in
    command_is rows words (given_of c.given_in.result) (option_map view_of c.command_in.result)
    (sym (all_values-rows options (codes "command")) ∙ (sym c.get_strs.ensures ∙ all)) c.given_in.ensures
    c.command_in.ensures ∙ is
