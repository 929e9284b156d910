use Rattle.std.proofs.Common.{◌≡◌, ◌∙◌, Some, None, ap, codes, option_map, sym, rules}
use Rattle.clap.specs.Words.{first_of, found_of, rows_of}
use Rattle.njh_arguments.specs.Arguments.{is_json_by}
use Rattle.njh_arguments.proofs.ArgumentLaws.{first_value-rows}
use Rattle.njh_arguments.proofs.serve_options.is_json_in.Goals as goal

pub returns-in-Some-is_json_by-clause-asked : goal.returns-in-Some-is_json_by-clause-asked
returns-in-Some-is_json_by-clause-asked c =
    let options = c.args.options.now in
    let found : option_map (λ s. s.now) c.get_str.result ≡ Some c.in-Some.text.now = search rules in
    let named : first_of (codes "log") (rows_of (found_of options)) ≡ Some c.in-Some.text.now =
    sym (first_value-rows options (codes "log")) ∙ (sym c.get_str.ensures ∙ found) in
    let is : c.is_json_by.result ≡ Some c.in-Some-is_json_by.json = search rules in
    ap is_json_by named ∙ (sym c.is_json_by.ensures ∙ is)

pub returns-in-None-is_json_by-clause-refused : goal.returns-in-None-is_json_by-clause-refused
returns-in-None-is_json_by-clause-refused c =
    let options = c.args.options.now in
    let found : option_map (λ s. s.now) c.get_str.result ≡ Some c.in-Some.text.now = search rules in
    let named : first_of (codes "log") (rows_of (found_of options)) ≡ Some c.in-Some.text.now =
    sym (first_value-rows options (codes "log")) ∙ (sym c.get_str.ensures ∙ found) in
    let is : c.is_json_by.result ≡ None = search rules in
    ap is_json_by named ∙ (sym c.is_json_by.ensures ∙ is)

pub returns-in-None-clause-asked : goal.returns-in-None-clause-asked
returns-in-None-clause-asked c =
    let options = c.args.options.now in
    let found : option_map (λ s. s.now) c.get_str.result ≡ None = search rules in
    let named : first_of (codes "log") (rows_of (found_of options)) ≡ None =
    sym (first_value-rows options (codes "log")) ∙ (sym c.get_str.ensures ∙ found) in
    ap is_json_by named
