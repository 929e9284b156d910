use Rattle.std.proofs.Common.{◌≡◌, ◌↔◌, ◌∙◌, Option, Some, None, IsTrue, false, codes, option_map, sym, subst, rules}
use Rattle.clap.specs.Matches.{found_of}
use Rattle.clap.specs.Walk.{Text, first_of, rows_of}
use Rattle.njh_arguments.proofs.ArgumentLaws.{first_value-rows, flag_value, spells_word}
use Rattle.njh_arguments.proofs.options.is_set.Goals as goal

pub returns-in-Some : goal.returns-in-Some
returns-in-Some c =
    let options = c.args.options.now in
    let text = c.in-Some.text.now in
    let found : option_map (λ s. s.now) c.get_str.result ≡ Some text = search rules in
    let named : first_of (c.args.flag.now) (rows_of (found_of options)) ≡ Some text =
    sym (first_value-rows options (c.args.flag.now)) ∙ (sym c.get_str.ensures ∙ found) in
    let Is : Option Text → Type 0 = λ o. IsTrue c.eq.result ↔ (o ≡ Some (codes "true")) in
    let said : Is (Some text) = spells_word c.eq.result text (codes "true") c.eq.ensures in record {
      flag = subst Is (sym named) said;
      value = c.eq.ensures ∙ sym (flag_value (c.args.flag.now) (rows_of (found_of options)) (Some text) named);
    }

pub returns-in-None : goal.returns-in-None
returns-in-None c =
    let options = c.args.options.now in
    let found : option_map (λ s. s.now) c.get_str.result ≡ None = search rules in
    let named : first_of (c.args.flag.now) (rows_of (found_of options)) ≡ None =
    sym (first_value-rows options (c.args.flag.now)) ∙ (sym c.get_str.ensures ∙ found) in
    let Is : Option Text → Type 0 = λ o. IsTrue false ↔ (o ≡ Some (codes "true")) in
    let said : Is None = search rules in record {
      flag = subst Is (sym named) said;
      value = sym (flag_value (c.args.flag.now) (rows_of (found_of options)) None named);
    }
