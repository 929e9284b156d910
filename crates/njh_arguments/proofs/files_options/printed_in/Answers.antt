use Rattle.std.proofs.Common.{◌≡◌, ◌∙◌, Some, codes, option_map, refl, sym, rules}
use Rattle.njh_arguments.proofs.ArgumentLaws.{first_value-rows}
use Rattle.njh_arguments.proofs.files_options.printed_in.Goals as goal

pub returns-clause-asked : goal.returns-clause-asked
returns-clause-asked c =
    let options = c.args.options.now in
    let found : option_map (λ s. s.now) c.get_str.result ≡ Some c.in-Some.spool.now = search rules in (
      refl,
      sym (first_value-rows options (codes "spool")) ∙ (sym c.get_str.ensures ∙ found),
      sym (first_value-rows options (codes "customer")) ∙ sym c.get_str-2.ensures,
      sym (first_value-rows options (codes "export")) ∙ sym c.get_str-3.ensures,
      c.in_ok-number.ensures.asked,
      c.is_set.ensures.flag,
      c.requires.into,
      c.requires.compact,
    )
