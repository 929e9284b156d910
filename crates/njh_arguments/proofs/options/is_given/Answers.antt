use Rattle.std.proofs.Common.{◌∙◌, ap, sym, is_some}
use Rattle.njh_arguments.proofs.ArgumentLaws.{first_value-rows, is_some-map}
use Rattle.njh_arguments.proofs.options.is_given.Goals as goal

pub returns : goal.returns
returns c =
    let options = c.args.options.now in
    c.is_some.ensures ∙ (sym (is_some-map (λ s. s.now) c.get_str.result)
    ∙ ap is_some (c.get_str.ensures ∙ first_value-rows options c.args.name.now))
