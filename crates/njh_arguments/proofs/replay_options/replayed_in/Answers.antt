use Rattle.std.proofs.Common.{◌∙◌, codes, refl, sym}
use Rattle.njh_arguments.proofs.ArgumentLaws.{first_value-rows}
use Rattle.njh_arguments.proofs.replay_options.replayed_in.Goals as goal

pub returns : goal.returns
returns c =
    let options = c.args.options.now in (
      refl,
      sym (first_value-rows options (codes "tables")) ∙ sym c.get_str.ensures,
      c.is_set.ensures.flag,
    )
