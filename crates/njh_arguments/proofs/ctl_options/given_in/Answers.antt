use Rattle.std.proofs.Common.{◌∙◌, codes}
use Rattle.clap.specs.Words.{found_of, rows_of}
use Rattle.njh_arguments.proofs.ArgumentLaws.{first_value-rows, given_is}
use Rattle.njh_arguments.proofs.ctl_options.given_in.Goals as goal

pub returns : goal.returns
returns c =
    let options = c.args.options.now in
    given_is _ (rows_of (found_of options)) (c.get_str.ensures ∙ first_value-rows options (codes "owner"))
    (c.get_str-2.ensures ∙ first_value-rows options (codes "node"))
    (c.get_str-3.ensures ∙ first_value-rows options (codes "state"))
    (c.get_str-4.ensures ∙ first_value-rows options (codes "kind"))
    (c.get_str-5.ensures ∙ first_value-rows options (codes "older")) c.is_set.ensures.value c.is_set-2.ensures.value
    c.is_set-3.ensures.value
