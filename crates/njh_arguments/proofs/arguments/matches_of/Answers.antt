use Rattle.std.proofs.Common.{◌∙◌, map, ap, subst}
use Rattle.std.proofs.lemmas.Result.{IfOk-weaker}
use Rattle.clap.specs.Faults.{fault_of, is_simple_and_free}
use Rattle.clap.specs.Kinds.{FailsBy}
use Rattle.clap.specs.Simple.{App, is_simple, subcommand_of}
use Rattle.njh_arguments.proofs.ArgumentLaws.{is_simple_program, is_free_program, FailsBy-ok, FailsBy-err}
use Rattle.njh_arguments.proofs.arguments.matches_of.Goals as goal

pub returns-clause-asked : goal.returns-clause-asked
returns-clause-asked g c =
    let arguments = map g.S.AsStr.text c.args.arguments.now in
    let ours = c.requires in
    IfOk-weaker c.try_get_matches_from_mut.result _ _
    (λ found parsed. (parsed.2 (ap is_simple ours ∙ is_simple_program)).1
    ∙ ap (λ (a : App). subcommand_of a arguments) ours)
    c.try_get_matches_from_mut.ensures.ok

pub returns-clause-taken : goal.returns-clause-taken
returns-clause-taken g c =
    let arguments = map g.S.AsStr.text c.args.arguments.now in
    let fails = c.try_get_matches_from_mut.ensures.kinds (ap is_simple_and_free c.requires ∙ is_free_program) in
    FailsBy-ok _ _ (subst (λ (a : App). FailsBy (fault_of a arguments) c.try_get_matches_from_mut.result) c.requires
    fails)

pub returns-clause-refused : goal.returns-clause-refused
returns-clause-refused g c =
    let arguments = map g.S.AsStr.text c.args.arguments.now in
    let fails = c.try_get_matches_from_mut.ensures.kinds (ap is_simple_and_free c.requires ∙ is_free_program) in
    FailsBy-err _ _ (subst (λ (a : App). FailsBy (fault_of a arguments) c.try_get_matches_from_mut.result) c.requires
    fails)
