use Rattle.std.proofs.Common.{Err, ok_or, ap, ◌∙◌}
use Rattle.njh_table.specs.declared.fault.TableFault.TheVariants.{MissingKey}
use Rattle.njh_table.specs.Places.{at_value}
use Rattle.njh_table.proofs.keys.value_at.Goals as goal

pub returns-in-Some : goal.returns-in-Some
returns-in-Some c = ap (λ o. ok_or o (at_value c.args.part c.args.key MissingKey)) c.in-Some.ensures

pub returns-in-None : goal.returns-in-None
returns-in-None c = ap Err c.fault_at.ensures ∙ ap (λ o. ok_or o (at_value c.args.part c.args.key MissingKey))
    c.in-None.ensures
