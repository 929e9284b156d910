use Rattle.std.proofs.Common.{Err, ok_or, ap, ◌∙◌}
use Rattle.njh_table.specs.declared.fault.TableFault.TheVariants.{BadValue}
use Rattle.njh_table.specs.Places.{at_part}
use Rattle.njh_table.proofs.keys.keys_in.Goals as goal

pub returns-in-Some : goal.returns-in-Some
returns-in-Some c = ap (λ o. ok_or o (at_part c.args.part BadValue)) c.in-Some.ensures

pub returns-in-None : goal.returns-in-None
returns-in-None c = ap Err c.fault.ensures ∙ ap (λ o. ok_or o (at_part c.args.part BadValue)) c.in-None.ensures
