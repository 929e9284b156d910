use Rattle.std.proofs.Common.{Err, ok_or, ap, ◌∙◌}
use Rattle.njh_table.specs.declared.fault.TableFault.TheVariants.{BadValue}
use Rattle.njh_table.specs.Keys.{number, value_or}
use Rattle.njh_table.specs.Places.{at_value}
use Rattle.njh_table.proofs.keys.number_or_zero_at.Goals as goal

pub returns-in-None-clause-read : goal.returns-in-None-clause-read
returns-in-None-clause-read c = ap (value_or (number 0 c.args.high) 0 c.args.part c.args.key) c.in-None.ensures

pub returns-in-Some-number_in-clause-read : goal.returns-in-Some-number_in-clause-read
returns-in-Some-number_in-clause-read c =
    ap (λ o. ok_or o (at_value c.args.part c.args.key BadValue)) c.in-Some-number_in.ensures.read
    ∙ ap (value_or (number 0 c.args.high) 0 c.args.part c.args.key) c.in-Some.ensures

pub returns-in-None-number_in-clause-read : goal.returns-in-None-number_in-clause-read
returns-in-None-number_in-clause-read c =
    ap Err c.fault_at.ensures ∙ ap (λ o. ok_or o (at_value c.args.part c.args.key BadValue))
    c.in-None-number_in.ensures.read ∙ ap (value_or (number 0 c.args.high) 0 c.args.part c.args.key) c.in-Some.ensures
