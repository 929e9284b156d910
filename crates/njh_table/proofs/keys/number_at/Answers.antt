use Rattle.std.proofs.Common.{Err, ok_or, ap, sym, ◌∙◌}
use Rattle.njh_table.specs.declared.fault.TableFault.TheVariants.{BadValue}
use Rattle.njh_table.specs.Places.{at_value}
use Rattle.njh_table.proofs.Loops.{goes_on, ends, leaves}
use Rattle.njh_table.proofs.keys.number_at.Goals as goal

pub returns-in_err-value_at-clause-read : goal.returns-in_err-value_at-clause-read
returns-in_err-value_at-clause-read c = leaves _ _ _ c.from_residual.ensures.1
    (ends _ _ _ (sym c.in_err-value_at.ensures))

pub returns-in-Some-clause-read : goal.returns-in-Some-clause-read
returns-in-Some-clause-read c = ap (λ o. ok_or o (at_value c.args.part c.args.key BadValue)) c.in-Some.ensures.read
    ∙ sym (goes_on _ _ _ (sym c.in_ok-value_at.ensures))

pub returns-in-None-clause-read : goal.returns-in-None-clause-read
returns-in-None-clause-read c = ap Err c.fault_at.ensures ∙ ap (λ o. ok_or o (at_value c.args.part c.args.key BadValue))
    c.in-None.ensures.read ∙ sym (goes_on _ _ _ (sym c.in_ok-value_at.ensures))
