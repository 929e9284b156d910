use Rattle.std.proofs.Common.{Err, ok_or, ap, sym, ◌∙◌}
use Rattle.njh_table.specs.declared.fault.TableFault.TheVariants.{BadValue}
use Rattle.njh_table.specs.Places.{at_value}
use Rattle.njh_table.proofs.Loops.{goes_on, ends, leaves_seen}
use Rattle.njh_table.proofs.keys.list_at.Goals as goal

pub returns-in_err-value_at : goal.returns-in_err-value_at
returns-in_err-value_at c = leaves_seen _ _ _ _ c.from_residual.ensures.1 (ends _ _ _ (sym c.in_err-value_at.ensures))

pub returns-in-None : goal.returns-in-None
returns-in-None c = ap Err c.fault_at.ensures ∙ ap (λ o. ok_or o (at_value c.args.part c.args.key BadValue))
    c.in-None.ensures ∙ sym (goes_on _ _ _ (sym c.in_ok-value_at.ensures))
