use Rattle.std.proofs.Common.{Err, ok_or, ap, ◌∙◌}
use Rattle.toml.specs.Data.{as_array, no_items}
use Rattle.njh_table.specs.declared.fault.TableFault.TheVariants.{BadValue}
use Rattle.njh_table.specs.Keys.{value_or}
use Rattle.njh_table.specs.Places.{at_value}
use Rattle.njh_table.proofs.keys.list_or_empty_at.Goals as goal

pub returns-in-None : goal.returns-in-None
returns-in-None c = ap (value_or as_array no_items c.args.part c.args.key) c.in-None.ensures

pub returns-in-None-as_array : goal.returns-in-None-as_array
returns-in-None-as_array c = ap Err c.fault_at.ensures ∙ ap (λ o. ok_or o (at_value c.args.part c.args.key BadValue))
    c.in-None-as_array.ensures ∙ ap (value_or as_array no_items c.args.part c.args.key) c.in-Some.ensures
