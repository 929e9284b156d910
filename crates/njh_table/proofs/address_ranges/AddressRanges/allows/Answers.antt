use Rattle.std.proofs.Common.{◌==◌, ◌||◌, List, length, ap, sym, ◌∙◌}
use Rattle.std.specs.List.{list_any}
use Rattle.njh_table.specs.declared.address_range.AddressRange.{AddressRange}
use Rattle.njh_table.specs.Ranges.{contains}
use Rattle.njh_table.proofs.address_ranges.AddressRanges.allows.Goals as goal

pub returns-else-is_empty : goal.returns-else-is_empty
returns-else-is_empty c =
    let among : List AddressRange → _ = λ ranges. list_any (λ range. contains range c.args.address) ranges in
    let some = ap (λ (ranges : List AddressRange). length ranges == 0) (sym c.as_slice-ranges.ensures)
    ∙ sym c.is_empty.ensures ∙ c.if-is_empty.false in
    c.is_in_any.ensures ∙ ap among c.as_slice-ranges.ensures
    ∙ sym (ap (λ t. t || among c.args.self.now) some)
