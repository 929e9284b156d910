use Rattle.std.proofs.Common.{ap, sym, ◌∙◌, true, false}
use Rattle.toml.specs.View.{view, items_view}
use Rattle.njh_table.specs.Keys.{may_have, ranges_in}
use Rattle.njh_table.proofs.RangeLaws.{from_counted}
use Rattle.njh_table.proofs.range_text.from_in.Goals as goal

pub returns-then-may_have : goal.returns-then-may_have
returns-then-may_have c =
    let values = c.in_ok-values.values.now in
    let may = ap (may_have c.args.port) (sym (c.len.ensures ∙ values.ok.0)) ∙ sym c.may_have.ensures
    ∙ c.if-may_have.true in
    c.ranges_in.ensures ∙ ap (λ vs. ranges_in (items_view vs)) c.as_slice.ensures.value
    ∙ sym (from_counted c.args.port (view c.args.value.now) values.items c.in_ok-values.ensures true may)

pub returns-else-may_have : goal.returns-else-may_have
returns-else-may_have c =
    let values = c.in_ok-values.values.now in
    let may = ap (may_have c.args.port) (sym (c.len.ensures ∙ values.ok.0)) ∙ sym c.may_have.ensures
    ∙ c.if-may_have.false in
    sym (from_counted c.args.port (view c.args.value.now) values.items c.in_ok-values.ensures false may)
