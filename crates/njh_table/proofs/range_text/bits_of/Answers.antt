use Rattle.std.proofs.Common.{ap, sym, ◌∙◌}
use Rattle.njh_table.specs.Keys.{is_decimal}
use Rattle.njh_table.proofs.RangeLaws.{number_read}
use Rattle.njh_table.proofs.range_text.bits_of.Goals as goal

pub returns : goal.returns
returns c =
    c.ok.ensures.value
    ∙ number_read c.args.text.now c.parse.result
    (ap is_decimal (sym c.as_bytes.ensures.value) ∙ sym c.is_decimal.ensures ∙ c.if-not-is_decimal.false)
    c.parse.ensures.value.0
