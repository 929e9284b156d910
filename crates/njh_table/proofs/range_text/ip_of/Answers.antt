use Rattle.std.proofs.Common.{ap, ◌∙◌}
use Rattle.njh_table.specs.Addresses.{ip_of}
use Rattle.njh_table.proofs.AddressLaws.{ip_parsed}
use Rattle.njh_table.proofs.range_text.ip_of.Goals as goal

pub returns : goal.returns
returns c = c.ok.ensures.value ∙ ip_parsed _ _ c.parse_ascii.ensures ∙ ap ip_of c.as_bytes.ensures.value
