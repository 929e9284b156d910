use Rattle.std.proofs.Common.{ap, ◌∙◌}
use Rattle.njh_table.specs.Addresses.{address_of}
use Rattle.njh_table.proofs.AddressLaws.{parsed}
use Rattle.njh_table.proofs.keys.address_of.Goals as goal

pub returns : goal.returns
returns c = c.ok.ensures.value ∙ parsed _ _ c.parse_ascii.ensures ∙ ap address_of c.as_bytes.ensures.value
