use Rattle.njh_answer.proofs.AddressLaws.{mapped_by}
use Rattle.njh_answer.proofs.addresses.mapped.Goals as goal

pub returns : goal.returns
returns c =
    mapped_by c.to_ipv4_mapped.result c.args.ip.now c.to_ipv4_mapped.ensures.found c.to_ipv4_mapped.ensures.value
