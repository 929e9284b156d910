use Rattle.njh_table.proofs.AddressLaws.{address_of-spelled, ip_of-spelled}
use Rattle.njh_table.proofs.laws.addresses_are_of_the_grammar.Goals as goal

pub returns-clause-spelled : goal.returns-clause-spelled
returns-clause-spelled c = address_of-spelled

pub returns-clause-bare : goal.returns-clause-bare
returns-clause-bare c = ip_of-spelled
