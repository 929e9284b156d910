use Rattle.njh_command.proofs.RerouteNodes.{nodes_are_names}
use Rattle.njh_command.proofs.laws.reroutes_name_nodes.Goals as goal

pub returns : goal.returns
returns c = nodes_are_names
