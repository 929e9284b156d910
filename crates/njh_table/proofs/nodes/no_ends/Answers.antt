use Rattle.std.proofs.lemmas.List.{get_or-replicate}
use Rattle.njh_table.specs.declared.nodes.TheConstants.{BUCKETS}
use Rattle.njh_table.proofs.nodes.no_ends.Goals as goal

pub returns : goal.returns
returns c = λ bucket within. get_or-replicate BUCKETS bucket 0 0 within
