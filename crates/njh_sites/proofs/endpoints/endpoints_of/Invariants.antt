use Rattle.std.proofs.Common.{◌≡◌, take}
use Rattle.std.specs.Prelude.{All}
use Rattle.std.specs.List.{flat_map}
use Rattle.njh_table.specs.TableFile.{HasLine}
use Rattle.njh_sites.specs.Endpoints.{endpoints_in}
use Rattle.njh_sites.proofs.endpoints.endpoints_of.Given as goal

abbrev pub invariant-loop-customer : goal.invariant-loop-customer
invariant-loop-customer l = record {
  added : l.endpoints.items ≡ flat_map (endpoints_in l.tables) (take l.customer-index l.customer-items);
  known : All (λ endpoint. HasLine l.tables endpoint.line) l.endpoints.items;
}
