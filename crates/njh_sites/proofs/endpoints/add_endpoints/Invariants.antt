use Rattle.std.proofs.Common.{◌≡◌, ◌++◌, take}
use Rattle.std.specs.Prelude.{All}
use Rattle.std.specs.List.{filter_map}
use Rattle.njh_table.specs.TableFile.{HasLine}
use Rattle.njh_sites.specs.Endpoints.{endpoint_of}
use Rattle.njh_sites.proofs.endpoints.add_endpoints.Given as goal

abbrev pub invariant-loop-line : goal.invariant-loop-line
invariant-loop-line l = record {
  added : l.endpoints.items ≡ l.initial.endpoints.items ++ filter_map (endpoint_of l.tables)
      (take l.line-index l.line-items);
  known : All (λ endpoint. HasLine l.tables endpoint.line) l.initial.endpoints.items
      → All (λ endpoint. HasLine l.tables endpoint.line) l.endpoints.items;
}
