-- Customers with the same entry.
use Rattle.std.proofs.Common.{◌≡◌, ℕ, List, ap, sym}
use Rattle.std.proofs.lemmas.List.Elements.{same_from_all_zip}
use Rattle.njh_table.specs.Entries.{RouteEntry, route_of}
use Rattle.njh_table.specs.SameEntry.{SameLine, SameRoute, SameEntry}
use Rattle.njh_table.specs.TableFile.{NamedLine, NamedCustomer, entry_of}

same_line : (l m : NamedLine) → SameLine l m → m ≡ l
same_line l m same = λ i. record {
  name = sym same.name i;
  port = sym same.port i;
  peer = sym same.peer i;
  from = sym same.from i;
  protocol = sym same.protocol i;
  up = sym same.up i;
  entry = record {
    node = sym same.node i;
    role = sym same.role i;
    block = sym same.block i;
    streams = sym same.streams i;
    password = sym same.password i;
  };
}

same_route : (r s : RouteEntry) → SameRoute r s → s ≡ r
same_route r s same = λ i. record { node = sym same.node i; line = sym same.line i; second = sym same.second i }

pub same_entry-equal : (c d : NamedCustomer) → SameEntry c d → c ≡ d
same_entry-equal c d same =
    let lines = sym (same_from_all_zip SameLine c.lines d.lines same.lines same_line) in
    let routes = sym (same_from_all_zip SameRoute c.routes d.routes same.routes same_route) in
    λ i. record {
      name = same.name i;
      hub = same.hub i;
      quota = same.quota i;
      files = same.files i;
      lines = lines i;
      routes = routes i;
    }

pub same_entry-route_of : (c d : NamedCustomer) → SameEntry c d
    → (node : List ℕ) → route_of (entry_of c) node ≡ route_of (entry_of d) node
same_entry-route_of c d same node = ap (λ c. route_of (entry_of c) node) (same_entry-equal c d same)
