use Rattle.std.proofs.Common.{◌≡◌, ◌+◌, ◌++◌, drop, length, map, take}
use Rattle.std.specs.Vec.Iter.{into_iter_items, into_iter_len}
use Rattle.std.specs.declared.net.ip_addr.IpAddr.{IpAddr}
use Rattle.njh_sites.specs.Opened.{site_on, site_opened}
use Rattle.njh_lines.specs.Watching.{served_on}
use Rattle.njh_service.proofs.open_lines.add_lines.Given as goal

-- the lines so far are served, each at its site, and the others' sites are left
abbrev pub invariant-loop-endpoint : goal.invariant-loop-endpoint
invariant-loop-endpoint g l = record {
  rest : into_iter_items l.left ≡ drop l.endpoint-index l.fn.sites.items;
  many : l.endpoint-index + into_iter_len l.left ≡ length l.fn.sites.items;
  served : (address : IpAddr) → map (site_opened g.N.Network.address_of) l.fn.sites.items
      ≡ map (λ endpoint. site_on address endpoint.site) l.endpoints
      → l.exchange.lines ≡ l.fn.exchange.lines ++ map (served_on l.tables address)
      (take l.endpoint-index l.endpoints);
}
