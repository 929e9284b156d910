use Rattle.std.proofs.Common.{◌≡◌, map, take}
use Rattle.std.specs.Prelude.{All}
use Rattle.njh_sites.specs.Doors.{IsBegun}
use Rattle.njh_sites.specs.Opened.{site_on, site_opened}
use Rattle.njh_sites.proofs.opening.open_all.Given as goal

-- the lines so far have their sites, and these have begun
abbrev pub invariant-loop-place : goal.invariant-loop-place
invariant-loop-place g l = record {
  opened : map (site_opened g.N.Network.address_of) l.sites.items
      ≡ map (λ endpoint. site_on l.fn.listening.address endpoint.site) (take l.place l.endpoints);
  begun : All (IsBegun l.fn.listening.strict l.fn.now) l.sites.items;
}
