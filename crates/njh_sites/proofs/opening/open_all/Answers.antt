use Rattle.std.proofs.Common.{ℕ, map, ap, ◌∙◌}
use Rattle.std.proofs.lemmas.List.{take_all}
use Rattle.std.specs.declared.net.ip_addr.IpAddr.{IpAddr}
use Rattle.std.specs.declared.net.socket_addr.SocketAddr.{SocketAddr}
use Rattle.njh_sites.specs.declared.endpoints.Endpoint.{Endpoint}
use Rattle.njh_sites.specs.declared.site.Site.{Site}
use Rattle.njh_sites.specs.Opened.{site_on}
use Rattle.njh_sites.proofs.OpenedLaws.{made_more}
use Rattle.njh_sites.proofs.opening.open_all.Goals as goal

-- a line more has its site, which has begun
pub loop-place-preserved : goal.loop-place-preserved
loop-place-preserved g c =
    let on : Endpoint → Site (IpAddr × ℕ) SocketAddr = λ e. site_on c.args.listening.address e.site in record {
      opened = made_more on c.args.endpoints.now c.loop-place.place _ _ _ c.loop-place-test.true
          c.loop-place.invariant.opened c.in-Ok.ensures.opened;
      begun = c.in-Ok.ensures.begun c.loop-place.invariant.begun;
    }

-- all lines have theirs
pub returns-clause-opened : goal.returns-clause-opened
returns-clause-opened g c =
    let on : Endpoint → Site (IpAddr × ℕ) SocketAddr = λ e. site_on c.args.listening.address e.site in
    c.loop-place.invariant.opened
    ∙ ap (map on) (take_all c.loop-place.place c.args.endpoints.now c.loop-place-test.false)
