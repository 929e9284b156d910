use Rattle.std.proofs.Common.{ℕ, List, ◌++◌, ap, map, sym, ◌∙◌}
use Rattle.std.specs.declared.net.ip_addr.IpAddr.{IpAddr}
use Rattle.std.specs.declared.net.socket_addr.SocketAddr.{SocketAddr}
use Rattle.njh_sites.specs.Opened.{site_on}
use Rattle.njh_lines.specs.Watching.{served_on, ServedLine}
use Rattle.njh_sites.specs.declared.endpoints.Endpoint.{Endpoint}
use Rattle.njh_sites.specs.declared.site.Site.{Site}
use Rattle.njh_service.proofs.open_lines.open_lines.Goals as goal

-- the lines are added to those before, each at its site
pub returns-clause-served : goal.returns-clause-served
returns-clause-served g c =
    let on = c.args.listening.address in
    let sites : List Endpoint → List (Site (IpAddr × ℕ) SocketAddr) = λ es. map (λ (e : Endpoint). site_on on e.site) es
    in
    let lines : List Endpoint → List ServedLine = λ es. c.args.exchange.now.lines
    ++ map (served_on c.args.tables.now on) es in
    let same = c.deref.ensures.value ∙ sym c.deref-2.ensures.value in
    c.in_ok-add_lines.ensures on (c.in_ok-sites.ensures.opened ∙ ap sites same)
    ∙ (ap (λ (before : List ServedLine). before ++ map (served_on c.args.tables.now on) c.deref-2.result.now)
    (c.sites_on.ensures.lines ∙ c.know_customers.ensures.lines)
    ∙ ap lines c.deref-2.ensures.value)
