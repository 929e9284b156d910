use Rattle.std.proofs.Common.{◌++◌, ◌∙◌, ap, map, subst, sym, List}
use Rattle.std.specs.Prelude.{IfOk}
use Rattle.std.proofs.lemmas.Result.{IfOk-weaker}
use Rattle.njh_sites.specs.Opened.{IsApart}
use Rattle.njh_sites.specs.declared.endpoints.Endpoint.{Endpoint}
use Rattle.njh_service.specs.Bureaus.{Attended}
use Rattle.njh_service.specs.Serving.{HaveProtocols, IsOpenedOn}
use Rattle.njh_lines.specs.Watching.{served_on, ServedLine}
use Rattle.njh_service.proofs.serving.service_on.Goals as goal

-- no two that were opened have the same port
pub service_of-requires-clause-apart : goal.service_of-requires-clause-apart
service_of-requires-clause-apart g c = subst IsApart (sym c.deref.ensures.value) c.in-Ok.ensures.apart

-- the endpoints that were opened are those of the tables
pub returns-in-Ok-clause-opened : goal.returns-in-Ok-clause-opened
returns-in-Ok-clause-opened g c =
    subst (λ (endpoints : List Endpoint). IfOk c.service_of.result
    (λ service. IsOpenedOn (g.D.Depot.opens c.args.depot service.depot c.args.tables) endpoints service))
    (c.deref.ensures.value ∙ c.in-Ok.ensures.all) c.service_of.ensures.opened

-- and the attendant's are these
pub returns-in-Ok-clause-attended : goal.returns-in-Ok-clause-attended
returns-in-Ok-clause-attended g c =
    let Of : List Endpoint → List ServedLine = λ endpoints.
    c.args.bureau.exchange.lines ++ map (served_on c.args.tables c.args.listening.address) endpoints in
    let Lines : Attended g.row.N-Visitor.Denot → List ServedLine = λ seen. seen.exchange.lines in
    let lines = c.in-Ok.ensures.served ∙ ap Of c.in-Ok.ensures.all in
    IfOk-weaker c.service_of.result _ _ (λ service same. ap Lines same ∙ lines)
    c.service_of.ensures.attended

-- and so are the protocols of its wires
pub returns-in-Ok-clause-protocols : goal.returns-in-Ok-clause-protocols
returns-in-Ok-clause-protocols g c =
    subst (λ (endpoints : List Endpoint). IfOk c.service_of.result
    (λ service. HaveProtocols endpoints service.wires))
    (c.deref.ensures.value ∙ c.in-Ok.ensures.all) c.service_of.ensures.protocols
