use Rattle.std.proofs.Common.{length, sym, ap, ◌∙◌}
use Rattle.std.proofs.lemmas.List.{length-map}
use Rattle.njh_sites.specs.declared.endpoints.Endpoint.{Endpoint}
use Rattle.njh_service.proofs.EndpointLaws.{opened_lines}
use Rattle.njh_service.proofs.service.Service.new.Goals as goal

pub invariant_of-result : goal.invariant_of-result
invariant_of-result g c =
    let lines = c.in-Ok.ensures.lines in
    let counted = length-map c.args.endpoints.now (λ (endpoint : Endpoint). endpoint.line) in
    let many = c.requires.same ∙ sym (ap length lines ∙ counted) in
    let served = c.in-Ok.rounds.lines in
    (many, opened_lines c.args.hub c.args.endpoints.now served lines c.requires.known)
