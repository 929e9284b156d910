use Rattle.std.proofs.Common.{List, ap, sym, ◌∙◌}
use Rattle.std.proofs.lemmas.Result.{IfOk-weaker}
use Rattle.njh_hub.specs.WholeHub.{Part}
use Rattle.njh_turns.specs.Keeping.{IsSettled}
use Rattle.njh_service.specs.Bureaus.{Attended}
use Rattle.njh_service.proofs.EndpointLaws.{opened_endpoints}
use Rattle.njh_service.proofs.ServiceLaws.{opened_on, settled_on}
use Rattle.njh_service.proofs.serving.service_of.Goals as goal

-- the lines of tables are lines of the hub that is opened for them
pub service_over-requires : goal.service_over-requires
service_over-requires g c =
    opened_endpoints c.args.tables c.in-Ok.hub c.args.endpoints.now c.in-Ok.ensures.lines c.requires.known

pub returns-in-Ok-clause-opened : goal.returns-in-Ok-clause-opened
returns-in-Ok-clause-opened g c =
    opened_on (λ depot (parts : List Part). g.D.Depot.opens c.args.depot depot c.args.tables parts) c.in-Ok.hub
    c.open.new.self c.args.endpoints.now c.service_over.result c.requires.apart c.in-Ok.ensures.opened
    c.service_over.ensures.hub c.service_over.ensures.depot c.service_over.ensures.lines c.service_over.ensures.calm

pub returns-in-Ok-clause-settled : goal.returns-in-Ok-clause-settled
returns-in-Ok-clause-settled g c =
    settled_on (λ depot (parts : List Part). IsSettled g.D.Keeper.says depot parts) c.in-Ok.hub c.open.new.self
    c.service_over.result c.in-Ok.ensures.settled c.service_over.ensures.hub c.service_over.ensures.depot

-- the attendant knows when files came, and what was told leaves it as it was
pub returns-in-Ok-clause-attended : goal.returns-in-Ok-clause-attended
returns-in-Ok-clause-attended g c =
    let A : Type 0 = Attended g.row.N-Visitor.Denot in
    let Knowing : A → A = λ seen. record c.args.bureau {
      exchange = record c.args.bureau.exchange { arrivals = seen.exchange.arrivals };
    } in
    let told = c.tell_ready.ensures ∙ c.tell_opened.ensures in
    IfOk-weaker c.service_over.result _ _
    (λ service same. same ∙ told ∙ c.know_arrivals.ensures ∙ ap Knowing (sym (same ∙ told)))
    c.service_over.ensures.attended
