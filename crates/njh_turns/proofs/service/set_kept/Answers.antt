use Rattle.std.proofs.Common.{List, None, Some, refl, subst}
use Rattle.njh_table.specs.declared.new_routes.GivenRoute.{GivenRoute}
use Rattle.njh_hub.specs.declared.event.Event.TheVariants.{Routes}
use Rattle.njh_turns.specs.Keeping.{by_routes}
use Rattle.njh_turns.specs.Service.{WasGiven}
use Rattle.njh_turns.proofs.ServiceLaws as laws
use Rattle.njh_turns.proofs.KeepingLaws.{on_err}
use Rattle.njh_turns.proofs.service.set_kept.Goals as goal

pub keep-requires : goal.keep-requires
keep-requires g c = record { led = (c.args.hub.now, c.requires.settled, (_, by_routes _ refl, c.in-Ok.ensures.hub)) }

pub returns-clause-given : goal.returns-clause-given
returns-clause-given g c =
    let did = c.in-Ok.ensures in
    laws.was_given (laws.by_routes c.args.hub.now c.set_routes.new.self c.args.new.now.customer c.routes.result.now
    did.hub did.known did.checked)

-- the customer was given just the routes that were brought
pub returns-clause-answered : goal.returns-clause-answered
returns-clause-answered g c =
    let did = c.in-Ok.ensures in
    let customer = c.args.new.now.customer in record {
      given = subst
          (λ (routes : List GivenRoute). WasGiven c.args.hub.now (Some (Routes customer routes)) c.set_routes.new.self)
          c.routes.ensures
          (laws.by_routes c.args.hub.now c.set_routes.new.self customer c.routes.result.now did.hub did.known
          did.checked);
      refused = tt;
    }

-- ---- the keeper failed

pub returns-in_err-keep-clause-breaks : goal.returns-in_err-keep-clause-breaks
returns-in_err-keep-clause-breaks g c =
    let did = c.in-Ok.ensures in
    on_err c.from_residual.result (laws.given_break (laws.by_routes c.args.hub.now c.set_routes.new.self
    c.args.new.now.customer c.routes.result.now did.hub did.known did.checked)
    (c.in_err-keep.ensures.left c.args.hub.now c.requires.settled (_, by_routes _ refl, c.in-Ok.ensures.hub)))

-- ---- the routes were refused

pub returns-in-Err-clause-given : goal.returns-in-Err-clause-given
returns-in-Err-clause-given g c = (None, c.in-Err.ensures.stays.err)

pub returns-in-Err-clause-answered : goal.returns-in-Err-clause-answered
returns-in-Err-clause-answered g c = record { given = tt; refused = c.in-Err.ensures.stays.err }
