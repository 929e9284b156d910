use Rattle.std.proofs.Common.{None, refl}
use Rattle.njh_turns.specs.Keeping.{by_order}
use Rattle.njh_turns.proofs.ServiceLaws as laws
use Rattle.njh_turns.proofs.KeepingLaws.{on_err}
use Rattle.njh_turns.proofs.service.order_kept.Goals as goal

pub keep-requires : goal.keep-requires
keep-requires g c = record {
  led = (c.args.hub.now, c.requires.settled, (_, by_order _ refl, c.in-Ok.ensures.step.hub));
}

pub returns-clause-given : goal.returns-clause-given
returns-clause-given g c =
    let did = c.in-Ok.ensures.step in
    laws.was_given (laws.by_order c.args.hub.now c.order.new.self c.args.new.now.customer c.args.new.now.order did.hub
    did.known did.taken)

-- ---- the keeper failed

pub returns-in_err-keep-clause-breaks : goal.returns-in_err-keep-clause-breaks
returns-in_err-keep-clause-breaks g c =
    let did = c.in-Ok.ensures.step in
    on_err c.from_residual.result (laws.given_break (laws.by_order c.args.hub.now c.order.new.self
    c.args.new.now.customer c.args.new.now.order did.hub did.known did.taken)
    (c.in_err-keep.ensures.left c.args.hub.now c.requires.settled (_, by_order _ refl, did.hub)))

-- ---- the order was refused

pub returns-in-Err-clause-given : goal.returns-in-Err-clause-given
returns-in-Err-clause-given g c = (None, c.in-Err.ensures.step.stays.err)
