use Rattle.njh_request.proofs.resource.named.Goals as goal

pub returns-then-eq-clause-there : goal.returns-then-eq-clause-there
returns-then-eq-clause-there c = c.outcome_of.ensures.there c.args.tables.now
