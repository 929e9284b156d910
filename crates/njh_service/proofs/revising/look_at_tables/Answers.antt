use Rattle.std.proofs.Common.{inr}
use Rattle.njh_service.proofs.revising.look_at_tables.Goals as goal

-- the lines are as the tables say that were read
pub returns-clause-lines : goal.returns-clause-lines
returns-clause-lines g c = inr (c.in-Some.outcome, c.take_outcome.ensures.lines)
