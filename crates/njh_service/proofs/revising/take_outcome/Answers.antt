use Rattle.std.proofs.Common.{ap}
use Rattle.njh_lines.specs.Watching.{Watched}
use Rattle.njh_service.proofs.RevisingLaws.{made_by}
use Rattle.njh_service.proofs.revising.take_outcome.Goals as goal

-- the lines are as the tables say that were read
pub returns-clause-lines : goal.returns-clause-lines
returns-clause-lines g c =
    made_by c.args.revision.now c.args.outcome.now c.args.exchange.now.lines c.write.new.self.lines
    c.take_from.new.exchange.lines c.tell_taken.new.exchange.lines
    (ap (λ (seen : Watched). seen.lines) c.write.ensures)
    (ap (λ (seen : Watched). seen.lines) c.tell_taken.ensures) c.take_from.ensures.lines
