use Rattle.std.proofs.Common.{◌∙◌, ap}
use Rattle.njh_service.specs.Bureaus.{Attended}
use Rattle.njh_lines.specs.Watching.{Watched}
use Rattle.njh_service.proofs.BureauLaws.{asked_as, none_drain}
use Rattle.njh_service.proofs.bureau.Bureau.answer.Goals as goal

-- no line drains that didn't
pub invariant_of-self : goal.invariant_of-self
invariant_of-self g c =
    λ is. none_drain c.self.inside.exchange c.line_views.new.exchange c.line_views.ensures.same (c.self.invariant is)

pub invariant_of-self-in-Err : goal.invariant_of-self-in-Err
invariant_of-self-in-Err g c =
    λ is. none_drain c.self.inside.exchange c.line_views.new.exchange c.line_views.ensures.same (c.self.invariant is)

-- what was asked of these lines
pub returns-in-Ok-clause-asked : goal.returns-in-Ok-clause-asked
returns-in-Ok-clause-asked g c =
    let own = c.self.inside in
    let With : Watched → Attended g.row.N-Visitor.Denot = λ (seen : Watched). record {
      exchange = seen;
      tables = own.revision;
      presence = own.presence;
      console = own.console;
      clock = own.clock;
      drains = own.drains;
      stop = own.stop;
      is_over = own.is_over;
    } in
    asked_as c.args.hub.now (With c.line_views.new.exchange) c.args.self.now c.answer_with.new.self.console
    c.answer_with.result (ap With c.line_views.ensures.same ∙ c.self.view_is) c.answer_with.ensures.asked
