use Rattle.std.proofs.Common.{◌∙◌, ap}
use Rattle.njh_lines.specs.Watching.{Watched}
use Rattle.njh_service.specs.Bureaus.{Attended}
use Rattle.njh_service.proofs.BureauLaws.{none_drain}
use Rattle.njh_service.proofs.ClosingLaws.{closed_by}
use Rattle.njh_service.proofs.bureau.Bureau.close_round.Goals as goal

-- no line drains that didn't
pub invariant_of-self : goal.invariant_of-self
invariant_of-self g c = λ is. none_drain c.self.inside.exchange c.note_queues.new.self
    (c.note_queues.ensures ∙ (c.look_at_spool.ensures.same ∙ c.tell_unrouted.ensures.same)) (c.self.invariant is)

pub returns-clause-closed : goal.returns-clause-closed
returns-clause-closed g c =
    let own = c.self.inside in
    let V : Type 0 = g.row.N-Visitor.Denot in
    let before : Attended V = record {
      exchange = c.note_queues.new.self;
      tables = c.tell_unrouted.new.revision;
      presence = c.look_at_spool.new.presence;
      console = own.console;
      clock = own.clock;
      drains = own.drains;
      stop = own.stop;
      is_over = own.is_over;
    } in
    closed_by g.S.TableSource.gives c.args.hub.now c.args.self.now before c.end_round.new.self
    c.serve_console.new.self c.tell_unrouted.new.exchange.now own.presence c.look_at_spool.ensures.looked.0
    (ap (λ (seen : Watched). seen.now) c.tell_unrouted.ensures.same
    ∙ ap (λ (seen : Attended V). seen.exchange.now) c.self.view_is)
    (ap (λ (seen : Attended V). seen.presence) c.self.view_is) c.look_at_spool.ensures.looked.1
    ((c.note_queues.ensures ∙ (c.look_at_spool.ensures.same ∙ c.tell_unrouted.ensures.same))
    ∙ ap (λ (seen : Attended V). seen.exchange) c.self.view_is)
    (ap (λ (seen : Attended V). seen.console) c.self.view_is) (ap (λ (seen : Attended V). seen.stop) c.self.view_is)
    c.end_round.ensures.presence c.end_round.ensures.console c.end_round.ensures.stop c.end_round.ensures.lines
    c.end_round.ensures.over c.serve_console.ensures.served c.serve_console.ensures.over
