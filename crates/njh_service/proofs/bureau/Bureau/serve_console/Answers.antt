use Rattle.std.proofs.Common.{◌∙◌, ℕ, ap, subst}
use Rattle.std.specs.Prelude.{Bool, Option}
use Rattle.njh_console.specs.Consoles.{AreHeard, ConsoleState}
use Rattle.njh_console.specs.Orders.{TakenOrders}
use Rattle.njh_console.specs.Seats.{staying}
use Rattle.njh_answer.specs.declared.ticket.Ticket.{Ticket}
use Rattle.njh_request.specs.declared.request.EndMoment.{EndMoment}
use Rattle.njh_service.specs.Bureaus.{Attended}
use Rattle.njh_revision.specs.Revisions.{KnownTables}
use Rattle.njh_lines.specs.Watching.{Watched}
use Rattle.njh_presence.specs.declared.presence.Presence.{Presence}
use Rattle.njh_service.proofs.BureauLaws.{none_drain, obeyed_after, obeyed_as}
use Rattle.njh_service.proofs.bureau.Bureau.serve_console.Goals as goal

-- no line drains that didn't
pub invariant_of-self-2 : goal.invariant_of-self-2
invariant_of-self-2 g c =
    λ is. none_drain c.self-3.inside.exchange c.tell_astray.new.exchange c.tell_astray.ensures (c.self-3.invariant is)

-- one visitor at most was answered, each was written to, and what was ordered of the service itself is done
pub returns-clause-served : goal.returns-clause-served
returns-clause-served g c =
    let V : Type 0 = g.row.N-Visitor.Denot in
    let own = c.self-2.inside in
    let heard : Attended V = record {
      exchange = own.exchange;
      tables = own.revision;
      presence = own.presence;
      console = c.send.new.self;
      clock = own.clock;
      drains = own.drains;
      stop = own.stop;
      is_over = own.is_over;
    } in
    let reread = c.read_tables-left.new.self in
    let acting = c.act-act.new.self in
    let next = c.obey.new.self in
    let what = c.act-act.result in
    let Seen : Attended V → Watched = λ seen. seen.exchange in
    let Stop : Attended V → Option EndMoment = λ seen. seen.stop in
    let Own : Attended V → ConsoleState V = λ seen. seen.console in
    let Tables : Attended V → Option KnownTables = λ seen. seen.tables in
    let Known : Attended V → Option Presence = λ seen. seen.presence in
    let Clock : Attended V → ℕ = λ seen. seen.clock in
    let Now : Attended V → ℕ = λ seen. seen.exchange.now in
    let Orders : ConsoleState V → TakenOrders = λ console. console.orders in
    let console = ap Own c.self-3.view_is ∙ c.obey.ensures.console in record {
      what = c.answer-asked.result;
      answered = c.answer-asked.new.self;
      asked = c.answer-asked.ensures.asked;
      heard = heard;
      sent = subst (λ (before : ConsoleState V). AreHeard before c.send.new.self) (ap Own c.self-2.view_is)
          c.send.ensures.heard;
      second = ap Clock c.self-2.view_is ∙ c.answer-asked.ensures.clock;
      same = (
        ap Seen c.self-2.view_is ∙ c.answer-asked.ensures.same.0,
        ap Tables c.self-2.view_is ∙ c.answer-asked.ensures.tables,
        ap Stop c.self-2.view_is ∙ c.answer-asked.ensures.same.1,
      );
      left = c.read_tables-left.result;
      reread = reread;
      read = c.read_tables-left.ensures.read;
      acting = acting;
      act = what;
      acted = c.act-act.ensures.acted;
      obeyed = obeyed_as what reread next _ (c.tell_astray.ensures ∙ ap Seen c.self-3.view_is)
          (ap Stop c.self-3.view_is)
          (obeyed_after what reread acting next c.act-act.ensures.exchange c.act-act.ensures.stop
          c.obey.ensures.obeyed);
      seats = c.let_go-astray.ensures.seats
          ∙ (ap (λ (now : ℕ). staying now c.self-3.inside.console.seats) (c.now-now.ensures ∙ ap Now c.self.view_is)
          ∙ ap (λ (own : ConsoleState V). staying c.args.self.now.exchange.now own.seats) console);
      orders = c.let_go-astray.ensures.orders ∙ ap Orders console;
      tables = ap Tables c.self-3.view_is ∙ (c.obey.ensures.tables ∙ c.act-act.ensures.tables);
      presence = ap Known c.self-3.view_is ∙ (c.obey.ensures.presence
          ∙ (c.act-act.ensures.presence ∙ (c.read_tables-left.ensures.presence
          ∙ (ap Known c.self-2.view_is ∙ c.answer-asked.ensures.presence))));
    }

pub returns-clause-given : goal.returns-clause-given
returns-clause-given g c =
    let V : Type 0 = g.row.N-Visitor.Denot in
    let Own : Attended V → ConsoleState V = λ seen. seen.console in
    let Given : Attended V → Option Ticket = λ seen. seen.console.orders.given in
    let Orders : ConsoleState V → TakenOrders = λ console. console.orders in
    let console = ap Own c.self-3.view_is ∙ c.obey.ensures.console in
    ap (λ (orders : TakenOrders). orders.given) (c.let_go-astray.ensures.orders ∙ ap Orders console)
    ∙ (c.act-act.ensures.given
    ∙ (c.read_tables-left.ensures.given
    ∙ (c.send.ensures.given ∙ (ap Given c.self-2.view_is ∙ c.answer-asked.ensures.given))))

pub returns-clause-over : goal.returns-clause-over
returns-clause-over g c =
    let Over : Attended g.row.N-Visitor.Denot → Bool = λ seen. seen.is_over in
    ap Over c.self-3.view_is ∙ (c.obey.ensures.over
    ∙ (c.act-act.ensures.over
    ∙ (c.read_tables-left.ensures.over ∙ (ap Over c.self-2.view_is ∙ c.answer-asked.ensures.over))))
