use Rattle.std.proofs.Common.{◌≡◌, ℕ, Some, sym, ap, subst, ◌∙◌}
use Rattle.njh_spool.specs.Spools.{spool_at}
use Rattle.njh_table.specs.declared.LineId.{LineId}
use Rattle.njh_sched.specs.NextBlock.{after_candidate, asking, filling}
use Rattle.njh_sched.specs.code.Filling.{filling_where}
use Rattle.njh_sched.specs.code.FileCursor.{files_of, goes_of}
use Rattle.njh_sched.proofs.CursorLaws.{customer_is, sends_one}
use Rattle.njh_sched.proofs.RequestLaws.{asks, not_asked, nothing_to_ask}
use Rattle.njh_sched.proofs.requests.add_request.Goals as goal

pub returns-then-not-may_ask-clause-source : goal.returns-then-not-may_ask-clause-source
returns-then-not-may_ask-clause-source g c =
    not_asked (goes_of c.args.cursor.now) c.args.stream c.args.writer.now (g.L.Outgoing.outlet c.args.line.now)
    (files_of c.args.cursor.now c.args.spool.now) (sym c.may_ask.ensures ∙ c.if-not-may_ask.true)

pub returns-in-Some-clause-source : goal.returns-in-Some-clause-source
returns-in-Some-clause-source g c =
    asks (goes_of c.args.cursor.now) c.args.stream c.args.writer.now (g.L.Outgoing.outlet c.args.line.now)
    (files_of c.args.cursor.now c.args.spool.now) c.kind.result c.oldest.result c.in-Some.file
    (sym c.may_ask.ensures ∙ c.if-not-may_ask.false) c.kind.ensures c.oldest.ensures.oldest c.in-Some.is
    ∙ subst (λ (m : ℕ). after_candidate
    (Some (asking (g.L.Outgoing.outlet c.args.line.now) (spool_at m c.args.spool.now) c.args.stream c.in-Some.file))
    (filling c.args.writer.now (g.L.Outgoing.outlet c.args.line.now) (spool_at m c.args.spool.now))
    ≡ filling_where c.ask.result c.ask.new.writer (g.L.Outgoing.outlet c.ask.new.line) (spool_at m c.ask.new.spool))
    (ap (λ (i : LineId). i.customer) c.id-customer.ensures
    ∙ customer_is c.args.cursor.now c.oldest.new.self c.oldest.ensures.cursor.line)
    c.ask.ensures.candidate

pub returns-in-Some-clause-cursor : goal.returns-in-Some-clause-cursor
returns-in-Some-clause-cursor g c room = record {
  line = c.oldest.ensures.cursor.line;
  over = sends_one c.oldest.new.self c.id-customer.result.customer c.in-Some.file c.args.spool.now c.ask.new.spool
      (ap (λ (i : LineId). i.customer) c.id-customer.ensures) c.oldest.ensures.cursor.over c.ask.ensures.spool
      (c.ask.ensures.state room);
}

pub returns-in-None-clause-source : goal.returns-in-None-clause-source
returns-in-None-clause-source g c =
    nothing_to_ask (goes_of c.args.cursor.now) c.args.stream c.args.writer.now (g.L.Outgoing.outlet c.args.line.now)
    (files_of c.args.cursor.now c.args.spool.now) c.kind.result c.oldest.result
    (sym c.may_ask.ensures ∙ c.if-not-may_ask.false) c.kind.ensures c.oldest.ensures.oldest c.in-None.is
