use Rattle.std.proofs.Common.{◌≡◌, ◌∙◌, sym, ap, false, true, length, drop, replicate, slice_get, Some, None, rules}
use Rattle.std.proofs.Common.{arith}
use Rattle.njh_sched.specs.NextBlock.{WaitingMessage, after_sources, filling, without_message}
use Rattle.njh_sched.specs.code.Filling.{filling_where, message_gone_where}
use Rattle.njh_sched.proofs.SourceLists.{first_of_queue, empty_queue, full_stays}
use Rattle.njh_sched.proofs.queues.add_all_messages.Goals as goal

pub returns-then-not-add_message-clause-source : goal.returns-then-not-add_message-clause-source
returns-then-not-add_message-clause-source g c goes s =
    let no_room : c.add_message.result ≡ false = grind arith in
    let waits : slice_get (g.L.Outgoing.outlet c.loop-message.line).messages 0 ≡ Some c.deref.result.now =
    search rules in
    c.loop-message.invariant.source goes s
    ∙ first_of_queue goes (g.L.Outgoing.outlet c.loop-message.line).messages c.deref.result.now WaitingMessage
    (filling c.loop-message.writer (g.L.Outgoing.outlet c.loop-message.line) s)
    (filling_where false c.add_message.new.writer (g.L.Outgoing.outlet c.loop-message.line) s) waits
    (c.add_message.ensures goes (g.L.Outgoing.outlet c.loop-message.line) s waits
    ∙ ap (λ b. filling_where b c.add_message.new.writer (message_gone_where b (g.L.Outgoing.outlet c.loop-message.line))
    s) no_room)
    ∙ full_stays goes (replicate (length (drop 1 (g.L.Outgoing.outlet c.loop-message.line).messages)) WaitingMessage)
    c.add_message.new.writer
    (g.L.Outgoing.outlet c.loop-message.line) s

pub loop-message-preserved : goal.loop-message-preserved
loop-message-preserved g c =
    let room : c.add_message.result ≡ true = grind arith in
    let waits : slice_get (g.L.Outgoing.outlet c.loop-message.line).messages 0 ≡ Some c.deref.result.now =
    search rules in
    record {
      source = λ goes s. c.loop-message.invariant.source goes s
          ∙ first_of_queue goes (g.L.Outgoing.outlet c.loop-message.line).messages c.deref.result.now WaitingMessage
          (filling c.loop-message.writer (g.L.Outgoing.outlet c.loop-message.line) s)
          (filling c.add_message.new.writer (without_message (g.L.Outgoing.outlet c.loop-message.line)) s) waits
          (c.add_message.ensures goes (g.L.Outgoing.outlet c.loop-message.line) s waits
          ∙ ap (λ b. filling_where b c.add_message.new.writer
          (message_gone_where b (g.L.Outgoing.outlet c.loop-message.line)) s) room)
          ∙ ap (λ o. after_sources goes (replicate (length o.messages) WaitingMessage)
          (filling c.add_message.new.writer o s))
          (sym c.pop_message.ensures.outlet);
      rest = c.pop_message.ensures.rest ∙ c.loop-message.invariant.rest;
    }

pub returns-clause-source : goal.returns-clause-source
returns-clause-source g c goes s =
    let none : slice_get (g.L.Outgoing.outlet c.loop-message.line).messages 0 ≡ None = search rules in
    c.loop-message.invariant.source goes s
    ∙ empty_queue goes (g.L.Outgoing.outlet c.loop-message.line).messages WaitingMessage
    (filling c.loop-message.writer (g.L.Outgoing.outlet c.loop-message.line) s) none
