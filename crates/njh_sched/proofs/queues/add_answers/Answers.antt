use Rattle.std.proofs.Common.{◌≡◌, ◌∙◌, sym, ap, false, true, length, drop, replicate, slice_get, None, arith, rules}
use Rattle.njh_sched.specs.NextBlock.{WaitingAnswer, after_sources, filling}
use Rattle.njh_sched.specs.code.Filling.{filling_where}
use Rattle.njh_sched.proofs.SourceLists.{first_of_queue, empty_queue, full_stays}
use Rattle.njh_sched.proofs.queues.add_answers.Goals as goal

pub returns-then-not-add_answer-clause-source : goal.returns-then-not-add_answer-clause-source
returns-then-not-add_answer-clause-source g c goes s =
    let no_room : c.add_answer.result ≡ false = grind arith in
    c.loop-answer.invariant.source goes s
    ∙ first_of_queue goes (g.L.Outgoing.outlet c.loop-answer.line).answers c.in-Some.answer WaitingAnswer
    (filling c.loop-answer.writer (g.L.Outgoing.outlet c.loop-answer.line) s)
    (filling_where false c.add_answer.new.writer (g.L.Outgoing.outlet c.add_answer.new.line) s)
    (sym c.in-Some.ensures)
    (c.add_answer.ensures.source goes s
    ∙ ap (λ b. filling_where b c.add_answer.new.writer (g.L.Outgoing.outlet c.add_answer.new.line) s) no_room)
    ∙ full_stays goes (replicate (length (drop 1 (g.L.Outgoing.outlet c.loop-answer.line).answers)) WaitingAnswer)
    c.add_answer.new.writer
    (g.L.Outgoing.outlet c.add_answer.new.line) s

pub loop-answer-preserved : goal.loop-answer-preserved
loop-answer-preserved g c =
    let room : c.add_answer.result ≡ true = grind arith in
    record {
      source = λ goes s. c.loop-answer.invariant.source goes s
          ∙ first_of_queue goes (g.L.Outgoing.outlet c.loop-answer.line).answers c.in-Some.answer WaitingAnswer
          (filling c.loop-answer.writer (g.L.Outgoing.outlet c.loop-answer.line) s)
          (filling c.add_answer.new.writer (g.L.Outgoing.outlet c.add_answer.new.line) s)
          (sym c.in-Some.ensures)
          (c.add_answer.ensures.source goes s
          ∙ ap (λ b. filling_where b c.add_answer.new.writer (g.L.Outgoing.outlet c.add_answer.new.line) s) room)
          ∙ ap (λ o. after_sources goes (replicate (length o.answers) WaitingAnswer) (filling c.add_answer.new.writer
          (g.L.Outgoing.outlet c.add_answer.new.line) s))
          (sym (c.add_answer.ensures.outlet room));
      rest = c.add_answer.ensures.rest ∙ c.loop-answer.invariant.rest;
    }

pub returns-clause-source : goal.returns-clause-source
returns-clause-source g c goes s =
    let none : slice_get (g.L.Outgoing.outlet c.loop-answer.line).answers 0 ≡ None = search rules in
    c.loop-answer.invariant.source goes s
    ∙ empty_queue goes (g.L.Outgoing.outlet c.loop-answer.line).answers WaitingAnswer
    (filling c.loop-answer.writer (g.L.Outgoing.outlet c.loop-answer.line) s) none
