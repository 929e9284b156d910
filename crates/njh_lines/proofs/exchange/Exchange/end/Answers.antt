use Rattle.std.proofs.Common.{ℕ, ◌∙◌, ◌<◌, List, ap, arith, length, subst, sym}
use Rattle.std.specs.Prelude.{slice_get, IsTrue}
use Rattle.std.proofs.lemmas.Bool.{false≢true}
use Rattle.njh_lines.specs.Attention.{watch_at}
use Rattle.njh_lines.specs.Watching.{Noted}
use Rattle.njh_lines.specs.declared.attention.Watch.{Watch}
use Rattle.njh_lines.proofs.RestLaws.{rested_so, same_here}
use Rattle.njh_lines.proofs.exchange.Exchange.end.Goals as goal

pub rest-requires : goal.rest-requires
rest-requires g c =
    let Due : List Watch → Type 0 = λ watches. IsTrue (watch_at watches c.args.place).is_due in
    subst Due (sym c.apply_session-moment.ensures.watches) (c.is_due.ensures.0 c.if-not-is_due.false)

-- it was flushed, and then its session's will was done with it
pub returns-clause-done : goal.returns-clause-done
returns-clause-done g c = λ due. record {
  out = record {
    middle = c.let_out.new.wire;
    idle = c.let_out.ensures.idle;
    flushed = c.let_out.ensures.flushed;
    left = c.apply_session-moment.ensures.left;
  };
  judged = c.apply_session-moment.ensures.judged;
}

-- it rests until its session asks for it
pub returns-clause-rests : goal.returns-clause-rests
returns-clause-rests g c = λ due line.
    let there : c.args.place < length c.apply_session-moment.new.self.lines =
    omega (arith, line, ap length c.apply_session-moment.ensures.lines) in
    rested_so c.apply_session-moment.new.self c.rest.new.self c.args.place c.args.self.now.now
    c.apply_session-moment.result c.apply_session-moment.new.wire (watch_at c.rest.new.self.watches c.args.place)
    (c.rest.ensures.now ∙ c.apply_session-moment.ensures.now) c.rest.ensures.noted (c.rest.ensures.rests there)
    c.apply_session-moment.ensures.asks

pub returns-clause-idle : goal.returns-clause-idle
returns-clause-idle g c = λ none. absurd (none (c.is_due.ensures.0 c.if-not-is_due.false))

pub returns-clause-others : goal.returns-clause-others
returns-clause-others g c = λ other apart. record {
  noted = ap (λ (xs : List Noted). slice_get xs other) c.rest.ensures.noted
      ∙ c.apply_session-moment.ensures.others other apart;
  watch = c.rest.ensures.others other apart
      ∙ ap (λ (xs : List Watch). watch_at xs other) c.apply_session-moment.ensures.watches;
  refusals = ap (λ (xs : List ℕ). slice_get xs other) c.rest.ensures.refusals
      ∙ c.apply_session-moment.ensures.counts_of_others other apart;
}

-- it isn't looked at
pub returns-then-not-is_due-clause-rests : goal.returns-then-not-is_due-clause-rests
returns-then-not-is_due-clause-rests g c = λ due line.
    absurd (false≢true (sym c.if-not-is_due.true ∙ c.is_due.ensures.1 due))

pub returns-then-not-is_due-clause-idle : goal.returns-then-not-is_due-clause-idle
returns-then-not-is_due-clause-idle g c = λ none. same_here c.args.place c.args.self.now

pub returns-then-not-is_due-clause-others : goal.returns-then-not-is_due-clause-others
returns-then-not-is_due-clause-others g c = λ other apart. same_here other c.args.self.now

pub returns-then-not-is_due-clause-done : goal.returns-then-not-is_due-clause-done
returns-then-not-is_due-clause-done g c = λ due.
    absurd (false≢true (sym c.if-not-is_due.true ∙ c.is_due.ensures.1 due))
