use Rattle.std.proofs.Common.{◌∙◌, List, ap, subst, sym, length, min}
use Rattle.njh_service.specs.Bureaus.{Attended}
use Rattle.njh_lines.specs.LineStates.{NoneDrains}
use Rattle.njh_lines.specs.Watching.{IsRoundBegun, ServedLine, Watched}
use Rattle.njh_service.proofs.bureau.Bureau.begin_round.Goals as goal

-- no line drains that didn't
pub invariant_of-self : goal.invariant_of-self
invariant_of-self g c = λ is.
    subst (λ (lines : List ServedLine). NoneDrains lines)
    (sym (ap (λ (seen : Watched). seen.lines) c.utc.ensures ∙ c.begin_round.ensures.lines)) (c.self.invariant is)

-- visitors leave the lines as they are
pub returns-clause-opened : goal.returns-clause-opened
returns-clause-opened g c =
    let A : Type 0 = Attended g.row.N-Visitor.Denot in
    let Exchange : A → Watched = λ seen. seen.exchange in
    let Lines : A → List ServedLine = λ seen. seen.exchange.lines in
    record {
      begun = subst (λ (now : Watched). IsRoundBegun (min (length c.args.self.now.exchange.lines) (length c.args.wires.now))
          c.args.self.now.exchange now) (sym (c.receive.ensures.exchange ∙ c.utc.ensures))
          (subst (λ (was : Watched). IsRoundBegun (min (length was.lines) (length c.args.wires.now)) was
          c.begin_round.new.self) (ap Exchange c.self.view_is) c.begin_round.ensures.begun);
      lines = ap (λ (seen : Watched). seen.lines) c.receive.ensures.exchange
          ∙ (ap (λ (seen : Watched). seen.lines) c.utc.ensures
          ∙ (c.begin_round.ensures.lines ∙ ap Lines c.self.view_is));
      orders = c.receive.ensures.orders ∙ ap (λ (seen : A). seen.console.orders) c.self.view_is;
      stop = c.receive.ensures.stop ∙ ap (λ (seen : A). seen.stop) c.self.view_is;
    }
