use Rattle.std.proofs.Common.{◌∙◌, Bool, List, ℕ, refl, subst, sym}
use Rattle.std.proofs.lemmas.Result.{IfOk-weaker}
use Rattle.njh_ctl.proofs.OperatorLaws.{told_only}
use Rattle.njh_ctl.specs.Many.{NameTold, NameTried, ShareTried, entry_view, many_view}
use Rattle.njh_ctl.specs.Orders.{OperatorView}
use Rattle.njh_ctl.specs.Told.{LineTold}
use Rattle.njh_ctl.specs.declared.counts.Outcome.TheVariants as outcome
use Rattle.njh_ctl.proofs.operator.Operator.try_name.Goals as goal

pub returns-then-is_passed_over-clause-done : goal.returns-then-is_passed_over-clause-done
returns-then-is_passed_over-clause-done g c =
    let many = many_view c.args.many in
    let e = entry_view c.args.entry.now in
    let giver = c.self.inside.giver in
    let mid = c.tell_line.new.self in
    subst (λ (old : OperatorView). NameTold many old.giver c.args.at e c.args.share old.talk mid outcome.PassedOver)
    c.self.view_is (record {
      mid = mid;
      line = subst (λ (line : List ℕ). LineTold line c.self.inside.talk.told mid.told)
          (c.as_str.ensures.value ∙ c.in_ok-text.ensures) c.in_ok-tell_line.ensures.done;
      same = told_only c.self.inside.talk mid c.tell_line.ensures.link c.tell_line.ensures.moment;
      tried = subst (λ (b : Bool). ShareTried b many giver c.args.at e mid mid outcome.PassedOver)
          (sym c.if-is_passed_over.true ∙ c.is_passed_over.ensures) (refl, refl);
    })

pub returns-then-many-clause-done : goal.returns-then-many-clause-done
returns-then-many-clause-done g c =
    let many = many_view c.args.many in
    let e = entry_view c.args.entry.now in
    let giver = c.self.inside.giver in
    let mid = c.tell_line.new.self in
    subst (λ (old : OperatorView). NameTold many old.giver c.args.at e c.args.share old.talk mid outcome.Done)
    c.self.view_is (record {
      mid = mid;
      line = subst (λ (line : List ℕ). LineTold line c.self.inside.talk.told mid.told)
          (c.as_str.ensures.value ∙ c.in_ok-text.ensures) c.in_ok-tell_line.ensures.done;
      same = told_only c.self.inside.talk mid c.tell_line.ensures.link c.tell_line.ensures.moment;
      tried = subst (λ (b : Bool). ShareTried b many giver c.args.at e mid mid outcome.Done)
          (sym c.if-is_passed_over.false ∙ c.is_passed_over.ensures)
          (subst (λ (b : Bool). NameTried b many giver c.args.at e mid mid outcome.Done) (sym c.if-many.true) (refl, refl));
    })

pub returns-clause-done : goal.returns-clause-done
returns-clause-done g c =
    let many = many_view c.args.many in
    let e = entry_view c.args.entry.now in
    let giver = c.self.inside.giver in
    let mid = c.tell_line.new.self in
    let new = c.give.new.self in
    IfOk-weaker c.give.result _ _ (λ out given.
    subst (λ (old : OperatorView). NameTold many old.giver c.args.at e c.args.share old.talk new.talk out)
    c.self.view_is (record {
      mid = mid;
      line = subst (λ (line : List ℕ). LineTold line c.self.inside.talk.told mid.told)
          (c.as_str.ensures.value ∙ c.in_ok-text.ensures) c.in_ok-tell_line.ensures.done;
      same = told_only c.self.inside.talk mid c.tell_line.ensures.link c.tell_line.ensures.moment;
      tried = subst (λ (b : Bool). ShareTried b many giver c.args.at e mid new.talk out)
          (sym c.if-is_passed_over.false ∙ c.is_passed_over.ensures)
          (subst (λ (b : Bool). NameTried b many giver c.args.at e mid new.talk out) (sym c.if-many.false) given);
    })) c.give.ensures.done
