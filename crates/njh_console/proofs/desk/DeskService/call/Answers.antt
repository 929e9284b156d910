use Rattle.std.proofs.Common.{◌≡◌, ℕ, rules, subst}
use Rattle.njh_answer.specs.Answers.{Told, told_of}
use Rattle.njh_console.specs.Rounds.{IsToldFor}
use Rattle.njh_console.proofs.PageLaws.{page_told}
use Rattle.njh_console.proofs.desk.DeskService.call.Goals as goal

pub returns-clause-ok : goal.returns-clause-ok
returns-clause-ok c =
    let page = c.in_ok-status.field-0 in
    let told = c.in_ok-status.ensures in
    let deed : page.deed ≡ told.0.deed = told.2.deed_is in
    let known : c.since-since.result ≡ c.args.self.now.scene.service.since = search rules in
    let whole : IsToldFor c.args.self.now.scene.service.since (told_of c.in_ok-answer.answer) told.0 =
    subst (λ (since : ℕ). IsToldFor since (told_of c.in_ok-answer.answer) told.0) known told.1 in (
      told.0,
      subst (λ (t : Told). IsToldFor c.args.self.now.scene.service.since t told.0) c.in_ok-answer.ensures.told whole,
      page_told told.0 page c.allowed.result c.as_str.result.now c.write_text.new.response told.2 c.allowed.ensures
          (search rules)
          c.in_ok-write_text.ensures,
      search rules,
    )
