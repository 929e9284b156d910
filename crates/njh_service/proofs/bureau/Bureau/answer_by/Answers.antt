use Rattle.std.proofs.Common.{◌∙◌, ℕ, Some, ap, map, subst, inr}
use Rattle.std.specs.Prelude.{Option}
use Rattle.njh_console.specs.Consoles.{ConsoleState, IsRoundServed}
use Rattle.njh_table.specs.TableFile.{TableFile}
use Rattle.njh_answer.specs.declared.views.ServiceView.{ServiceView}
use Rattle.njh_service.specs.Bureaus.{view_told, Attended}
use Rattle.njh_revision.specs.Revisions.{opened_tables}
use Rattle.njh_service.proofs.bureau.Bureau.answer_by.Goals as goal

-- what is told of is what is
pub returns-clause-asked : goal.returns-clause-asked
returns-clause-asked g c =
    let V : Type 0 = g.row.N-Visitor.Denot in
    let scene = c.new-situation.result in
    let Tables : Attended V → Option TableFile = λ seen. opened_tables seen.tables in
    let Own : Attended V → ConsoleState V = λ seen. seen.console in
    let Seen = λ (seen : Attended V). seen.exchange.arrivals in
    let Now : Attended V → ℕ = λ seen. seen.exchange.now in
    let served = subst (λ (now : ℕ). IsRoundServed scene now c.args.self.now.console c.serve.new.self c.serve.result)
    (c.now-now.ensures ∙ ap Now c.self.view_is)
    (subst (λ (before : ConsoleState V). IsRoundServed scene c.now-now.result before c.serve.new.self c.serve.result)
    (ap Own c.self.view_is) c.serve.ensures.served) in
    inr (
      scene,
      record {
        parts_are = c.new-situation.ensures.parts;
        tables_are = ap Some c.new-situation.ensures.tables ∙ (c.in-Some.ensures ∙ ap Tables c.self.view_is);
        lines_are = ap (map view_told) c.new-situation.ensures.lines ∙ c.requires.told;
        arrivals_are = c.new-situation.ensures.arrivals ∙ (c.arrivals-arrivals.ensures ∙ ap Seen c.self.view_is);
        clock_is = ap (λ (s : ServiceView). s.clock) c.new-situation.ensures.service ∙ c.requires.clock;
      },
      served,
    )
