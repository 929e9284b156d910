use Rattle.std.proofs.Common.{ap, ◌∙◌, rules}
use Rattle.std.proofs.lemmas.Fn.{filter_same}
use Rattle.njh_console.specs.Consoles.{ConsoleState}
use Rattle.njh_console.specs.Seats.{staying}
use Rattle.njh_console.proofs.console.Console.let_go.Goals as goal

pub returns-clause-seats : goal.returns-clause-seats
returns-clause-seats g c =
    filter_same _ _ _ (λ x b f' k. search rules) _ _ c.retain.ensures.filtered
    ∙ ap (λ (s : ConsoleState g.row.V.Denot). staying c.args.now s.seats) c.self.view_is
