use Rattle.std.proofs.Common.{subst}
use Rattle.njh_console.specs.Consoles.{AreServed, ConsoleState}
use Rattle.njh_console.proofs.RoundLaws.{served_at}
use Rattle.njh_console.proofs.console.Console.answer.Goals as goal

pub returns-clause-seats : goal.returns-clause-seats
returns-clause-seats g c =
    let after = c.answer_first.new.seats.items in
    let what = c.into_taken.result in
    subst (λ (before : ConsoleState g.row.V.Denot).
    AreServed c.args.situation.now c.args.now before.orders before.seats after what) c.self.view_is
    (served_at c.args.situation.now c.args.now c.self.inside.book c.new-desk.result c.answer_first.new.desk
    c.self.inside.seats.items after what c.new-desk.ensures c.into_taken.ensures c.answer_first.ensures.looked)
