use Rattle.std.proofs.Common.{IfOk, subst, sym}
use Rattle.njh_arguments.specs.declared.console_command.ConsoleCommand.{ConsoleCommand}
use Rattle.njh_ctl.specs.Talks.{CarriesOut}
use Rattle.njh_ctl.proofs.operator.Operator.carry_out.Goals as goal

pub returns-in-Tell-clause-done : goal.returns-in-Tell-clause-done
returns-in-Tell-clause-done g c =
    subst (λ (command : ConsoleCommand). IfOk c.order-in-Tell.result (CarriesOut command c.args.self.now
    c.order-in-Tell.new.self)) (sym c.in-Tell.is) c.order-in-Tell.ensures.done
