-- The line table's verdict, and what it asks for.
use Rattle.std.proofs.Common.{rules}
use Rattle.njh_customer.proofs.ReadyLaws.{left_by_input}
use Rattle.njh_customer.proofs.shared.Shared.take_input.Goals as goal

pub returns : goal.returns
returns c = search (rules, left_by_input)
