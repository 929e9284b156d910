use Rattle.{std.proofs.Common.{◌≡◌, ◌++◌, map, take, drop}, njh_command.specs.Commands.without_file}
use Rattle.njh_customer.specs.Acting.{with_senders_by}
use Rattle.njh_customer.proofs.customer_lines.CustomerLinesSenders.abort.Given as goal

abbrev pub invariant-loop-line : goal.invariant-loop-line
invariant-loop-line l = l.self-inside.lines.items ≡ map (with_senders_by (without_file l.file))
    (take l.line l.initial.self-inside.lines.items) ++ drop l.line l.initial.self-inside.lines.items
