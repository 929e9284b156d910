use Rattle.{std.proofs.Common.{◌≡◌, map, drop}, njh_table.specs.TableFile.entry_of, njh_customer.specs.Waiting.all_said}
use Rattle.njh_customer.proofs.customer_lines.CustomerLines.say_all.Given as goal

abbrev pub invariant-loop-text : goal.invariant-loop-text
invariant-loop-text l = all_said (entry_of l.customer) (record { node = l.node; user = l.user })
    (map (λ t. t.items) (drop l.text-index l.text-items)) l.self
    ≡ all_said (entry_of l.customer) (record { node = l.node; user = l.user }) l.replies l.initial.self
