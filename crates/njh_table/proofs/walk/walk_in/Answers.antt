use Rattle.std.proofs.Common.{◌≡◌, Ok, arith}
use Rattle.std.proofs.lemmas.Grind.{common_steps}
use Rattle.toml.specs.View.{table_view}
use Rattle.njh_table.specs.Accepted.{IsAccepted}
use Rattle.njh_table.specs.Walk.{walk_in}
use Rattle.njh_table.proofs.Gives.{given}
use Rattle.njh_table.proofs.WalkedTables.{walk_in-gives}
use Rattle.njh_table.proofs.Loops.{is_empty_view}
use Rattle.njh_table.proofs.walk.walk_in.Goals as goal

pub invariant_of-result : goal.invariant_of-result
unfolding walk_in
invariant_of-result c =
    let walked : walk_in (table_view c.args.keys.now)
    ≡ Ok (record { capacity = c.in_ok-capacity.capacity; customers = c.in_ok-customers.customers.items }) =
    grind (arith, common_steps, is_empty_view) in
    (given IsAccepted _ _ walked (walk_in-gives (table_view c.args.keys.now)), c.in_ok-customers.ensures.owners)
