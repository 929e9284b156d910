use Rattle.std.proofs.Common.{◌≡◌, map, string_bytes, take}
use Rattle.njh_replay.specs.LineNames.{names_in}
use Rattle.njh_replay.proofs.line_names.LineNames.of.Given as goal

abbrev pub invariant-loop-customer : goal.invariant-loop-customer
invariant-loop-customer l = map (λ lines. map string_bytes lines.items) l.customers.items ≡ map names_in
    (take l.customer-index l.customer-items)
