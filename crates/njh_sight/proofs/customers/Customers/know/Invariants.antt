use Rattle.std.proofs.Common.{◌≡◌, length}
use Rattle.njh_sight.proofs.customers.Customers.know.Given as goal

-- the rows are the same
abbrev pub invariant-loop-place : goal.invariant-loop-place
invariant-loop-place l = record { rows : l.self-inside.rows ≡ l.fn.self; many : length l.self-inside.rows ≡ 64 }
