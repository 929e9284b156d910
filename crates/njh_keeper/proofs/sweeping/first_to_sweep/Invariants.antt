use Rattle.{std.{proofs.Common.take, specs.List.AllByRecursion}, njh_keeper.specs.code.Swept.HasNoSweeps}
use Rattle.njh_keeper.proofs.sweeping.first_to_sweep.Given as goal

-- none before the place has files that have left
abbrev pub invariant-loop-place : goal.invariant-loop-place
invariant-loop-place l = AllByRecursion HasNoSweeps (take l.place l.customers)
