use Rattle.std.proofs.Common.{◌≡◌, ℕ, ◌<◌, ◌≤◌, ◌⊎◌, Some}
use Rattle.std.specs.Prelude.{slice_get}
use Rattle.njh_sight.specs.Waking.{look_moment}
use Rattle.njh_sight.specs.declared.customers.Row.{Row}
use Rattle.njh_sight.proofs.customers.Customers.moment.Given as goal

-- the lines of none of the customers so far are to be looked at before, and those of one are then
abbrev pub invariant-loop-row : goal.invariant-loop-row
invariant-loop-row l = record {
  least : (k : ℕ) (row : Row) → k < l.row-index → slice_get l.row-items k ≡ Some row → l.moment ≤ look_moment row;
  wanted : (l.moment ≡ 18446744073709551615) ⊎ ((k : ℕ) × ((row : Row) × (slice_get l.row-items k ≡ Some row)
      × (look_moment row ≡ l.moment)));
}
