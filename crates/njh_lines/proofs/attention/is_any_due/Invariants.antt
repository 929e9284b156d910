use Rattle.std.specs.Prelude.{ℕ, ◌<◌, ◌≤◌, IsTrue}
use Rattle.njh_lines.specs.Attention.{watch_at}
use Rattle.njh_lines.proofs.attention.is_any_due.Given as goal

-- none of those before this place is looked at
abbrev pub invariant-loop-place : goal.invariant-loop-place
invariant-loop-place l = (p : ℕ) → l.first ≤ p → p < l.place → ¬ IsTrue (watch_at l.watches p).is_due
