use Rattle.std.specs.Prelude.{ℕ, ◌<◌, ◌≤◌}
use Rattle.njh_lines.specs.Attention.{IsMarked, mark_at}
use Rattle.njh_lines.proofs.attention.is_any_marked.Given as goal

-- nothing is ready of those before this place
abbrev pub invariant-loop-place : goal.invariant-loop-place
invariant-loop-place l = (p : ℕ) → l.first ≤ p → p < l.place → ¬ IsMarked (mark_at l.ready p)
