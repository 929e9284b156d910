use Rattle.std.proofs.Common.{◌≡◌, ℕ, ◌<◌, ◌≤◌, ◌⊎◌, length}
use Rattle.njh_lines.specs.Attention.{watch_at}
use Rattle.njh_lines.proofs.attention.first_moment.Given as goal

-- none of the lines so far wants to be looked at before, and one wants it then
abbrev pub invariant-loop-place : goal.invariant-loop-place
invariant-loop-place l = record {
  least : (p : ℕ) → l.first ≤ p → p < l.place → p < length l.watches → l.next ≤ (watch_at l.watches p).moment;
  wanted : (l.next ≡ 18446744073709551615) ⊎ ((p : ℕ) × (l.first ≤ p) × (p < l.end)
      × ((watch_at l.watches p).moment ≡ l.next));
}
