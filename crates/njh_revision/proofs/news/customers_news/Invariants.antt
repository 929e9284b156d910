use Rattle.std.proofs.Common.{◌≡◌, ℕ, ◌<◌, length}
use Rattle.njh_revision.specs.News.{HasAllAt}
use Rattle.njh_revision.proofs.news.customers_news.Given as goal

-- if nothing is told, the customers so far have all that was read
abbrev pub invariant-loop-place : goal.invariant-loop-place
invariant-loop-place l = length l.texts.items ≡ 0 → (c : ℕ) → c < l.place → HasAllAt c l.known l.read
