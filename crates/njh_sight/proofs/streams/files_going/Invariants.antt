use Rattle.std.specs.Prelude.{◌≡◌, ℕ, ◌<◌, None, get_or}
use Rattle.njh_sight.specs.Telling.{going_at}
use Rattle.njh_sight.proofs.streams.files_going.Given as goal

-- each before this place is that of its stream
abbrev pub invariant-loop-place : goal.invariant-loop-place
invariant-loop-place l = (p : ℕ) → p < l.place → get_or l.files p None ≡ going_at l.senders p
