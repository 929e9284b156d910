use Rattle.std.specs.Prelude.{ℕ, ◌<◌, get_or}
use Rattle.njh_sight.specs.Stands.{going_idle, sender_at, IsGoingStand}
use Rattle.njh_sight.proofs.stands.going_stands.Given as goal

-- each before this place stands as its stream was seen
abbrev pub invariant-loop-place : goal.invariant-loop-place
invariant-loop-place l = (p : ℕ) → p < l.place → IsGoingStand (get_or l.was p going_idle)
    (sender_at l.senders p) l.now (get_or l.stands p going_idle)
