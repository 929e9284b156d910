use Rattle.std.specs.Prelude.{◌≡◌, ℕ, ◌<◌, get_or}
use Rattle.njh_hub.specs.WholeHub.{part}
use Rattle.njh_sight.specs.Stands.{coming_after, coming_idle, coming_records, drains_at}
use Rattle.njh_sight.specs.Telling.{coming_at}
use Rattle.njh_sight.proofs.stands.coming_stands.Given as goal

-- each before this place stands as its stream was seen
abbrev pub invariant-loop-place : goal.invariant-loop-place
invariant-loop-place l = (p : ℕ) → p < l.place → get_or l.stands p coming_idle
    ≡ coming_after (get_or l.was p coming_idle) (coming_at l.receivers p) (drains_at l.receivers p)
    (coming_records (part l.customer l.hub).customer.spool (coming_at l.receivers p)) l.now
