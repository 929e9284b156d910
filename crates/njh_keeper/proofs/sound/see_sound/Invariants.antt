use Rattle.njh_keeper.proofs.Words
use Words.{ℕ, ◌<◌, IsSound, HaveHeaders, part}
use Rattle.njh_keeper.proofs.sound.see_sound.Given as goal

-- so it is of those before this one
abbrev pub invariant-loop-at : goal.invariant-loop-at
invariant-loop-at l = record {
  sound : (c : ℕ) → c < l.at → IsSound (part c l.hub).customer.spool × HaveHeaders (part c l.hub).customer.spool.whole;
}
