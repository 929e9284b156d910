use Rattle.njh_keeper.proofs.Words
use Words.{◌≡◌, inl, inr, subst, arith, cases_lt, IsSound, HaveHeaders, part}
use Rattle.njh_keeper.proofs.sound.see_sound.Goals as goal

pub loop-at-preserved : goal.loop-at-preserved
loop-at-preserved c = record {
  sound = λ d low. elim (cases_lt d c.loop-at.at) [
    | inl before ↦ c.loop-at.invariant.sound d before
    | inr not_before ↦
        (let is : c.in-Ok.customer ≡ d = omega (arith, c.in-Ok.ensures, not_before, low) in
        subst (λ n. IsSound (part n c.args.hub.now).customer.spool
        × HaveHeaders (part n c.args.hub.now).customer.spool.whole) is
        (c.files_are_sound.ensures.sound, c.files_are_sound.ensures.headers))
  ];
}
