-- Between rounds each wire stays that of its line, no byte moves on any, and none fails less often.
use Rattle.std.proofs.Common.{◌≡◌, ◌≢◌, ℕ, ◌<◌, ◌≤◌, List, length, set, get_or, refl, sym, ap, ◌∙◌, arith, ⊎_elim}
use Rattle.std.proofs.lemmas.Bool.{cases_eq}
use Rattle.std.proofs.lemmas.List.{get_or-set_same, get_or-set_other, get_or_read}
use Rattle.njh_turns.specs.Service.{AreStill}
use Rattle.njh_wire.specs.Standing.{Standing}
use Rattle.njh_wire.specs.Tally.{tally, IsTallied}

-- nothing changed
pub still_same : {C : Type 0} (wires : List (Standing C)) → AreStill IsTallied (λ wire. wire.failures) wires wires
still_same wires = record {
  passed_none = λ k d w. refl;
  counts = λ k d w. omega arith;
}

-- what stays of each, as one of them changes and this of it stays
same_more : {S X : Type 0} (part : S → X) (now : List S) (i : ℕ) (was new : S) → i < length now
    → was ≡ get_or now i was →
    part was ≡ part new → (k : ℕ) (d : S) → part (get_or now k d) ≡ part (get_or (set now i new) k d)
same_more {S} part now i was new there read same k d =
    ⊎_elim (λ (here : k ≡ i).
    ap part (ap (λ (n : ℕ). get_or now n d) here ∙ sym (get_or_read now i was there read d)) ∙ (same
    ∙ sym (ap part (ap (λ (n : ℕ). get_or (set now i new) n d) here ∙ get_or-set_same now i new d there))))
    (λ (other : k ≢ i). sym (ap part (get_or-set_other now i k new d other)))
    (cases_eq k i)

-- the i-th wire changed, stayed that of its line, moved no byte, and failed no less often
pub still_more : {C : Type 0} (first now : List (Standing C)) (i : ℕ) (was new : Standing C) →
    i < length now → was ≡ get_or now i was → tally was ≡ tally new → was.failures ≤ new.failures →
    AreStill IsTallied (λ wire. wire.failures) first now →
    AreStill IsTallied (λ wire. wire.failures) first (set now i new)
still_more {C} first now i was new there read same rises still =
    let count = λ (wire : Standing C). wire.failures in record {
      passed_none = λ k d w. still.passed_none k d w
          ∙ same_more (λ (wire : Standing C). tally wire) now i was new there read same k d;
      counts = λ k d w. ⊎_elim (λ (here : k ≡ i).
          let new_is : count (get_or (set now i new) k d) ≡ count new =
          ap count (ap (λ (n : ℕ). get_or (set now i new) n d) here ∙ get_or-set_same now i new d there) in
          let was_is : count (get_or now k d) ≡ count was =
          ap count (ap (λ (n : ℕ). get_or now n d) here ∙ sym (get_or_read now i was there read d)) in
          let before : count (get_or first k d) ≤ count (get_or now k d) = still.counts k d w in
          omega (arith, new_is, was_is, before, rises))
          (λ (other : k ≢ i).
          let same : count (get_or (set now i new) k d) ≡ count (get_or now k d) =
          ap count (get_or-set_other now i k new d other) in
          let before : count (get_or first k d) ≤ count (get_or now k d) = still.counts k d w in
          omega (arith, same, before))
          (cases_eq k i);
    }

-- one after the other
pub still_after : {C : Type 0} (first now next : List (Standing C)) → length first ≡ length now →
    AreStill IsTallied (λ wire. wire.failures) first now → AreStill IsTallied (λ wire. wire.failures) now next →
    AreStill IsTallied (λ wire. wire.failures) first next
still_after first now next many still more = record {
  passed_none = λ k d w. still.passed_none k d w ∙ more.passed_none k d (omega (arith, w, many));
  counts = λ k d w. omega (arith, still.counts k d w, more.counts k d (omega (arith, w, many)));
}
