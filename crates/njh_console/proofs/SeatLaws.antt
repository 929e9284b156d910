-- The visitors, one after another.
use Rattle.std.proofs.Common.{◌≡◌, ◌≢◌, ℕ, ◌+◌, ◌<◌, ◌≤◌, List, length, set, get_or, refl, sym, ap, subst}
use Rattle.std.proofs.Common.{◌∙◌, ⊎_elim, inr, arith}
use Rattle.std.specs.Prelude.{Option, Some, None}
use Rattle.std.specs.Io.KnownBytes.{Keeps}
use Rattle.std.proofs.lemmas.Bool.{cases_eq}
use Rattle.std.proofs.lemmas.List.{get_or-set_same, get_or-set_other, get_or_read, length-set}
use Rattle.njh_console.specs.Seats.{AreEach, IsReadFrom, IsSentTo, Seat}

-- Those before a place are so, and the others are as they were.
pub record EachTo {V : Type 0} (Is : Seat V → Seat V → Type 0) (place : ℕ) (first seats : List (Seat V)) : Type 0 where
  pub are : AreEach Is first seats
  pub rest : (k : ℕ) (d : Seat V) → place ≤ k → get_or seats k d ≡ get_or first k d

pub each_to_none : {V : Type 0} (Is : Seat V → Seat V → Type 0) (seats : List (Seat V)) → ((s : Seat V) → Is s s)
    → EachTo Is 0 seats seats
each_to_none Is seats same = record {
  are = record { many = refl; each = λ k d w. same (get_or seats k d) };
  rest = λ k d w. refl;
}

pub each_to_more : {V : Type 0} (Is : Seat V → Seat V → Type 0) (i : ℕ) (first seats : List (Seat V)) (was new : Seat V)
    → i < length seats → was ≡ get_or seats i was → Is was new → EachTo Is i first seats
    → EachTo Is (i + 1) first (set seats i new)
each_to_more {V} Is i first seats was new there read one to =
    let before : (d : Seat V) → get_or first i d ≡ was =
    λ d. sym (to.rest i d (omega arith)) ∙ sym (get_or_read seats i was there read d) in
    record {
      are = record {
        many = length-set seats i new ∙ to.are.many;
        each = λ k d w. ⊎_elim (λ (here : k ≡ i).
            let after : get_or (set seats i new) k d ≡ new =
            ap (λ (n : ℕ). get_or (set seats i new) n d) here ∙ get_or-set_same seats i new d there in
            subst (λ (s : Seat V). Is s (get_or (set seats i new) k d))
            (sym (ap (λ (n : ℕ). get_or first n d) here ∙ before d))
            (subst (λ (s : Seat V). Is was s) (sym after) one))
            (λ (other : k ≢ i).
            subst (λ (s : Seat V). Is (get_or first k d) s) (sym (get_or-set_other seats i k new d other))
            (to.are.each k d w))
            (cases_eq k i);
      };
      rest = λ k d w.
          let other : k ≢ i = λ here. omega (arith, here, w) in
          get_or-set_other seats i k new d other ∙ to.rest k d (omega (arith, w));
    }

pub keeps_itself : (known : Option (List ℕ)) → Keeps known known
keeps_itself None = tt
keeps_itself (Some bytes) = refl

-- of whom nothing came
pub nothing_came : {V : Type 0} (remaining : V → Option (List ℕ)) (s : Seat V) → IsReadFrom remaining s s
nothing_came remaining s = record {
  came = inr (keeps_itself (remaining s.socket), refl, refl);
  there = (refl, refl);
  stays_failed = λ failed. failed;
}

-- to whom nothing went
pub nothing_went : {V : Type 0} (s : Seat V) → IsSentTo s s
nothing_went s = record { went = inr (refl, refl); there = (refl, refl); stays_failed = λ failed. failed }
