-- What one call takes of a piece, and what is given of bytes that come one after another.
use Rattle.std.proofs.Common.{◌≡◌, ℕ, zero, suc, ◌+◌, ◌<◌, ◌≤◌, List, [], ◌∷◌, ◌++◌, length, take, drop, refl, ap, sym}
use Rattle.std.proofs.Common.{◌∙◌, arith, one-add, zero-add}
use Rattle.std.specs.Prelude.{flat_map, Option, Some, None}
use Rattle.std.specs.List.{cons_option}
use Rattle.std.proofs.lemmas.List.{take-append-drop, take_all}
use Rattle.njh_tcp.specs.Hearing.{Outcome}
use Rattle.njh_tcp.specs.Reading.{Rest, outcome_list}
use Rattle.njh_tcp.specs.ByteSteps.{RestStep, rest_step, Fed, ahead, stop_or, feed_outcome, outcomes_after, rest_after}
use Rattle.njh_tcp.specs.ByteSteps.{GoesOn, outcomes_of_pieces, rest_after_pieces}

cons_option-append : (outcome : Option Outcome) (front back : List Outcome)
    → cons_option outcome (front ++ back) ≡ cons_option outcome front ++ back
cons_option-append None front back = refl
cons_option-append (Some outcome) front back = refl

pub outcomes_after-append : (rest : Rest) (front back : List ℕ)
    → outcomes_after rest (front ++ back) ≡ outcomes_after rest front ++ outcomes_after (rest_after rest front) back
outcomes_after-append rest [] back = refl
outcomes_after-append rest (byte ∷ front) back =
    ap (cons_option (rest_step rest byte).outcome) (outcomes_after-append (rest_step rest byte).rest front back)
    ∙ cons_option-append (rest_step rest byte).outcome (outcomes_after (rest_step rest byte).rest front)
    (outcomes_after (rest_after (rest_step rest byte).rest front) back)

pub rest_after-append : (rest : Rest) (front back : List ℕ)
    → rest_after rest (front ++ back) ≡ rest_after (rest_after rest front) back
rest_after-append rest [] back = refl
rest_after-append rest (byte ∷ front) back = rest_after-append (rest_step rest byte).rest front back

-- what is taken of a piece, by what is given of its fronts
pub record TakesFront (rest : Rest) (piece : List ℕ) (f : Fed) : Type 0 where
  pub within : f.taken ≤ length piece
  pub some : 0 < length piece → 0 < f.taken
  pub outcomes : outcomes_after rest (take f.taken piece) ≡ outcome_list f.outcome
  pub left : rest_after rest (take f.taken piece) ≡ f.rest
  pub none_before : (k : ℕ) → k < f.taken → outcomes_after rest (take k piece) ≡ []
  pub all : f.outcome ≡ None → f.taken ≡ length piece

-- one byte, by what its turn gives
outcomes_after-turned : (rest : Rest) (byte : ℕ) (bytes : List ℕ) (t : RestStep) → rest_step rest byte ≡ t
    → outcomes_after rest (byte ∷ bytes) ≡ cons_option t.outcome (outcomes_after t.rest bytes)
outcomes_after-turned rest byte bytes t turned = ap (λ t'. cons_option t'.outcome (outcomes_after t'.rest bytes)) turned

rest_after-turned : (rest : Rest) (byte : ℕ) (bytes : List ℕ) (t : RestStep) → rest_step rest byte ≡ t
    → rest_after rest (byte ∷ bytes) ≡ rest_after t.rest bytes
rest_after-turned rest byte bytes t turned = ap (λ t'. rest_after t'.rest bytes) turned

none_before-end : (rest : Rest) (piece : List ℕ) (k : ℕ) → k < 1 → outcomes_after rest (take k piece) ≡ []
none_before-end rest piece zero below = refl
none_before-end rest piece (suc k) below = absurd (omega arith)

none_before-later : (rest next : Rest) (byte : ℕ) (bytes : List ℕ) (n k : ℕ)
    → rest_step rest byte ≡ record { outcome = None; rest = next }
    → ((j : ℕ) → j < n → outcomes_after next (take j bytes) ≡ []) → k < 1 + n
    → outcomes_after rest (take k (byte ∷ bytes)) ≡ []
none_before-later rest next byte bytes n zero turned later below = refl
none_before-later rest next byte bytes n (suc k) turned later below =
    outcomes_after-turned rest byte (take k bytes) _ turned ∙ later k (omega arith)

one_more : (rest next : Rest) (outcome : Option Outcome) (byte : ℕ) (bytes : List ℕ)
    → rest_step rest byte ≡ record { outcome = outcome; rest = next }
    → TakesFront next bytes (feed_outcome next bytes) → TakesFront rest (byte ∷ bytes)
    (stop_or (record { outcome = outcome; rest = next }) (feed_outcome next bytes))
one_more rest next (Some outcome) byte bytes turned later = record {
  within = omega arith;
  some = λ h. omega arith;
  outcomes = outcomes_after-turned rest byte [] _ turned;
  left = rest_after-turned rest byte [] _ turned;
  none_before = none_before-end rest (byte ∷ bytes);
  all = λ h. cc;
}
one_more rest next None byte bytes turned later = record {
  within = omega arith;
  some = λ h. omega arith;
  outcomes = rw one-add (outcomes_after-turned rest byte (take (feed_outcome next bytes).taken bytes) _ turned
      ∙ later.outcomes);
  left = rw one-add (rest_after-turned rest byte (take (feed_outcome next bytes).taken bytes) _ turned ∙ later.left);
  none_before = λ k below. none_before-later rest next byte bytes (feed_outcome next bytes).taken k turned
      later.none_before below;
  all = λ h. omega (arith, later.all h);
}

pub takes_front : (rest : Rest) (piece : List ℕ) → TakesFront rest piece (feed_outcome rest piece)
takes_front rest [] =
    record {
      within = omega arith;
      some = λ h. h;
      outcomes = refl;
      left = refl;
      none_before = λ k below. absurd (omega arith);
      all = λ h. refl;
    }
takes_front rest (byte ∷ bytes) =
    one_more rest (rest_step rest byte).rest (rest_step rest byte).outcome byte bytes refl
    (takes_front (rest_step rest byte).rest bytes)

-- cut where it was taken, a piece gives what is given first, and then what is given of what is left
pub goes_on : (rest : Rest) (piece : List ℕ)
    → GoesOn rest piece (feed_outcome rest piece).taken (feed_outcome rest piece).outcome (feed_outcome rest piece).rest
goes_on rest piece =
    let f = feed_outcome rest piece in
    let front = takes_front rest piece in
    let whole = take-append-drop f.taken piece in
    record {
      within = front.within;
      some = front.some;
      outcomes = ap (outcomes_after rest) (sym whole)
          ∙ (outcomes_after-append rest (take f.taken piece) (drop f.taken piece)
          ∙ (ap (λ l. l ++ outcomes_after (rest_after rest (take f.taken piece)) (drop f.taken piece)) front.outcomes
          ∙ ap (λ r. outcome_list f.outcome ++ outcomes_after r (drop f.taken piece)) front.left));
      left = ap (rest_after rest) (sym whole)
          ∙ (rest_after-append rest (take f.taken piece) (drop f.taken piece)
          ∙ ap (λ r. rest_after r (drop f.taken piece)) front.left);
    }

pub taken_all : (rest : Rest) (piece : List ℕ) → (feed_outcome rest piece).outcome ≡ None
    → ((feed_outcome rest piece).taken ≡ length piece) × ((feed_outcome rest piece).rest ≡ rest_after rest piece)
    × (outcomes_after rest piece ≡ [])
taken_all rest piece none =
    let front = takes_front rest piece in
    let whole : take (feed_outcome rest piece).taken piece ≡ piece =
    take_all (feed_outcome rest piece).taken piece (omega (arith, front.all none)) in (
      front.all none,
      sym front.left ∙ ap (rest_after rest) whole,
      ap (outcomes_after rest) (sym whole)
          ∙ (front.outcomes ∙ ap outcome_list none),
    )

-- a piece after one of which nothing is given
on_one_more : (outcome : Option Outcome) (next : Rest) (first whole : Fed) (n : ℕ) (later : Rest → Fed)
    → (first.outcome ≡ None → whole ≡ ahead n (later first.rest))
    → (stop_or (record { outcome = outcome; rest = next }) first).outcome ≡ None
    → stop_or (record { outcome = outcome; rest = next }) whole ≡ ahead (suc n)
    (later (stop_or (record { outcome = outcome; rest = next }) first).rest)
on_one_more (Some outcome) next first whole n later more none = cc
on_one_more None next first whole n later more none =
    let sum : 1 + (n + (later first.rest).taken) ≡ suc n + (later first.rest).taken = omega arith in
    ap (ahead 1) (more none) ∙ ap (λ (k : ℕ). record (later first.rest) { taken = k }) sum

pub fed-append_none : (rest : Rest) (front back : List ℕ) → (feed_outcome rest front).outcome ≡ None
    → feed_outcome rest (front ++ back) ≡ ahead (length front) (feed_outcome (feed_outcome rest front).rest back)
fed-append_none rest [] back none = ap (λ (k : ℕ). record (feed_outcome rest back) { taken = k })
    (sym (zero-add (feed_outcome rest back).taken))
fed-append_none rest (byte ∷ front) back none =
    let next = (rest_step rest byte).rest in
    on_one_more (rest_step rest byte).outcome next (feed_outcome next front) (feed_outcome next (front ++ back))
    (length front) (λ r. feed_outcome r back)
    (fed-append_none next front back) none

-- and after one of which something is
ended_one_more : (ended : Option Outcome) (next : Rest) (first whole : Fed) (outcome : Outcome)
    → (first.outcome ≡ Some outcome → whole ≡ first)
    → (stop_or (record { outcome = ended; rest = next }) first).outcome ≡ Some outcome
    → stop_or (record { outcome = ended; rest = next }) whole ≡ stop_or (record { outcome = ended; rest = next }) first
ended_one_more (Some ended) next first whole outcome more some = refl
ended_one_more None next first whole outcome more some = ap (ahead 1) (more some)

pub fed-append_some : (rest : Rest) (front back : List ℕ) (outcome : Outcome)
    → (feed_outcome rest front).outcome ≡ Some outcome
    → feed_outcome rest (front ++ back) ≡ feed_outcome rest front
fed-append_some rest [] back outcome some = cc
fed-append_some rest (byte ∷ front) back outcome some =
    let next = (rest_step rest byte).rest in
    ended_one_more (rest_step rest byte).outcome next (feed_outcome next front) (feed_outcome next (front ++ back)) outcome
    (fed-append_some next front back outcome) some

-- pieces, one after another
pub outcomes_pieces : (rest : Rest) (pieces : List (List ℕ))
    → outcomes_of_pieces rest pieces ≡ outcomes_after rest (flat_map (λ piece. piece) pieces)
outcomes_pieces rest [] = refl
outcomes_pieces rest (piece ∷ pieces) =
    ap (λ l. outcomes_after rest piece ++ l) (outcomes_pieces (rest_after rest piece) pieces)
    ∙ sym (outcomes_after-append rest piece (flat_map (λ p. p) pieces))

pub rest_pieces : (rest : Rest) (pieces : List (List ℕ))
    → rest_after_pieces rest pieces ≡ rest_after rest (flat_map (λ piece. piece) pieces)
rest_pieces rest [] = refl
rest_pieces rest (piece ∷ pieces) =
    rest_pieces (rest_after rest piece) pieces ∙ sym (rest_after-append rest piece (flat_map (λ p. p) pieces))
