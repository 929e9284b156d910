-- The visitors are looked at one after another.
use Rattle.std.proofs.Common.{◌≡◌, ℕ, zero, suc, ◌+◌, ◌<◌, true, false, List, [], ◌∷◌, ◌++◌, length, set, get_or}
use Rattle.std.proofs.Common.{refl, sym, ap, ◌∙◌, subst, ⊎_elim, arith, length-append, append_assoc, append-nil}
use Rattle.std.specs.List.{remove}
use Rattle.std.proofs.lemmas.List.{set_at}
use Rattle.http_server.specs.Exchange.{Call, Calls, Chain}
use Rattle.http_server.specs.History.{IsServed}
use Rattle.njh_console.specs.Desks as desks
use Rattle.njh_console.specs.Desks.{DeskState}
use Rattle.njh_console.specs.Seats.{answered_at, config, ArePassed, IsAsking, IsHeldUp, IsLookedAt, IsSeen, IsTurn, Seat}
use Rattle.njh_console.specs.code.Looking.{IsMoved}
use Rattle.njh_console.proofs.CallLaws.{calls_seen}

get_at : {S : Type 0} (passed : List S) (y : S) (back : List S) (place : ℕ) (d : S) → length passed ≡ place
    → get_or (passed ++ y ∷ back) place d ≡ y
get_at [] y back zero d here = refl
get_at [] y back (suc place) d here = absurd (omega (arith, here))
get_at (p ∷ passed) y back zero d here = absurd (omega (arith, here))
get_at (p ∷ passed) y back (suc place) d here = get_at passed y back place d (omega (arith, here))

remove_at : {S : Type 0} (passed : List S) (y : S) (back : List S) (place : ℕ) → length passed ≡ place
    → remove (passed ++ y ∷ back) place ≡ passed ++ back
remove_at [] y back zero here = refl
remove_at [] y back (suc place) here = absurd (omega (arith, here))
remove_at (p ∷ passed) y back zero here = absurd (omega (arith, here))
remove_at {S} (p ∷ passed) y back (suc place) here =
    ap (λ (rest : List S). p ∷ rest) (remove_at passed y back place (omega (arith, here)))

no_length : {S : Type 0} (xs : List S) → length xs ≡ 0 → xs ≡ []
no_length [] none = refl
no_length (x ∷ xs) none = absurd (omega (arith, none))

passed_more : {V : Type 0} (front passed : List (Seat V)) (one then : Seat V) → ArePassed front passed
    → IsLookedAt one then [] → ArePassed (front ++ one ∷ []) (passed ++ then ∷ [])
passed_more [] [] one then are looked = (looked, tt)
passed_more [] (p ∷ passed) one then are looked = absurd are
passed_more (f ∷ front) [] one then are looked = absurd are
passed_more (f ∷ front) (p ∷ passed) one then are looked = (are.0, passed_more front passed one then are.1 looked)

-- Those before a place were looked at and weren't answered, and the others are as they were.
pub record LookedTo {V : Type 0} (place : ℕ) (first now : List (Seat V)) : Type 0 where
  pub front : List (Seat V)
  pub passed : List (Seat V)
  pub back : List (Seat V)
  pub first_is : first ≡ front ++ back
  pub now_is : now ≡ passed ++ back
  pub front_to : length front ≡ place
  pub passed_to : length passed ≡ place
  pub passed_are : ArePassed front passed

pub looked_none : {V : Type 0} (seats : List (Seat V)) → LookedTo 0 seats seats
looked_none seats = record {
  front = [];
  passed = [];
  back = seats;
  first_is = refl;
  now_is = refl;
  front_to = refl;
  passed_to = refl;
  passed_are = tt;
}

-- who stands at a place, as the next who is looked at
next_at : {V : Type 0} (place : ℕ) (first now : List (Seat V)) (to : LookedTo place first now) → place < length now
    → (one : Seat V) × (rest : List (Seat V)) × (to.back ≡ one ∷ rest)
next_at {V} place first now to there =
    elim (to.back) as (λ (back : List (Seat V)). to.back ≡ back → (one : Seat V) × (rest : List (Seat V)) × (to.back ≡ one ∷ rest)) [
      | [] ↦ λ (none : to.back ≡ []).
          absurd (omega (arith, there, ap length to.now_is, length-append to.passed to.back, ap length none, to.passed_to))
      | one ∷ rest ↦ λ (some : to.back ≡ one ∷ rest). (one, rest, some)
    ] refl

-- one more was looked at, and wasn't answered
pub looked_more : {V : Type 0} (place : ℕ) (first now : List (Seat V)) (was then : Seat V) → LookedTo place first now
    → place < length now → was ≡ get_or now place was → IsLookedAt was then []
    → LookedTo (place + 1) first (set now place then)
looked_more {V} place first now was then to there read looked =
    let next = next_at place first now to there in
    let seen : now ≡ to.passed ++ next.0 ∷ next.1 =
    to.now_is ∙ ap (λ (back : List (Seat V)). to.passed ++ back) next.2 in
    let same : was ≡ next.0 =
    read ∙ (ap (λ (s : List (Seat V)). get_or s place was) seen ∙ get_at to.passed next.0 next.1 place was to.passed_to) in
    record {
      front = to.front ++ next.0 ∷ [];
      passed = to.passed ++ then ∷ [];
      back = next.1;
      first_is = to.first_is ∙ (ap (λ (back : List (Seat V)). to.front ++ back) next.2
          ∙ sym (append_assoc to.front (next.0 ∷ []) next.1));
      now_is = ap (λ (s : List (Seat V)). set s place then) seen
          ∙ (set_at to.passed next.0 next.1 then place to.passed_to
          ∙ sym (append_assoc to.passed (then ∷ []) next.1));
      front_to = omega (arith, length-append to.front (next.0 ∷ []), to.front_to);
      passed_to = omega (arith, length-append to.passed (then ∷ []), to.passed_to);
      passed_are = passed_more to.front to.passed next.0 then to.passed_are
          (subst (λ (s : Seat V). IsLookedAt s then []) same looked);
    }

-- one was answered at a moment, and goes behind all the others
pub turn_taken : {V : Type 0} (moment place : ℕ) (first now after : List (Seat V)) (was then : Seat V)
    (calls : List Call) → LookedTo place first now → place < length now → was ≡ get_or now place was
    → IsLookedAt was then calls → IsMoved place moment (set now place then) after → IsTurn moment first after calls
turn_taken {V} moment place first now after was then calls to there read looked moved =
    let next = next_at place first now to there in
    let seen : now ≡ to.passed ++ next.0 ∷ next.1 =
    to.now_is ∙ ap (λ (back : List (Seat V)). to.passed ++ back) next.2 in
    let same : was ≡ next.0 =
    read ∙ (ap (λ (s : List (Seat V)). get_or s place was) seen ∙ get_at to.passed next.0 next.1 place was to.passed_to) in
    let looked_to : set now place then ≡ to.passed ++ then ∷ next.1 =
    ap (λ (s : List (Seat V)). set s place then) seen ∙ set_at to.passed next.0 next.1 then place to.passed_to in
    let who : moved.one ≡ then =
    sym (moved.one_is then)
    ∙ (ap (λ (s : List (Seat V)). get_or s place then) looked_to ∙ get_at to.passed then next.1 place then to.passed_to) in
    let others : remove (set now place then) place ≡ to.passed ++ next.1 =
    ap (λ (s : List (Seat V)). remove s place) looked_to ∙ remove_at to.passed then next.1 place to.passed_to in
    record {
      front = to.front;
      one = next.0;
      back = next.1;
      before_is = to.first_is ∙ ap (λ (back : List (Seat V)). to.front ++ back) next.2;
      passed = to.passed;
      passed_are = to.passed_are;
      then = then;
      answered = subst (λ (s : Seat V). IsLookedAt s then calls) same looked;
      after_is = moved.after_is
          ∙ (ap (λ (s : List (Seat V)). s ++ answered_at moment moved.one ∷ []) others
          ∙ ap (λ (s : Seat V). (to.passed ++ next.1) ++ answered_at moment s ∷ []) who);
    }

-- all were looked at, and none was answered
pub all_passed : {V : Type 0} (place : ℕ) (first now : List (Seat V)) → LookedTo place first now → place ≡ length now
    → ArePassed first now
all_passed {V} place first now to all =
    let none : length to.back ≡ 0 =
    omega (arith, all, ap length to.now_is, length-append to.passed to.back, to.passed_to) in
    let nobody : to.back ≡ [] = no_length to.back none in
    let first_are : first ≡ to.front =
    to.first_is ∙ (ap (λ (back : List (Seat V)). to.front ++ back) nobody ∙ append-nil to.front) in
    let now_are : now ≡ to.passed =
    to.now_is ∙ (ap (λ (back : List (Seat V)). to.passed ++ back) nobody ∙ append-nil to.passed) in
    subst (λ (s : List (Seat V)). ArePassed s now) (sym first_are)
    (subst (λ (s : List (Seat V)). ArePassed to.front s) (sym now_are) to.passed_are)

-- ---- what a look is

pub looked_at : {V : Type 0} (before after : Seat V) (calls : List Call)
    → after.history.calls ≡ before.history.calls ++ calls
    → (IsAsking before.history → after.history.calls ≡ before.history.calls → IsHeldUp after.history)
    → ∥ IsServed config after.history ∥₁ → IsSeen before after → IsLookedAt before after calls
looked_at before after calls are asked served same = record {
  calls_are = are;
  asked = λ asking none. asked asking
      (are ∙ (ap (λ (more : List Call). before.history.calls ++ more) none ∙ append-nil before.history.calls));
  served = served;
  same = same;
}

-- A look at which nobody was answered left the desk as it was.
pub nobody_answered : {V : Type 0} (d new : DeskState) (before after : Seat V)
    → (calls : Calls desks.IsServed d new before.history.calls after.history.calls)
    → (IsAsking before.history → after.history.calls ≡ before.history.calls → IsHeldUp after.history)
    → ∥ IsServed config after.history ∥₁ → IsSeen before after → new.done ≡ false
    → IsLookedAt before after [] × (new ≡ d)
nobody_answered {V} d new before after (calls, are, chain) asked served same undone =
    ⊎_elim (λ (none : (calls ≡ []) × (new ≡ d)).
    let look = looked_at before after calls are asked served same in
    (subst (λ (more : List Call). IsLookedAt before after more) none.0 look, none.1))
    (λ (some : (c : Call) × (others : List Call) × (calls ≡ c ∷ others) × (new.done ≡ true)).
    let wrong : true ≡ false = sym some.3 ∙ undone in absurd (cc))
    (calls_seen d new calls chain)

-- A look after which the desk is done answered somebody.
pub one_answered : {V : Type 0} (d new : DeskState) (before after : Seat V)
    → (calls : Calls desks.IsServed d new before.history.calls after.history.calls)
    → (IsAsking before.history → after.history.calls ≡ before.history.calls → IsHeldUp after.history)
    → ∥ IsServed config after.history ∥₁ → IsSeen before after → d.done ≡ false → new.done ≡ true
    → (c : Call) × (others : List Call) × IsLookedAt before after (c ∷ others)
    × Chain desks.IsServed d (c ∷ others) new
one_answered {V} d new before after (calls, are, chain) asked served same undone done =
    ⊎_elim (λ (none : (calls ≡ []) × (new ≡ d)).
    let wrong : true ≡ false = sym done ∙ (ap (λ (x : DeskState). x.done) none.1 ∙ undone) in absurd (cc))
    (λ (some : (c : Call) × (others : List Call) × (calls ≡ c ∷ others) × (new.done ≡ true)).
    let look = looked_at before after calls are asked served same in (
      some.0,
      some.1,
      subst (λ (more : List Call). IsLookedAt before after more) some.2 look,
      subst (λ (more : List Call). Chain desks.IsServed d more new) some.2 chain,
    ))
    (calls_seen d new calls chain)
