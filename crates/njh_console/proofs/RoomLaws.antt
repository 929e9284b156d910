-- After a round there is room for whoever waits.
use Rattle.std.proofs.Common.{◌≡◌, ℕ, suc, ◌+◌, ◌≤◌, Bool, true, false, cond, List, [], ◌∷◌, ◌++◌, length, refl, sym, ap}
use Rattle.std.proofs.Common.{subst, arith, length-append, Option, Some, None, inl, inr}
use Rattle.std.specs.Prelude.{◌==◌, ◌&&◌, is_some, nat_lt, not, position}
use Rattle.std.specs.List.{position_or_len, prefix_len}
use Rattle.std.specs.Option.{option_or}
use Rattle.std.proofs.lemmas.Bool.{lt-ltb, or_right}
use Rattle.http_server.specs.Exchange.{Call}
use Rattle.njh_answer.specs.declared.answering.Deed.{Deed}
use Rattle.njh_console.specs.Consoles.{AreServed}
use Rattle.njh_console.specs.Orders.{TakenOrders}
use Rattle.njh_console.specs.Scenes.{Scene}
use Rattle.njh_console.specs.Seats.{answered_at, has_room, may_ask, place_given_up, ArePassed, IsTurn, Seat}

counted : (fails : Bool) (n m : ℕ) → n ≤ m → cond fails (1 + n) 0 ≤ suc m
counted true n m le = omega arith
counted false n m le = omega arith

-- how many stand before the first who passes a test, if one does
before_one : {S : Type 0} (p : S → Bool) (xs : List S) (y : S) (ys : List S) → p y ≡ true
    → prefix_len (λ x. not (p x)) (xs ++ y ∷ ys) ≤ length xs
before_one p [] y ys holds =
    let none : cond (not (p y)) (1 + prefix_len (λ x. not (p x)) ys) 0 ≡ 0 =
    ap (λ (b : Bool). cond (not b) (1 + prefix_len (λ x. not (p x)) ys) 0) holds in
    omega (arith, none)
before_one p (x ∷ xs) y ys holds =
    counted (not (p x)) (prefix_len (λ x. not (p x)) (xs ++ y ∷ ys)) (length xs) (before_one p xs y ys holds)

has_place : {S : Type 0} (p : S → Bool) (xs : List S) (y : S) (ys : List S) → p y ≡ true
    → is_some (position p (xs ++ y ∷ ys)) ≡ true
has_place p xs y ys holds =
    let all = xs ++ y ∷ ys in
    ap (λ (b : Bool). is_some (cond b (Some (position_or_len p all)) None))
    (lt-ltb (position_or_len p all) (length all)
    (omega (arith, before_one p xs y ys holds, length-append xs (y ∷ ys))))

one_or : (a b : Option ℕ) → is_some a ≡ true → is_some (option_or a b) ≡ true
one_or None b some = cc
one_or (Some place) b some = refl

or_other : (a b : Option ℕ) → is_some b ≡ true → is_some (option_or a b) ≡ true
or_other None b some = some
or_other (Some place) b some = refl

passed_room : {V : Type 0} (before after : List (Seat V)) → ArePassed before after → has_room after ≡ true
passed_room [] [] passed = refl
passed_room [] (then ∷ others) passed = absurd passed
passed_room (one ∷ seats) [] passed = absurd passed
passed_room {V} (one ∷ seats) (then ∷ others) passed =
    or_right (nat_lt (length (then ∷ others)) 4) (is_some (place_given_up (then ∷ others)))
    (one_or (position (λ (seat : Seat V). not (may_ask seat)) (then ∷ others))
    (position (λ (seat : Seat V). seat.served) (then ∷ others))
    (has_place (λ (seat : Seat V). not (may_ask seat)) [] then others
    (ap (λ (unseen : Bool). not (unseen && (length then.history.pending == 0))) passed.0.same.1)))

turn_room : {V : Type 0} (now : ℕ) (before after : List (Seat V)) (calls : List Call) → IsTurn now before after calls
    → has_room after ≡ true
turn_room {V} now before after calls turn =
    let others = turn.passed ++ turn.back in
    let last = answered_at now turn.then in
    subst (λ (seats : List (Seat V)). has_room seats ≡ true) (sym turn.after_is)
    (or_right (nat_lt (length (others ++ last ∷ [])) 4) (is_some (place_given_up (others ++ last ∷ [])))
    (or_other (position (λ (seat : Seat V). not (may_ask seat)) (others ++ last ∷ []))
    (position (λ (seat : Seat V). seat.served) (others ++ last ∷ []))
    (has_place (λ (seat : Seat V). seat.served) others last [] refl)))

-- who was looked at and doesn't ask gives up his seat, or else who was answered
pub served_room : {V : Type 0} (scene : Scene) (now : ℕ) (orders : TakenOrders) (before after : List (Seat V))
    (what : Deed) → AreServed scene now orders before after what → has_room after ≡ true
served_room scene now orders before after what (inl passed) = passed_room before after passed.0
served_room scene now orders before after what (inr served) =
    turn_room now before after (served.0 ∷ served.1) served.2
