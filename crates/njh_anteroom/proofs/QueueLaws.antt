-- Who waits, and who is next.
use Rattle.std.proofs.Common.{◌≡◌, ◌∙◌, ℕ, ◌<◌, ◌≤◌, ◌+◌, zero, suc, Bool, true, false, cond, not, eqb, ltb, leb, min}
use Rattle.std.proofs.Common.{List, [], ◌∷◌, ◌++◌, map, length, get_or, take, set, filter, remove, position, fold, All}
use Rattle.std.proofs.Common.{ap, sym, refl, subst, arith, ◌||◌, ◌&&◌, inl, inr, Option, Some, None, option_map}
use Rattle.std.proofs.Common.{IfSome, max, slice_get}
use Rattle.std.specs.List.{list_any, position_or_len}
use Rattle.std.specs.Option.{option_or, option_map_or}
use Rattle.std.proofs.lemmas.Bool.{and_from, both_ways, eqb-false, eqb-true, false_from_ne_true, le-leb, leb-false}
use Rattle.std.proofs.lemmas.Bool.{ne_eqb, or_from}
use Rattle.std.proofs.lemmas.Bool.{leb-true, lt-ltb, ltb-false, ltb-true, or_cases, or_left, or_parts, or_right}
use Rattle.std.proofs.lemmas.List.{append-nil, map-append, map-set, set-get_or, length-append, length-set}
use Rattle.std.proofs.lemmas.List.{length-take-le, get_or-map, take_more}
use Rattle.std.proofs.lemmas.List.Elements.{filter-append}
use Rattle.std.proofs.lemmas.List.Folds.{list_any_at}
use Rattle.std.proofs.lemmas.List.Quantifiers.{position-Some}
use Rattle.std.proofs.lemmas.Option.{get_or_from_slice_get}
use Rattle.njh_anteroom.specs.Addresses.{are_distinct, is_among, is_loopback}
use Rattle.njh_anteroom.specs.Next.{displaced, displacement, entry_at, entry_of, first_moment, greatest_rank}
use Rattle.njh_anteroom.specs.Next.{has_paused, has_rank, last_of_greatest, last_place, next_place, rank_in}
use Rattle.njh_anteroom.specs.Remembered.{has_blemish, is_recent, rank_at, rank_of, remembered_of, until_of}
use Rattle.njh_anteroom.specs.Waiting.{is_from, number_in, numbers_in, place_of, HasPlace, IsQueue}
use Rattle.njh_anteroom.specs.code.Seats.{IsFree}
use Rattle.njh_anteroom.specs.declared.entry.Entry.{Entry}
use Rattle.njh_anteroom.specs.declared.entry.Entry.TheVariants.{Added, TurnedAway}
use Rattle.njh_anteroom.specs.declared.guest.Guest.{Guest}
use Rattle.njh_anteroom.specs.declared.remembered.Remembered.{Remembered}
use Rattle.njh_anteroom.proofs.NumberLaws.{any_filter, any_remove, distinct_push, distinct_remove, length_remove}
use Rattle.njh_anteroom.proofs.NumberLaws.{first_new, map_remove}

-- ---- a first place

past_case : {X : Type 0} (p : X → Bool) (x : X) (xs : List X) (b : Bool) → p x ≡ b
    → length (x ∷ xs) ≤ cond (not b) (1 + position_or_len p xs) 0
    → (length xs ≤ position_or_len p xs → list_any p xs ≡ false) → list_any p (x ∷ xs) ≡ false
past_case p x xs true is past rest = absurd (omega arith)
past_case p x xs false is past rest = rw is (rest (omega arith))

past_none : {X : Type 0} (p : X → Bool) (xs : List X) → length xs ≤ position_or_len p xs → list_any p xs ≡ false
past_none p [] past = refl
past_none p (x ∷ xs) past = past_case p x xs (p x) refl past (past_none p xs)

none_case : (a b : ℕ) (t : Bool) → ltb a b ≡ t → cond t (Some a) None ≡ None → b ≤ a
none_case a b true is none = cc
none_case a b false is none = ltb-false a b is

-- no place, nobody
pub none_there : {X : Type 0} (p : X → Bool) (xs : List X) → position p xs ≡ None → list_any p xs ≡ false
none_there p xs none =
    past_none p xs (none_case (position_or_len p xs) (length xs) (ltb (position_or_len p xs) (length xs)) refl none)

pub within : {X : Type 0} (p : X → Bool) (xs : List X) (i : ℕ) → position p xs ≡ Some i → i < length xs
within p [] i at = cc
within p (x ∷ xs) i at = (position-Some p (x ∷ xs) i x at).0

-- a place, somebody
pub some_there : {X : Type 0} (p : X → Bool) (xs : List X) (i : ℕ) → position p xs ≡ Some i → list_any p xs ≡ true
some_there p [] i at = cc
some_there p (x ∷ xs) i at =
    let there = position-Some p (x ∷ xs) i x at in list_any_at p (x ∷ xs) i x there.0 there.1

pub passes_at : {X : Type 0} (p : X → Bool) (xs : List X) (i : ℕ) (one : X) → position p xs ≡ Some i
    → slice_get xs i ≡ Some one → p one ≡ true
passes_at p xs i one at is =
    let there = position-Some p xs i one at in
    subst (λ x. p x ≡ true) (get_or_from_slice_get xs i one one is) there.1

all_fail : {X : Type 0} (p : X → Bool) (xs : List X) → list_any p xs ≡ false → All (λ x. p x ≡ false) xs
all_fail p xs none k d there =
    false_from_ne_true (p (get_or xs k d)) (λ passes.
    both_ways (list_any p xs) none (list_any_at p xs k d there passes))

-- ---- one from an address that waits takes its place

pub number_at : {C : Type 0} (n : ℕ) (waiting : List (Guest C)) (place : ℕ) → position (is_from n) waiting ≡ Some place
    → get_or (numbers_in waiting) place n ≡ n
number_at n [] place at = cc
number_at n (guest ∷ waiting) place at =
    let there = position-Some (is_from n) (guest ∷ waiting) place guest at in
    get_or-map number_in (guest ∷ waiting) place guest n there.0
    ∙ eqb-true (number_in (get_or (guest ∷ waiting) place guest)) n there.1

map_any : {X : Type 0} (f : X → ℕ) (n : ℕ) (xs : List X)
    → is_among n (map f xs) ≡ list_any (λ x. eqb (f x) n) xs
map_any f n [] = refl
map_any f n (x ∷ xs) = ap (λ (b : Bool). eqb (f x) n || b) (map_any f n xs)

pub free_where_none : {C : Type 0} (n : ℕ) (waiting : List (Guest C)) → position (is_from n) waiting ≡ None
    → is_among n (numbers_in waiting) ≡ false
free_where_none n waiting none = map_any number_in n waiting ∙ none_there (is_from n) waiting none

pub queue_renewed : {C : Type 0} (waiting : List (Guest C)) (place : ℕ) (guest : Guest C) → IsQueue waiting
    → get_or (numbers_in waiting) place (number_in guest) ≡ number_in guest
    → IsQueue (set waiting place guest)
queue_renewed waiting place guest q same =
    let numbers : numbers_in (set waiting place guest) ≡ numbers_in waiting =
    map-set number_in waiting place guest
    ∙ (ap (set (numbers_in waiting) place) (sym same)
    ∙ set-get_or (numbers_in waiting) place (number_in guest)) in record {
      few = omega (arith, length-set waiting place guest, q.few);
      distinct = ap (λ (ns : List ℕ). are_distinct (filter (λ n. not (is_loopback n)) ns)) numbers ∙ q.distinct;
    }

-- ---- one more

added_case : (n : ℕ) (ns : List ℕ) (b : Bool) → are_distinct ns ≡ true → (b ≡ false → is_among n ns ≡ false)
    → are_distinct (ns ++ cond (not b) (n ∷ []) []) ≡ true
added_case n ns true all free = ap are_distinct (append-nil ns) ∙ all
added_case n ns false all free = distinct_push ns n all (free refl)

pub queue_added : {C : Type 0} (waiting : List (Guest C)) (guest : Guest C) → IsQueue waiting → length waiting < 8
    → IsFree (number_in guest) waiting → IsQueue (waiting ++ guest ∷ [])
queue_added waiting guest q room free =
    let n = number_in guest in
    let test : ℕ → Bool = λ m. not (is_loopback m) in
    let numbers : filter test (numbers_in (waiting ++ guest ∷ []))
    ≡ filter test (numbers_in waiting) ++ filter test (n ∷ []) =
    ap (filter test) (map-append number_in waiting (guest ∷ []))
    ∙ filter-append test (numbers_in waiting) (n ∷ []) in record {
      few = omega (arith, length-append waiting (guest ∷ []));
      distinct = ap are_distinct numbers
          ∙ added_case n (filter test (numbers_in waiting)) (is_loopback n) q.distinct
          (λ stranger. any_filter (λ m. eqb m n) test (numbers_in waiting) (free stranger));
    }

-- ---- one less

pub queue_removed : {C : Type 0} (waiting : List (Guest C)) (i : ℕ) → IsQueue waiting → IsQueue (remove waiting i)
queue_removed waiting i q = record {
  few = let less = length_remove waiting i in omega (arith, q.few);
  distinct = ap (λ (ns : List ℕ). are_distinct (filter (λ n. not (is_loopback n)) ns)) (map_remove number_in waiting i)
      ∙ distinct_remove (λ n. not (is_loopback n)) (numbers_in waiting) i q.distinct;
}

pub free_removed : {C : Type 0} (n : ℕ) (waiting : List (Guest C)) (i : ℕ) → IsFree n waiting
    → IsFree n (remove waiting i)
free_removed n waiting i free stranger =
    ap (is_among n) (map_remove number_in waiting i) ∙ any_remove (λ m. eqb m n) (numbers_in waiting) i (free stranger)

-- ---- who was first may wait again

among_case : (n m : ℕ) (kept ns : List ℕ) (b : Bool) → is_loopback m ≡ b → is_loopback n ≡ false
    → is_among n (cond (not b) (m ∷ kept) kept) ≡ false → (is_among n kept ≡ false → is_among n ns ≡ false)
    → is_among n (m ∷ ns) ≡ false
among_case n m kept ns true is stranger none rest =
    let differs : eqb m n ≡ false =
    ne_eqb m n (λ same. both_ways (is_loopback n) stranger (ap is_loopback (sym same) ∙ is)) in
    or_from (eqb m n) (is_among n ns) differs (rest none)
among_case n m kept ns false is stranger none rest =
    let parts = or_parts (eqb m n) (is_among n kept) none in
    or_from (eqb m n) (is_among n ns) parts.0 (rest parts.1)

among_all : (n : ℕ) (ns : List ℕ) → is_loopback n ≡ false
    → is_among n (filter (λ m. not (is_loopback m)) ns) ≡ false → is_among n ns ≡ false
among_all n [] stranger none = refl
among_all n (m ∷ ns) stranger none =
    among_case n m (filter (λ k. not (is_loopback k)) ns) ns (is_loopback m) refl stranger none
    (among_all n ns stranger)

stranger_case : (n : ℕ) (kept : List ℕ) (b : Bool) → b ≡ false
    → are_distinct (cond (not b) (n ∷ kept) kept) ≡ true → is_among n kept ≡ false
stranger_case n kept true stranger all = cc
stranger_case n kept false stranger all = first_new n kept all

first_returns : {C : Type 0} (guest : Guest C) (rest : List (Guest C)) → IsQueue (guest ∷ rest)
    → HasPlace (number_in guest) rest
first_returns guest rest q =
    let n = number_in guest in (
      omega (arith, q.few),
      λ stranger. among_all n (numbers_in rest) stranger
          (stranger_case n (filter (λ m. not (is_loopback m)) (numbers_in rest)) (is_loopback n) stranger q.distinct),
    )

pub taken_returns : {C : Type 0} (waiting : List (Guest C)) (guest : Guest C) → slice_get waiting 0 ≡ Some guest
    → IsQueue waiting → HasPlace (number_in guest) (remove waiting 0)
taken_returns [] guest is q = cc
taken_returns {C} (first ∷ rest) guest is q =
    let At : Guest C → Type 0 = λ one. HasPlace (number_in one) rest in
    subst At (get_or_from_slice_get (first ∷ rest) 0 guest guest is) (first_returns first rest q)

-- ---- the last place

last_case : (last : Option ℕ) (n : ℕ) (b : Bool) (otherwise : Option ℕ)
    → option_or (option_map suc (cond b (Some n) last)) otherwise
    ≡ cond b (Some (suc n)) (option_or (option_map suc last) otherwise)
last_case last n true otherwise = refl
last_case last n false otherwise = refl

last_push : {X : Type 0} (test : X → Bool) (xs : List X) (x : X)
    → last_place test (xs ++ x ∷ []) ≡ cond (test x) (Some (length xs)) (last_place test xs)
last_push test [] x = refl
last_push test (y ∷ ys) x =
    ap (λ (last : Option ℕ). option_or (option_map suc last) (cond (test y) (Some 0) None)) (last_push test ys x)
    ∙ last_case (last_place test ys) (length ys) (test x) (cond (test y) (Some 0) None)

pub last_more : {X : Type 0} (test : X → Bool) (xs : List X) (n : ℕ) (d : X) → n < length xs
    → last_place test (take (n + 1) xs) ≡ cond (test (get_or xs n d)) (Some n) (last_place test (take n xs))
last_more test xs n d there =
    let x = get_or xs n d in
    ap (last_place test) (take_more xs n d there)
    ∙ (last_push test (take n xs) x
    ∙ ap (λ (m : ℕ). cond (test x) (Some m) (last_place test (take n xs))) (length-take-le n xs (omega arith)))

within_case : (last : Option ℕ) (b : Bool) (i n : ℕ) → ((k : ℕ) → last ≡ Some k → k < n)
    → option_or (option_map suc last) (cond b (Some 0) None) ≡ Some i → i < n + 1
within_case None true i n front at = let zero_is : 0 ≡ i = cc in omega arith
within_case None false i n front at = cc
within_case (Some k) b i n front at = let next : suc k ≡ i = cc in let less = front k refl in omega arith

pub last_within : {X : Type 0} (test : X → Bool) (xs : List X) (i : ℕ) → last_place test xs ≡ Some i → i < length xs
last_within test [] i at = cc
last_within test (x ∷ xs) i at =
    let one = within_case (last_place test xs) (test x) i (length xs) (last_within test xs) at in omega arith

no_last_case : (last : Option ℕ) (b : Bool) → option_or (option_map suc last) (cond b (Some 0) None) ≡ None
    → (last ≡ None) × (b ≡ false)
no_last_case None true none = cc
no_last_case None false none = (refl, refl)
no_last_case (Some k) b none = cc

-- no last place, nobody
no_last : {X : Type 0} (test : X → Bool) (xs : List X) → last_place test xs ≡ None → list_any test xs ≡ false
no_last test [] none = refl
no_last test (x ∷ xs) none =
    let parts = no_last_case (last_place test xs) (test x) none in rw parts.1 (no_last test xs parts.0)

pub last_step : {X : Type 0} (test : X → Bool) (xs : List X) (n : ℕ) (x : X) (last after : Option ℕ) (b : Bool)
    → n < length xs → x ≡ get_or xs n x → last ≡ last_place test (take n xs) → b ≡ test x
    → after ≡ cond b (Some n) last → after ≡ last_place test (take (n + 1) xs)
last_step test xs n x last after b there is so_far tested step =
    step
    ∙ (ap (λ (t : Bool). cond t (Some n) last) (tested ∙ ap test is)
    ∙ (ap (λ (o : Option ℕ). cond (test (get_or xs n x)) (Some n) o) so_far ∙ sym (last_more test xs n x there)))

pub if_some_is : {X : Type 0} {P : X → Type 0} (o : Option X) → ((x : X) → o ≡ Some x → P x) → IfSome o P
if_some_is None holds = tt
if_some_is (Some x) holds = holds x refl

-- ---- the first moment

least_at_most : {X : Type 0} (f : X → ℕ) (m : ℕ) (xs : List X) → fold (λ least x. min least (f x)) m xs ≤ m
least_at_most f m [] = omega arith
least_at_most f m (x ∷ xs) = let rest = least_at_most f (min m (f x)) xs in omega arith

least_below : {X : Type 0} (f : X → ℕ) (now m : ℕ) (xs : List X) → list_any (λ x. leb (f x) now) xs ≡ true
    → fold (λ least x. min least (f x)) m xs ≤ now
least_below f now m [] some = cc
least_below f now m (x ∷ xs) some =
    elim (or_cases (leb (f x) now) (list_any (λ y. leb (f y) now) xs) some) [
      | inl here ↦
          let rest = least_at_most f (min m (f x)) xs in
          let early = leb-true (f x) now here in omega arith
      | inr later ↦ least_below f now (min m (f x)) xs later
    ]

least_above : {X : Type 0} (f : X → ℕ) (now m : ℕ) (xs : List X) → now < m → list_any (λ x. leb (f x) now) xs ≡ false
    → now < fold (λ least x. min least (f x)) m xs
least_above f now m [] late none = late
least_above f now m (x ∷ xs) late none =
    let parts = or_parts (leb (f x) now) (list_any (λ y. leb (f y) now) xs) none in
    let here = leb-false (f x) now parts.0 in least_above f now (min m (f x)) xs (omega arith) parts.1

any_weaker : {X : Type 0} (p q : X → Bool) (goes : (x : X) → p x ≡ true → q x ≡ true) (xs : List X)
    → list_any p xs ≡ true → list_any q xs ≡ true
any_weaker p q goes [] some = cc
any_weaker p q goes (x ∷ xs) some =
    elim (or_cases (p x) (list_any p xs) some) [
      | inl here ↦ or_left (q x) (list_any q xs) (goes x here)
      | inr later ↦ or_right (q x) (list_any q xs) (any_weaker p q goes xs later)
    ]

-- ---- ranks

rank_case : (b s : Bool) → cond b 2 (cond s 0 1) ≤ 2
rank_case true s = omega arith
rank_case false true = omega arith
rank_case false false = omega arith

no_more_ranks : (now : ℕ) (o : Option Remembered) → option_map_or (rank_at now) o 1 ≤ 2
no_more_ranks now None = omega arith
no_more_ranks now (Some r) = rank_case (has_blemish now r) r.had_session

clean_case : (now : ℕ) (r : Remembered) (b : Bool) → has_blemish now r ≡ b → cond b 2 (cond r.had_session 0 1) < 2
    → leb r.until now ≡ true
clean_case now r true is low = absurd (omega arith)
clean_case now r false is low =
    let parts = or_parts (is_recent now r.refused) (ltb now r.until) is in
    le-leb r.until now (ltb-false now r.until parts.1)

paused_case : (now : ℕ) (o : Option Remembered) → option_map_or (rank_at now) o 1 < 2
    → leb (option_map_or (λ r. r.until) o 0) now ≡ true
paused_case now None low = le-leb 0 now (omega arith)
paused_case now (Some r) low = clean_case now r (has_blemish now r) refl low

-- the pause of one who is known or new is over
has_paused_clean : {C : Type 0} (rank now : ℕ) (all : List Remembered) (guest : Guest C) → rank < 2
    → has_rank rank now all guest ≡ true → has_paused now all guest ≡ true
has_paused_clean rank now all guest low has =
    let is : rank_in now all guest ≡ rank = eqb-true (rank_in now all guest) rank has in
    paused_case now (remembered_of (number_in guest) all) (omega (arith, is))

none_of_rank : {C : Type 0} (rank now : ℕ) (all : List Remembered) (waiting : List (Guest C))
    → position (has_rank rank now all) waiting ≡ None → All (λ guest. rank_in now all guest ≡ rank → ⊥) waiting
none_of_rank rank now all waiting none k d there =
    eqb-false (rank_in now all (get_or waiting k d)) rank
    (all_fail (has_rank rank now all) waiting (none_there (has_rank rank now all) waiting none) k d there)

rank_at_place : {C : Type 0} (rank now : ℕ) (all : List Remembered) (waiting : List (Guest C)) (place : ℕ)
    (one : Guest C) → position (has_rank rank now all) waiting ≡ Some place → slice_get waiting place ≡ Some one
    → rank_in now all one ≡ rank
rank_at_place rank now all waiting place one at is =
    eqb-true (rank_in now all one) rank (passes_at (has_rank rank now all) waiting place one at is)

-- ---- who is next

first_case : {C : Type 0} (now : ℕ) (all : List Remembered) (waiting : List (Guest C)) (place : ℕ) (one : Guest C)
    (o p : Option ℕ) → position (has_rank 0 now all) waiting ≡ o → position (has_rank 1 now all) waiting ≡ p
    → Some place ≡ option_or (option_or o p) (position (has_paused now all) waiting)
    → slice_get waiting place ≡ Some one → All (λ guest. rank_in now all one ≤ rank_in now all guest) waiting
first_case now all waiting place one None None first second next is =
    λ k d there.
    let most = no_more_ranks now (remembered_of (number_in one) all) in
    let not_known = none_of_rank 0 now all waiting first k d there in
    let not_new = none_of_rank 1 now all waiting second k d there in omega (arith, most, not_known, not_new)
first_case now all waiting place one None (Some i) first second next is =
    λ k d there.
    let same : Some i ≡ Some place = cc in
    let one_is = rank_at_place 1 now all waiting place one (second ∙ same) is in
    let not_known = none_of_rank 0 now all waiting first k d there in omega (arith, one_is, not_known)
first_case now all waiting place one (Some i) p first second next is =
    λ k d there.
    let same : Some i ≡ Some place = cc in
    let one_is = rank_at_place 0 now all waiting place one (first ∙ same) is in omega (arith, one_is)

-- nobody of a lesser rank waits than who is next
pub first_law : {C : Type 0} (now : ℕ) (all : List Remembered) (waiting : List (Guest C)) (place : ℕ) (one : Guest C)
    → Some place ≡ next_place now all waiting → slice_get waiting place ≡ Some one
    → All (λ guest. rank_in now all one ≤ rank_in now all guest) waiting
first_law now all waiting place one next is =
    first_case now all waiting place one (position (has_rank 0 now all) waiting) (position (has_rank 1 now all) waiting)
    refl refl next is

due_case : {C : Type 0} (now : ℕ) (all : List Remembered) (waiting : List (Guest C)) (place : ℕ) (o p : Option ℕ)
    → position (has_rank 0 now all) waiting ≡ o → position (has_rank 1 now all) waiting ≡ p
    → Some place ≡ option_or (option_or o p) (position (has_paused now all) waiting)
    → list_any (has_paused now all) waiting ≡ true
due_case now all waiting place None None first second next = some_there (has_paused now all) waiting place (sym next)
due_case now all waiting place None (Some i) first second next =
    any_weaker (has_rank 1 now all) (has_paused now all) (λ guest. has_paused_clean 1 now all guest (omega arith))
    waiting (some_there (has_rank 1 now all) waiting i second)
due_case now all waiting place (Some i) p first second next =
    any_weaker (has_rank 0 now all) (has_paused now all) (λ guest. has_paused_clean 0 now all guest (omega arith))
    waiting (some_there (has_rank 0 now all) waiting i first)

-- nobody is next before the first moment
pub due_law : {C : Type 0} (now : ℕ) (all : List Remembered) (waiting : List (Guest C)) (place : ℕ)
    → Some place ≡ next_place now all waiting → first_moment all waiting ≤ now
due_law now all waiting place next =
    least_below (λ guest. until_of all (number_in guest)) now 18446744073709551615 waiting
    (due_case now all waiting place (position (has_rank 0 now all) waiting) (position (has_rank 1 now all) waiting)
    refl refl next)

no_second : {X : Type 0} (o p : Option X) → None ≡ option_or o p → p ≡ None
no_second None p none = sym none
no_second (Some x) p none = cc

-- from the first moment on somebody is
pub in_time_law : {C : Type 0} (now : ℕ) (all : List Remembered) (waiting : List (Guest C))
    → None ≡ next_place now all waiting → first_moment all waiting ≤ now → now < 18446744073709551615 → ⊥
in_time_law now all waiting none due late =
    let after = least_above (λ guest. until_of all (number_in guest)) now 18446744073709551615 waiting late
    (none_there (has_paused now all) waiting
    (no_second (option_or (position (has_rank 0 now all) waiting) (position (has_rank 1 now all) waiting))
    (position (has_paused now all) waiting) none)) in omega arith

-- ---- the greatest rank

greatest_from : {X : Type 0} (f : X → ℕ) (m : ℕ) (xs : List X) → m ≤ fold (λ greatest x. max greatest (f x)) m xs
greatest_from f m [] = omega arith
greatest_from f m (x ∷ xs) = let rest = greatest_from f (max m (f x)) xs in omega arith

greatest_bounds : {X : Type 0} (f : X → ℕ) (m : ℕ) (xs : List X) (k : ℕ) (d : X) → k < length xs
    → f (get_or xs k d) ≤ fold (λ greatest x. max greatest (f x)) m xs
greatest_bounds f m [] k d there = absurd (omega arith)
greatest_bounds f m (x ∷ xs) zero d there = let rest = greatest_from f (max m (f x)) xs in omega arith
greatest_bounds f m (x ∷ xs) (suc k) d there = greatest_bounds f (max m (f x)) xs k d (omega arith)

reached_case : {X : Type 0} (f : X → ℕ) (m g : ℕ) (x : X) (xs : List X) (b : Bool) → eqb (f x) g ≡ b
    → max m (f x) ≤ g → m < g → (max m (f x) < g → list_any (λ y. eqb (f y) g) xs ≡ true)
    → list_any (λ y. eqb (f y) g) (x ∷ xs) ≡ true
reached_case f m g x xs true is most more rest = or_left (eqb (f x) g) (list_any (λ y. eqb (f y) g) xs) is
reached_case f m g x xs false is most more rest =
    let differs = eqb-false (f x) g is in
    or_right (eqb (f x) g) (list_any (λ y. eqb (f y) g) xs) (rest (omega (arith, differs)))

-- if it is above the start somebody has it
greatest_reached : {X : Type 0} (f : X → ℕ) (m g : ℕ) (xs : List X) → fold (λ greatest x. max greatest (f x)) m xs ≡ g
    → m < g → list_any (λ y. eqb (f y) g) xs ≡ true
greatest_reached f m g [] is more = absurd (omega arith)
greatest_reached f m g (x ∷ xs) is more =
    let most = greatest_from f (max m (f x)) xs in
    reached_case f m g x xs (eqb (f x) g) refl (omega (arith, is, most)) more
    (greatest_reached f (max m (f x)) g xs is)

-- ---- who is turned away

room_case : (o : Option ℕ) (t : Bool) (other : Entry) → t ≡ true → entry_at o (cond t Added other) ≡ TurnedAway → ⊥
room_case None true other has gone = cc
room_case None false other has gone = cc
room_case (Some place) t other has gone = cc

pub room_law : {C : Type 0} (number now : ℕ) (may_grow : Bool) (all : List Remembered) (waiting : List (Guest C))
    → may_grow ≡ true → length waiting < 8 → entry_of number now may_grow all waiting ≡ TurnedAway → ⊥
room_law number now may_grow all waiting may few gone =
    room_case (place_of number waiting) (may_grow && ltb (length waiting) 8)
    (displacement (rank_of now all number) now all waiting)
    (and_from may_grow (ltb (length waiting) 8) may (lt-ltb (length waiting) 8 few)) gone

welcome_case : (o : Option ℕ) (t less : Bool) (last : Option ℕ) → less ≡ true
    → entry_at o (cond t Added (cond less (displaced last) TurnedAway)) ≡ TurnedAway → last ≡ None
welcome_case (Some place) t less last is gone = cc
welcome_case None true less last is gone = cc
welcome_case None false false last is gone = cc
welcome_case None false true None is gone = refl
welcome_case None false true (Some place) is gone = cc

not_above : {C : Type 0} (rank now : ℕ) (all : List Remembered) (waiting : List (Guest C))
    → rank < greatest_rank now all waiting → last_of_greatest now all waiting ≡ None → ⊥
not_above rank now all waiting less none =
    let greatest = greatest_rank now all waiting in
    both_ways (list_any (has_rank greatest now all) waiting) (no_last (has_rank greatest now all) waiting none)
    (greatest_reached (rank_in now all) 0 greatest waiting refl (omega arith))

-- nobody of a greater rank waits than who is turned away
pub welcome_law : {C : Type 0} (number now : ℕ) (may_grow : Bool) (all : List Remembered) (waiting : List (Guest C))
    → entry_of number now may_grow all waiting ≡ TurnedAway
    → All (λ guest. rank_in now all guest ≤ rank_of now all number) waiting
welcome_law number now may_grow all waiting gone k d there =
    let rank = rank_of now all number in
    let greatest = greatest_rank now all waiting in
    let not_less : ltb rank greatest ≡ false = false_from_ne_true (ltb rank greatest) (λ less.
    not_above rank now all waiting (ltb-true rank greatest less)
    (welcome_case (place_of number waiting) (may_grow && ltb (length waiting) 8) (ltb rank greatest)
    (last_of_greatest now all waiting) less gone)) in
    let above = ltb-false rank greatest not_less in
    let below = greatest_bounds (rank_in now all) 0 waiting k d there in omega (arith, above, below)

-- ---- the same list under other names

pub found_in : {X : Type 0} (p : X → Bool) (a b c : List X) (r : Option ℕ) → r ≡ position p a → a ≡ b → b ≡ c
    → r ≡ position p c
found_in p a b c r found first second = found ∙ ap (position p) (first ∙ second)
