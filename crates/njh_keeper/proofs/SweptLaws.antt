-- What a round drops of the records of files that have left.
use Rattle.njh_keeper.proofs.Words
use Words.{◌≡◌, ◌⊎◌, inl, inr, ℕ, zero, suc, ◌+◌, ◌<◌, List, [], ◌∷◌, length, get_or, map, set, drop, take, refl}
use Words.{sym, ap, subst, arith, ◌∙◌, Option, Some, None, ◌≤◌}
use Words.{length-map, map-set, AllByRecursion, own_memory_of, slice_get, sweep_in}
use Rattle.std.{proofs.lemmas.Option.slice_get-get_or, specs.{Option.IsSomeAnd, Prelude.IfSome}}
use Rattle.sqlite.proofs.MarkLemmas.{slice_get-take}
use Rattle.njh_keeper.proofs.ListLaws.{all-map, all_weaker, at_place, within_seen}
use Rattle.njh_keeper.specs.code.Remembered.{OwnMemory}
use Rattle.njh_keeper.specs.code.Swept.{HasNoSweeps, HasSweeps, IsSwept, nothing, of_one, places_of}
use Rattle.njh_keeper.specs.code.Writing.{dead_in, dead_of}
use Rattle.njh_keeper.specs.declared.own_files.{OwnFiles.OwnFiles, Sweep.Sweep}

places_are_dead : (sweeps : List Sweep) → places_of (map sweep_in sweeps) ≡ dead_of sweeps
places_are_dead [] = refl
places_are_dead (s ∷ sweeps) = ap (λ n. dead_in s + n) (places_are_dead sweeps)

-- of a customer at a place that has such files rows were dropped
pub one_is_swept : (owns : List OwnFiles) (c : ℕ) (own own1 : OwnFiles) → c < length owns → own ≡ get_or owns c own
    → HasSweeps own → own1 ≡ record own { sweeps = own1.sweeps }
    → (own1.sweeps.items ≡ []) ⊎ (dead_of own1.sweeps.items + 512 ≤ dead_of own.sweeps.items)
    → IsSwept (map own_memory_of owns) (map own_memory_of (set owns c own1))
one_is_swept owns c own own1 there is has others swept =
    let before = places_are_dead own.sweeps.items in
    let behind = places_are_dead own1.sweeps.items in
    let long = length-map own.sweeps.items sweep_in in
    of_one c (own_memory_of own) (own_memory_of own1) (within_seen own_memory_of owns c there)
    (at_place own_memory_of owns c own there is) (omega (arith, has, long)) (map-set own_memory_of owns c own1)
    (ap own_memory_of others) (elim swept [
      | inl none ↦ inl (ap (map sweep_in) none)
      | inr fewer ↦ inr (omega (arith, fewer, before, behind))
    ])

-- none has such files
pub none_is_swept : (owns : List OwnFiles) → AllByRecursion HasNoSweeps owns
    → IsSwept (map own_memory_of owns) (map own_memory_of owns)
none_is_swept owns none =
    nothing (all-map (λ (m : OwnMemory). m.own.sweeps ≡ []) own_memory_of owns
    (all_weaker HasNoSweeps (λ own. map sweep_in own.sweeps.items ≡ []) (λ own empty. ap (map sweep_in) empty) owns
    none)) refl

-- ---- whose turn it is

pub get_behind : {X : Type 0} (n : ℕ) (xs : List X) (i : ℕ) → slice_get (drop n xs) i ≡ slice_get xs (n + i)
get_behind zero xs i = let same : i ≡ 0 + i = omega arith in ap (slice_get xs) same
get_behind (suc n) [] i = refl
get_behind (suc n) (x ∷ xs) i =
    let same : suc (n + i) ≡ suc n + i = omega arith in
    get_behind n xs i ∙ ap (slice_get (x ∷ xs)) same

-- one among the first so many
pub has_before : (r : Option ℕ) (n : ℕ) (owns : List OwnFiles) → IfSome r (λ place. place < n)
    → IfSome r (λ place. IsSomeAnd (slice_get (take n owns) place) HasSweeps)
    → IfSome r (λ place. IsSomeAnd (slice_get owns place) HasSweeps)
has_before None n owns low has = tt
has_before (Some place) n owns low has =
    subst (λ o. IsSomeAnd o HasSweeps) (slice_get-take n owns place low) has

-- at the place where a customer was found
pub has_there : (owns : List OwnFiles) (place : ℕ) (own : OwnFiles) → place < length owns → own ≡ get_or owns place own
    → IsSomeAnd (slice_get owns place) HasSweeps → HasSweeps own
has_there owns place own there is has =
    subst HasSweeps (sym is) (subst (λ o. IsSomeAnd o HasSweeps) (slice_get-get_or owns place own there) has)
