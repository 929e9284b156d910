-- What is remembered of addresses.
use Rattle.std.proofs.Common.{◌≡◌, ◌∙◌, ℕ, ◌<◌, ◌≤◌, ◌+◌, Bool, true, false, cond, not, eqb, ltb, List, [], ◌∷◌, ◌++◌}
use Rattle.std.proofs.Common.{ap, sym, refl, subst, arith, filter, get_or, length, drop, remove, Option, Some, None}
use Rattle.std.specs.List.{list_any}
use Rattle.std.proofs.lemmas.Bool.{or_from, or_parts}
use Rattle.std.proofs.lemmas.List.{at_drop_more, drop_all, length-append, map-append}
use Rattle.std.proofs.lemmas.List.Folds.{list_any-append}
use Rattle.njh_table.specs.Ranges.{number_of}
use Rattle.njh_anteroom.specs.Addresses.{are_distinct, is_among, is_loopback}
use Rattle.njh_anteroom.specs.Remembered.{first_to_go, is_of, numbers_of, remembered_of, with_room, without, IsMemory}
use Rattle.njh_anteroom.specs.declared.remembered.Remembered.{Remembered}
use Rattle.njh_anteroom.proofs.NumberLaws.{any_filter, any_remove, distinct_filter, distinct_less, distinct_push}
use Rattle.njh_anteroom.proofs.NumberLaws.{length_remove, map_remove, none_left}

-- ---- all but one address

numbers_case : (r : Remembered) (kept : List Remembered) (b : Bool)
    → numbers_of (cond b (r ∷ kept) kept) ≡ cond b (number_of r.address ∷ numbers_of kept) (numbers_of kept)
numbers_case r kept true = refl
numbers_case r kept false = refl

numbers_without : (n : ℕ) (all : List Remembered)
    → numbers_of (without n all) ≡ filter (λ m. not (eqb m n)) (numbers_of all)
numbers_without n [] = refl
numbers_without n (r ∷ all) =
    numbers_case r (without n all) (not (is_of n r))
    ∙ ap (λ (ns : List ℕ). cond (not (is_of n r)) (number_of r.address ∷ ns) ns) (numbers_without n all)

shorter_case : (r : Remembered) (kept : List Remembered) (n : ℕ) (b : Bool) → length kept ≤ n
    → length (cond b (r ∷ kept) kept) ≤ n + 1
shorter_case r kept n true few = omega arith
shorter_case r kept n false few = omega arith

shorter : (n : ℕ) (all : List Remembered) → length (without n all) ≤ length all
shorter n [] = omega arith
shorter n (r ∷ all) =
    let one = shorter_case r (without n all) (length all) (not (is_of n r)) (shorter n all) in omega arith

memory_without : (n : ℕ) (all : List Remembered) → IsMemory all → IsMemory (without n all)
memory_without n all m = record {
  few = let less = shorter n all in omega (arith, m.few);
  distinct = ap are_distinct (numbers_without n all) ∙ distinct_filter (λ k. not (eqb k n)) (numbers_of all) m.distinct;
  no_loopback = ap (list_any is_loopback) (numbers_without n all)
      ∙ any_filter is_loopback (λ k. not (eqb k n)) (numbers_of all) m.no_loopback;
}

pub memory_filtered : (n : ℕ) (all kept : List Remembered) → kept ≡ without n all → IsMemory all → IsMemory kept
memory_filtered n all kept is m = subst IsMemory (sym is) (memory_without n all m)

-- ---- one more

numbers_removed : (all : List Remembered) (i : ℕ) → numbers_of (remove all i) ≡ remove (numbers_of all) i
numbers_removed all i = map_remove (λ (r : Remembered). number_of r.address) all i

pub memory_removed : (all : List Remembered) (i : ℕ) → IsMemory all → IsMemory (remove all i)
memory_removed all i m = record {
  few = let less = length_remove all i in omega (arith, m.few);
  distinct = ap are_distinct (numbers_removed all i) ∙ distinct_less (numbers_of all) i m.distinct;
  no_loopback = ap (list_any is_loopback) (numbers_removed all i)
      ∙ any_remove is_loopback (numbers_of all) i m.no_loopback;
}

none_with_room : (n : ℕ) (all : List Remembered) (i : ℕ) (b : Bool) → is_among n (numbers_of all) ≡ false
    → is_among n (numbers_of (cond b all (remove all i))) ≡ false
none_with_room n all i true none = none
none_with_room n all i false none =
    ap (is_among n) (numbers_removed all i) ∙ any_remove (λ m. eqb m n) (numbers_of all) i none

none_of_it : (n : ℕ) (all : List Remembered) → is_among n (numbers_of (with_room (without n all))) ≡ false
none_of_it n all = none_with_room n (without n all) (first_to_go (without n all)) (ltb (length (without n all)) 64)
    (ap (is_among n) (numbers_without n all) ∙ none_left n (numbers_of all))

pub memory_noted : (r : Remembered) (all kept items : List Remembered)
    → kept ≡ with_room (without (number_of r.address) all) → items ≡ kept ++ r ∷ []
    → is_loopback (number_of r.address) ≡ false → IsMemory kept → length kept < 64 → IsMemory items
memory_noted r all kept items kept_is items_are stranger m few =
    let n = number_of r.address in
    let numbers : numbers_of items ≡ numbers_of kept ++ n ∷ [] =
    ap numbers_of items_are ∙ map-append (λ (one : Remembered). number_of one.address) kept (r ∷ []) in
    let new : is_among n (numbers_of kept) ≡ false =
    ap (λ (ones : List Remembered). is_among n (numbers_of ones)) kept_is ∙ none_of_it n all in record {
      few = omega (arith, ap length items_are, length-append kept (r ∷ []));
      distinct = ap are_distinct numbers ∙ distinct_push (numbers_of kept) n m.distinct new;
      no_loopback = ap (list_any is_loopback) numbers ∙ (list_any-append is_loopback (numbers_of kept) (n ∷ [])
          ∙ or_from (list_any is_loopback (numbers_of kept)) (list_any is_loopback (n ∷ [])) m.no_loopback
          (or_from (is_loopback n) false stranger refl));
    }

-- ---- who is remembered isn't loopback

found_case : (n : ℕ) (r one : Remembered) (all : List Remembered) (b : Bool)
    → (remembered_of n all ≡ Some one → is_loopback (number_of one.address) ≡ false)
    → is_loopback (number_of r.address) ≡ false → cond b (Some r) (remembered_of n all) ≡ Some one
    → is_loopback (number_of one.address) ≡ false
found_case n r one all true goes here found =
    let same : r ≡ one = cc in subst (λ (x : Remembered). is_loopback (number_of x.address) ≡ false) same here
found_case n r one all false goes here found = goes found

pub found_stranger : (n : ℕ) (all : List Remembered) (one : Remembered) → remembered_of n all ≡ Some one
    → list_any is_loopback (numbers_of all) ≡ false → is_loopback (number_of one.address) ≡ false
found_stranger n [] one found none = cc
found_stranger n (r ∷ all) one found none =
    let parts = or_parts (is_loopback (number_of r.address)) (list_any is_loopback (numbers_of all)) none in
    found_case n r one all (is_of n r) (λ there. found_stranger n all one there parts.1) parts.0 found

-- ---- looking for it

seen_case : (r : Remembered) (rest : Option Remembered) (b t : Bool) → b ≡ t
    → cond b (Some r) rest ≡ cond t (Some r) rest
seen_case r rest b t same = ap (λ (u : Bool). cond u (Some r) rest) same

-- what is found from a place on
pub found_on : (n : ℕ) (all : List Remembered) (i : ℕ) (d : Remembered) (b : Bool) → i < length all
    → b ≡ is_of n (get_or all i d)
    → remembered_of n (drop i all) ≡ cond b (Some (get_or all i d)) (remembered_of n (drop (i + 1) all))
found_on n all i d b there tested =
    at_drop_more (remembered_of n) all i d there
    ∙ seen_case (get_or all i d) (remembered_of n (drop (i + 1) all)) (is_of n (get_or all i d)) b (sym tested)

pub found_none : (n : ℕ) (all : List Remembered) (i : ℕ) → length all ≤ i → remembered_of n (drop i all) ≡ None
found_none n all i past = ap (remembered_of n) (drop_all i all past)
