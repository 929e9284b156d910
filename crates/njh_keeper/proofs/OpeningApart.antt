-- After the opening no number is used twice.
use Rattle.njh_keeper.proofs.Words
use Words.{◌≡◌, ◌≢◌, ℕ, zero, suc, ◌+◌, ◌-◌, ◌<◌, ◌≤◌, ◌^◌, ◌==◌, ◌&&◌, ◌||◌, min, nat_lt, nat_le, Bool, true, false}
use Words.{cond, List, [], ◌∷◌, ◌++◌, length, get_or, inl, inr, refl, sym, ap, filter, not, ◌∙◌, arith, cases_Bool}
use Words.{cases_lt, nat_tests, AllByRecursion, ⊤, StoredFile, File, SpoolContents, entry_of, AreDistinct, Part}
use Words.{AreFilesApart, own_rows, AreRemembered, entries, keyed_rows, owned_of, AllAreApart, Numbers, OwnFiles, keyed}
use Words.{may_be_given, one_if, uses_of_all, uses_of_files, free_at, is_used, key_behind, numbers_but, is_own, map}
use Words.{is_sum_by, IsPermutation, marked_by, replicate, rises, subst, unmarked}
use Rattle.njh_keeper.proofs.{BegunLaws.all_by_place, ListLaws.all_both}
use Rattle.njh_keeper.proofs.OpeningNumbers.{after_all, marks_of_files, unused_high}
use Rattle.njh_keeper.specs.code.Writing.{AreBelow, AreUnused}
use Rattle.njh_keeper.proofs.{RowLaws.owned_once, UsesLaws.{keyed-append, keyed-map, one_or_none}}
use Rattle.std.proofs.lemmas.{Bool.cond_both, List.Sorted.{IsPermutation-sym, sum_by-IsPermutation}}
use Rattle.{std.specs.List.sum_by, sqlite_trees.proofs.ListLemmas.{all-permutation, all_from_map}}

-- ---- numbers that rise

record Risen (least : ℕ) (keys : List ℕ) : Type 0 where
  once : (n : ℕ) → keyed (λ k. k) n keys ≤ 1
  high : (n : ℕ) → n < least → keyed (λ k. k) n keys ≡ 0
  low : AllByRecursion (λ k. k < 2 ^ 32 - 1) keys

risen : (least : ℕ) (keys : List ℕ) → rises least keys ≡ true → Risen least keys
risen least [] is = record { once = λ n. omega arith; high = λ n low. refl; low = tt }
risen least (key ∷ keys) is = split (nat_lt key least) refl (nat_le (2 ^ 32 - 1) key) refl is
    (λ more. risen (key + 1) keys more)
  where
    split : (a : Bool) → nat_lt key least ≡ a → (b : Bool) → nat_le (2 ^ 32 - 1) key ≡ b
        → cond (a || b) false (rises (key + 1) keys) ≡ true
        → (rises (key + 1) keys ≡ true → Risen (key + 1) keys) → Risen least (key ∷ keys)
    split true less b greatest is rest = absurd (cc is)
    split false less true greatest is rest = absurd (cc is)
    split false less false greatest is rest =
        let more = rest is in
        let high : least ≤ key = grind (arith, nat_tests, less) in
        record {
          once = λ n. grind (arith, nat_tests, more.high n, more.once n);
          high = λ n low. grind (arith, nat_tests, low, high, more.high n (omega (arith, low, high)));
          low = (grind (arith, nat_tests, greatest), more.low);
        }

-- ---- in another order

keyed_sum : (n : ℕ) (keys : List ℕ) → keyed (λ k. k) n keys ≡ sum_by (λ k. one_if (k == n)) keys
keyed_sum n keys = is_sum_by (keyed (λ k. k) n) (λ k. one_if (k == n)) refl (λ _ _. refl) keys

pub apart_by_rising : (files : List StoredFile) (sorted : List ℕ) → IsPermutation (map (λ f. f.file.key) files) sorted
    → rises 0 sorted ≡ true → AreFilesApart files
apart_by_rising files sorted same is =
    let keys : List ℕ = map (λ f. f.file.key) files in
    let one = risen 0 sorted is in
    record {
      once = λ n.
          let count : keyed (λ f. f.file.key) n files ≡ keyed (λ k. k) n sorted =
          sym (keyed-map (λ k. k) (λ (f : StoredFile). f.file.key) n files) ∙ keyed_sum n keys
          ∙ sym (sum_by-IsPermutation (λ k. one_if (k == n)) keys sorted same) ∙ sym (keyed_sum n sorted) in
          omega (arith, count, one.once n);
      low = all_from_map (λ k. k < 2 ^ 32 - 1) (λ (f : StoredFile). f.file.key) files
          (all-permutation (λ k. k < 2 ^ 32 - 1) sorted keys (IsPermutation-sym keys sorted same) one.low);
    }

-- ---- each row is one customer's at most

abbrev total : List (List ℕ) → (List ℕ → ℕ) → ℕ
total [] f = 0
total (name ∷ names) f = f name + total names f

abbrev Differ : List (List ℕ) → Type 0
Differ [] = ⊤
Differ (name ∷ names) = AllByRecursion (λ other. name ≢ other) names × Differ names

abbrev others_than : List ℕ → List (ℕ × File) → List (ℕ × File)
others_than name rows = filter (λ e. not (is_own name e.1)) rows

pub own_and_others : (n : ℕ) (name : List ℕ) (rows : List (ℕ × File))
    → keyed_rows n (owned_of name rows) + keyed_rows n (others_than name rows) ≡ keyed_rows n rows
own_and_others n name [] = refl
own_and_others n name (e ∷ es) = by (is_own name e.1) (own_and_others n name es)
  where
    by : (b : Bool) → keyed_rows n (owned_of name es) + keyed_rows n (others_than name es) ≡ keyed_rows n es
        → keyed_rows n (cond b (e ∷ owned_of name es) (owned_of name es))
        + keyed_rows n (cond (not b) (e ∷ others_than name es) (others_than name es)) ≡ keyed_rows n (e ∷ es)
    by true rest = omega (arith, rest)
    by false rest = omega (arith, rest)

owned_still : (name other : List ℕ) (rows : List (ℕ × File)) → name ≢ other
    → owned_of other (others_than name rows) ≡ owned_of other rows
owned_still name other [] apart = refl
owned_still name other (e ∷ es) apart = by (is_own name e.1) refl (owned_still name other es apart)
  where
    by : (b : Bool) → is_own name e.1 ≡ b → owned_of other (others_than name es) ≡ owned_of other es
        → owned_of other (cond (not b) (e ∷ others_than name es) (others_than name es)) ≡ owned_of other (e ∷ es)
    by true own rest =
        rest ∙ ap (λ b. cond b (e ∷ owned_of other es) (owned_of other es)) (sym (owned_once name other e.1 own apart))
    by false foreign rest = ap (λ xs. cond (is_own other e.1) (e ∷ xs) xs) rest

others_count : (n : ℕ) (name : List ℕ) (names : List (List ℕ)) (rows : List (ℕ × File))
    → AllByRecursion (λ other. name ≢ other) names
    → total names (λ other. keyed_rows n (owned_of other (others_than name rows)))
    ≡ total names (λ other. keyed_rows n (owned_of other rows))
others_count n name [] rows apart = refl
others_count n name (other ∷ names) rows apart =
    omega (arith, ap (keyed_rows n) (owned_still name other rows apart.0), others_count n name names rows apart.1)

rows_most : (names : List (List ℕ)) (n : ℕ) (rows : List (ℕ × File)) → Differ names
    → total names (λ name. keyed_rows n (owned_of name rows)) ≤ keyed_rows n rows
rows_most [] n rows differ = omega arith
rows_most (name ∷ names) n rows differ = omega (
  arith,
  own_and_others n name rows,
  others_count n name names rows differ.0,
  rows_most names n (others_than name rows) differ.1,
)

-- ---- the customers' numbers

differ : (names : List (List ℕ)) → AreDistinct names → Differ names
differ [] distinct = tt
differ (name ∷ names) distinct = (
  all_by_place (λ other. name ≢ other) names
      (λ j other low is same. distinct 0 (suc j) other (omega arith) (omega (arith, low)) (same ∙ is)),
  differ names (λ i j d less low. distinct (suc i) (suc j) d (omega (arith, less)) (omega (arith, low))),
)

uses_are : (n : ℕ) (names : List (List ℕ)) (owns : List OwnFiles) (f : List ℕ → ℕ) → length owns ≡ length names
    → ((c : ℕ) → (own : OwnFiles) → c < length owns → own ≡ get_or owns c own
    → uses_of_files n own ≡ f (get_or names c [])) → uses_of_all n owns ≡ total names f
uses_are n [] [] f long each = refl
uses_are n [] (own ∷ owns) f long each = absurd (omega (arith, long))
uses_are n (name ∷ names) [] f long each = absurd (omega (arith, long))
uses_are n (name ∷ names) (own ∷ owns) f long each =
    let here : uses_of_files n own ≡ f name = each 0 own (omega arith) refl in
    omega (
      arith,
      here,
      uses_are n names owns f (omega (arith, long)) (λ c other low is. each (suc c) other (omega (arith, low)) is),
    )

pub customers_use : (n : ℕ) (names : List (List ℕ)) (hub : List Part) (owns : List OwnFiles) (s t : SpoolContents)
    → AreDistinct names → length owns ≡ length names → AreRemembered names hub owns s t
    → uses_of_all n owns ≤ keyed_rows n s.files
customers_use n names hub owns s t distinct long all =
    let same = uses_are n names owns (λ name. keyed_rows n (own_rows name s)) long (λ c own low is.
    let one = all.each c own low is in
    let owned = one.opened.owned in
    omega (
      arith,
      one.keys n,
      ap (λ ps. keyed (λ p. p.key) n ps) owned.partial,
      ap (λ ss. keyed (λ s. s.key) n ss) owned.sweeps,
    )) in
    omega (arith, same, rows_most names n s.files (differ names distinct))

-- ---- and the writer's

pub used_is : (files : List StoredFile) (n : ℕ) → is_used files n ≡ false → keyed (λ f. f.file.key) n files ≡ 0
used_is [] n none = refl
used_is (f ∷ fs) n none = elim (cases_Bool (f.file.key == n)) [
  | inl same ↦ absurd (let never : true ≡ false = sym (ap (λ b. b || is_used fs n) same) ∙ none in cc)
  | inr other ↦
      let here = ap one_if other in
      let rest = used_is fs n (sym (ap (λ b. b || is_used fs n) other) ∙ none) in
      omega (arith, here, rest)
]

-- a number that passes isn't among these, and each other one is once at most and below the end
pub record AreBut (keys : List ℕ) (passes : ℕ → Bool) (end n : ℕ) : Type 0 where
  pub once : keyed (λ x. x) n keys ≤ 1
  pub passed : passes n ≡ true → keyed (λ x. x) n keys ≡ 0
  pub high : end ≤ n → keyed (λ x. x) n keys ≡ 0

none_are : (passes : ℕ → Bool) (end n : ℕ) → AreBut [] passes end n
none_are passes end n = record { once = omega arith; passed = λ is. refl; high = λ low. refl }

numbers_are : (passes : ℕ → Bool) (end n : ℕ) → AreBut (numbers_but passes end) passes end n
numbers_are passes zero n = none_are passes zero n
numbers_are passes (suc k) n =
    let rest = numbers_are passes k n in
    let push = keyed-append (λ x. x) n (numbers_but passes k) (k ∷ []) in
    cond_both (passes k) (numbers_but passes k) (numbers_but passes k ++ k ∷ []) (λ xs. AreBut xs passes (suc k) n)
    (λ is. record { once = rest.once; passed = rest.passed; high = λ low. rest.high (omega (arith, low)) })
    (λ is. record {
      once = grind (arith, nat_tests, push, rest.once, rest.high);
      passed = λ p. let other : k ≢ n = (λ e. absurd (let never : false ≡ true = sym is ∙ ap passes e ∙ p in cc)) in
          grind (arith, nat_tests, push, other, rest.passed p);
      high = λ low. grind (arith, nat_tests, push, low, rest.high (omega (arith, low)));
    })

-- where too many were taken there are none
pub few_are : (many : Bool) (passes : ℕ → Bool) (end n : ℕ)
    → AreBut (cond many [] (numbers_but passes end)) passes end n
few_are true passes end n = none_are passes end n
few_are false passes end n = numbers_are passes end n

-- no file's records stand under numbers that are emptied, nor under those without a mark
pub few_unused : (files : List StoredFile) (many : Bool) (end : ℕ)
    → AreUnused files (cond many [] (numbers_but (is_used files) end))
few_unused files many end = λ n used. (few_are many (is_used files) end n).passed used

pub unmarked_unused : (files : List StoredFile) (marks : List Bool) (next end : ℕ) → next ≤ 200000
    → AreBelow files next → marks ≡ marked_by (replicate 200000 false) files → AreUnused files (unmarked marks end)
unmarked_unused files marks next end few all are =
    subst (AreUnused files) (sym (ap (λ ms. unmarked ms end) are ∙ marks_of_files files next end (all few) few))
    (few_unused files false end)

pub rows_count : (n : ℕ) (files : List StoredFile) → keyed_rows n (entries files) ≡ keyed (λ f. f.file.key) n files
rows_count n files = keyed-map (λ (e : ℕ × File). e.1.key) entry_of n files

may_none : (next n : ℕ) → n < next → one_if (may_be_given next n) ≡ 0
may_none next n low =
    let no : nat_le next n ≡ false = grind (arith, nat_tests, low) in
    ap (λ b. one_if (b && nat_lt n (2 ^ 32 - 1))) no

module _ (files : List StoredFile) (names : List (List ℕ)) (hub : List Part) (owns : List OwnFiles)
    (s t : SpoolContents) (w : Numbers) (before : ℕ) (each : AreFilesApart files) (rows : entries files ≡ s.files)
    (distinct : AreDistinct names) (long : length owns ≡ length names) (all : AreRemembered names hub owns s t)
    (free : w.free_keys ≡ free_at files w.next_key)
    (next : w.next_key ≡ key_behind before files) where
  used : (n : ℕ) → uses_of_all n owns ≤ keyed (λ f. f.file.key) n files
  used n =
      let most = customers_use n names hub owns s t distinct long all in
      let same : keyed_rows n s.files ≡ keyed (λ f. f.file.key) n files =
      ap (keyed_rows n) (sym rows) ∙ rows_count n files in
      omega (arith, most, same)

  below : AllByRecursion (λ f. f.file.key < w.next_key) files
  below =
      all_both (λ (f : StoredFile). f.file.key < 2 ^ 32 - 1) (λ f. min (f.file.key + 1) (2 ^ 32 - 1) ≤ w.next_key)
      (λ f. f.file.key < w.next_key) (λ f low most. omega (arith, low, most)) files each.low
      (after_all (2 ^ 32 - 1) (λ f. f.file.key) before files w.next_key (omega (arith, next))).1

  pub all_are_apart : AllAreApart w owns
  all_are_apart n =
      let uses = used n in
      let once = each.once n in
      let same : keyed (λ x. x) n w.free_keys ≡ keyed (λ x. x) n (free_at files w.next_key) =
      ap (keyed (λ x. x) n) free in
      let are : AreBut (free_at files w.next_key) (is_used files) w.next_key n =
      few_are (nat_lt 200000 w.next_key) (is_used files) w.next_key n in
      elim (cases_lt n w.next_key) [
        | inl low ↦
            let none = may_none w.next_key n low in
            elim (cases_Bool (is_used files n)) [
              | inl is ↦
                  let free = are.passed is in omega (arith, uses, once, same, free, none)
              | inr is ↦
                  let none_used = used_is files n is in omega (arith, uses, same, none_used, none, are.once)
            ]
        | inr high ↦
            let none_used = used_is files n (unused_high files w.next_key n below high) in
            let most = one_or_none (may_be_given w.next_key n) in
            let free = are.high high in
            omega (arith, uses, same, none_used, most, free)
      ]
