-- What DELETE takes out, where its rows stand for numbered values and its condition is one on the number.
use Rattle.std.proofs.Common.{◌≡◌, ℕ, suc, ◌<◌, ℤ, pos, Bool, true, false, not, ◌&&◌, ◌||◌, cond, List, [], ◌∷◌, ◌++◌}
use Rattle.std.proofs.Common.{map, filter, length, get_or, All, flat_map, refl, sym, ap, ◌∙◌, arith}
use Rattle.std.specs.List.{list_any, list_all}
use Rattle.std.specs.Ordering.{nat_cmp, is_eq}
use Rattle.std.proofs.lemmas.Bool.Decides.{nat_tests}
use Rattle.std.proofs.lemmas.List.Folds.{list_any_at, list_any_none}
use Rattle.std.proofs.lemmas.List.{length-map}
use Rattle.std.proofs.lemmas.List.Sorted.{length_permutation, list_any-IsPermutation}
use Rattle.sqlite_value.specs.declared.value.Value.TheVariants.{Int}
use Rattle.sqlite_value.specs.Order.{Row}
use Rattle.sqlite.specs.Tree.{Trees, rowid, without_rowid, has_rowid}
use Rattle.sqlite.specs.Edit.{id_in, without_all}
use Rattle.sqlite_rules.specs.Calls.{ids_of}
use Rattle.sqlite.specs.Term.{Term, Env, holds}
use Rattle.sqlite.specs.Query.{Query, IsAnswer, output, Output, matches}
use Rattle.njh_spoolfile.specs.Kept.{without}
use Rattle.njh_spoolfile.proofs.Meaning.{rowids_where}
use Rattle.njh_spoolfile.proofs.Rows.{numbers_cmp}

any_map : {X Y : Type 0} (p : Y → Bool) (f : X → Y) (xs : List X) → list_any p (map f xs) ≡ list_any (λ x. p (f x)) xs
any_map p f [] = refl
any_map p f (x ∷ xs) = ap (λ b. p (f x) || b) (any_map p f xs)

filter_map_is : {X Y : Type 0} (p : Y → Bool) (f : X → Y) (xs : List X)
    → filter p (map f xs) ≡ map f (filter (λ x. p (f x)) xs)
filter_map_is p f [] = refl
filter_map_is p f (x ∷ xs) = ap (λ ys. cond (p (f x)) (f x ∷ ys) ys) (filter_map_is p f xs) ∙ both (p (f x))
  where
    both : (b : Bool) → cond b (f x ∷ map f (filter (λ y. p (f y)) xs)) (map f (filter (λ y. p (f y)) xs))
        ≡ map f (cond b (x ∷ filter (λ y. p (f y)) xs) (filter (λ y. p (f y)) xs))
    both true = refl
    both false = refl

filter_same : {X : Type 0} (p q : X → Bool) (xs : List X)
    → ((i : ℕ) (d : X) → i < length xs → p (get_or xs i d) ≡ q (get_or xs i d)) → filter p xs ≡ filter q xs
filter_same p q [] h = refl
filter_same p q (x ∷ xs) h = rw (h 0 x (omega arith), filter_same p q xs (λ i d l. h (suc i) d (omega arith))) refl

-- a row that an earlier step left and a later one takes is gone either way
filter_twice : {X : Type 0} (p q : X → Bool) (xs : List X)
    → filter (λ x. not (q x)) (filter (λ x. not (p x)) xs) ≡ filter (λ x. not (p x || q x)) xs
filter_twice p q [] = refl
filter_twice p q (x ∷ xs) = step (p x) (filter_twice p q xs)
  where
    step : (b : Bool) → filter (λ y. not (q y)) (filter (λ y. not (p y)) xs) ≡ filter (λ y. not (p y || q y)) xs
        → filter (λ y. not (q y)) (cond (not b) (x ∷ filter (λ y. not (p y)) xs) (filter (λ y. not (p y)) xs))
        ≡ cond (not (b || q x)) (x ∷ filter (λ y. not (p y || q y)) xs) (filter (λ y. not (p y || q y)) xs)
    step true rest = rest
    step false rest = ap (λ ys. cond (not (q x)) (x ∷ ys) ys) rest

keeps_all : {X : Type 0} (xs : List X) → filter (λ x. not false) xs ≡ xs
keeps_all [] = refl
keeps_all (x ∷ xs) = ap (λ ys. x ∷ ys) (keeps_all xs)

pub without_all_is : (ids : List ℤ) (rows : List Row)
    → without_all rows ids ≡ filter (λ r. not (list_any (λ id. has_rowid id r) ids)) rows
without_all_is [] rows = sym (keeps_all rows)
without_all_is (id ∷ ids) rows = without_all_is ids (without_rowid id rows)
    ∙ filter_twice (has_rowid id) (λ r. list_any (λ i. has_rowid i r) ids) rows

same_number : (n : ℕ) → is_eq (nat_cmp n n) ≡ true
same_number n = grind (arith, nat_tests)

is_same : (m n : ℕ) → is_eq (nat_cmp m n) ≡ true → m ≡ n
is_same m n h = grind (arith, nat_tests, h)

module _ {X : Type 0} (p : ℕ → Bool) where
  -- what has the number of an element that passes is one that passes
  found_there : (es : List (ℕ × X)) (e : ℕ × X) → p e.0 ≡ false
      → All (λ x. (p x.0 && is_eq (nat_cmp e.0 x.0)) ≡ false) es
  found_there es e fails i d l = test (get_or es i d) (is_eq (nat_cmp e.0 (get_or es i d).0)) refl
    where
      test : (x : ℕ × X) (b : Bool) → is_eq (nat_cmp e.0 x.0) ≡ b → (p x.0 && b) ≡ false
      test x true is = let same : e.0 ≡ x.0 = is_same e.0 x.0 is in rw (← same, fails)
      test x false is = either (p x.0)
        where
          either : (b : Bool) → (b && false) ≡ false
          either true = refl
          either false = refl

  found : (es : List (ℕ × X)) (i : ℕ) (d : ℕ × X) → i < length es
      → list_any (λ x. p x.0 && is_eq (nat_cmp (get_or es i d).0 x.0)) es ≡ p (get_or es i d).0
  found es i d l = by_case (p (get_or es i d).0) refl
    where
      by_case : (b : Bool) → p (get_or es i d).0 ≡ b
          → list_any (λ x. p x.0 && is_eq (nat_cmp (get_or es i d).0 x.0)) es ≡ b
      by_case true passes = list_any_at (λ x. p x.0 && is_eq (nat_cmp (get_or es i d).0 x.0)) es i d l
          (rw (passes, same_number (get_or es i d).0))
      by_case false fails = list_any_none (λ x. p x.0 && is_eq (nat_cmp (get_or es i d).0 x.0)) es
          (found_there es (get_or es i d) fails)

module _ {X : Type 0} (row : ℕ × X → Row) (ids : (e : ℕ × X) → rowid (row e) ≡ Int (pos e.0)) (tree : ℕ)
    (passes : List Term) (params : Row) (p : ℕ → Bool)
    (agree : (e : ℕ × X) → list_all (holds (params ∷ row e ∷ [])) passes ≡ p e.0) where
  abbrev pub query : Query
  query = rowids_where tree passes

  abbrev pub step : Row → List Env
  step r = cond (list_all (holds (params ∷ r ∷ [])) passes) ((params ∷ r ∷ []) ∷ []) []

  abbrev shown_id : Output → ℤ
  shown_id o = id_in (rowid o.1)

  any_staged : (q : ℤ → Bool) (es : List (ℕ × X))
      → list_any (λ o. q (shown_id o)) (map (output query) (flat_map step (map row es)))
      ≡ list_any (λ e. p e.0 && q (pos e.0)) es
  any_staged q [] = refl
  any_staged q (e ∷ es) =
      ap (λ b. list_any (λ o. q (shown_id o))
      (map (output query) (cond b ((params ∷ row e ∷ []) ∷ []) [] ++ flat_map step (map row es)))) (agree e)
      ∙ by_case (p e.0) (any_staged q es)
    where
      by_case : (b : Bool) → list_any (λ o. q (shown_id o)) (map (output query) (flat_map step (map row es)))
          ≡ list_any (λ x. p x.0 && q (pos x.0)) es
          → list_any (λ o. q (shown_id o))
          (map (output query) (cond b ((params ∷ row e ∷ []) ∷ []) [] ++ flat_map step (map row es)))
          ≡ ((b && q (pos e.0)) || list_any (λ x. p x.0 && q (pos x.0)) es)
      by_case true rest = rw (ids e, rest)
      by_case false rest = rest

  staged_count : (es : List (ℕ × X)) → length (flat_map step (map row es)) ≡ length (filter (λ e. p e.0) es)
  staged_count [] = refl
  staged_count (e ∷ es) =
      ap (λ b. length (cond b ((params ∷ row e ∷ []) ∷ []) [] ++ flat_map step (map row es))) (agree e)
      ∙ by_case (p e.0) (staged_count es)
    where
      by_case : (b : Bool) → length (flat_map step (map row es)) ≡ length (filter (λ x. p x.0) es)
          → length (cond b ((params ∷ row e ∷ []) ∷ []) [] ++ flat_map step (map row es))
          ≡ length (cond b (e ∷ filter (λ x. p x.0) es) (filter (λ x. p x.0) es))
      by_case true rest = omega (arith, rest)
      by_case false rest = rest

  -- as many rows are taken as values pass
  pub deleted_count : (db : Trees) (es : List (ℕ × X)) (rows : List Row) → db tree ≡ map row es
      → matches db passes query.from (params ∷ []) ≡ flat_map step (db tree)
      → IsAnswer query db params rows → length (ids_of rows) ≡ length (filter (λ e. p e.0) es)
  deleted_count db es rows has from answer =
      let staged : answer.staged ≡ flat_map step (map row es) = answer.grouped ∙ from ∙ ap (flat_map step) has in
      length-map rows (λ r. id_in (rowid r)) ∙ ap (λ (rs : List Row). length rs) answer.shown
      ∙ length-map answer.ordered (λ (o : Output). o.1)
      ∙ length_permutation answer.kept answer.ordered answer.same
      ∙ ap (λ (os : List Output). length os) (answer.distinct ∙ ap (map (output query)) staged)
      ∙ length-map (flat_map step (map row es)) (output query) ∙ staged_count es

  pub deleted : (db : Trees) (es : List (ℕ × X)) (rows : List Row) → db tree ≡ map row es
      → matches db passes query.from (params ∷ []) ≡ flat_map step (db tree)
      → IsAnswer query db params rows → without_all (db tree) (ids_of rows) ≡ map row (without p es)
  deleted db es rows has from answer =
      let staged : answer.staged ≡ flat_map step (map row es) = answer.grouped ∙ from ∙ ap (flat_map step) has in
      let taken : (r : Row) → list_any (λ id. has_rowid id r) (ids_of rows)
      ≡ list_any (λ e. p e.0 && has_rowid (pos e.0) r) es = λ r.
      ap (λ all. list_any (λ id. has_rowid id r) (ids_of all)) answer.shown
      ∙ any_map (λ id. has_rowid id r) (λ row. id_in (rowid row)) (map (λ (o : Output). o.1) answer.ordered)
      ∙ any_map (λ row. has_rowid (id_in (rowid row)) r) (λ (o : Output). o.1) answer.ordered
      ∙ sym (list_any-IsPermutation (λ o. has_rowid (shown_id o) r) answer.kept answer.ordered answer.same)
      ∙ ap (list_any (λ o. has_rowid (shown_id o) r)) (answer.distinct ∙ ap (map (output query)) staged)
      ∙ any_staged (λ id. has_rowid id r) es in
      let seen : (e x : ℕ × X) → has_rowid (pos x.0) (row e) ≡ is_eq (nat_cmp e.0 x.0) =
      λ e x. rw (ids e) (ap is_eq (numbers_cmp e.0 x.0)) in
      without_all_is (ids_of rows) (db tree)
      ∙ ap (filter (λ r. not (list_any (λ id. has_rowid id r) (ids_of rows)))) has
      ∙ filter_map_is (λ r. not (list_any (λ id. has_rowid id r) (ids_of rows))) row es
      ∙ ap (map row) (filter_same (λ e. not (list_any (λ id. has_rowid id (row e)) (ids_of rows))) (λ e. not (p e.0)) es
      (λ i d l.
      ap not (taken (row (get_or es i d)) ∙ (λ j. list_any (λ x. p x.0 && seen (get_or es i d) x j) es)
      ∙ found p es i d l)))
