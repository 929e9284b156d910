-- Rows that stand for numbered values.
use Rattle.std.proofs.Common.{◌≡◌, ℕ, pos, Bool, not, List, [], ◌∷◌, map, ◌<◌, ◌<ℤ◌, refl, ap, subst, ◌∙◌, arith}
use Rattle.std.specs.declared.cmp.Ordering.{Ordering}
use Rattle.std.specs.declared.cmp.Ordering.TheVariants.{Less, Equal, Greater}
use Rattle.std.specs.Ordering.{nat_cmp, int_cmp, match_ordering}
use Rattle.std.proofs.lemmas.Bool.Decides.{nat_tests}
use Rattle.sqlite_value.specs.declared.value.Value.TheVariants.{Int}
use Rattle.sqlite_value.specs.Order.{Row, value_cmp}
use Rattle.sqlite_value.proofs.OrderLemmas.{value_cmp-Int}
use Rattle.sqlite_trees.specs.Tree.{rowid, put_row}
use Rattle.std.specs.List.{AllByRecursion}
use Rattle.sqlite_keyed.proofs.ListLemmas.{ascending-filter, ascending_weaker}
use Rattle.sqlite_keyed.specs.Keyed.{IsKeyedBy}
use Rattle.njh_spoolfile.specs.Kept.{put, without, Rise}

same_order : (m n : ℕ) → int_cmp (pos m) (pos n) ≡ nat_cmp m n
same_order m n = grind (arith, nat_tests)

pub numbers_cmp : (m n : ℕ) → value_cmp (Int (pos m)) (Int (pos n)) ≡ nat_cmp m n
numbers_cmp m n = value_cmp-Int (pos m) (pos n) ∙ same_order m n

module _ {X : Type 0} (row : ℕ × X → Row) (ids : (e : ℕ × X) → rowid (row e) ≡ Int (pos e.0)) where
  placed : (new e : ℕ × X) (es : List (ℕ × X)) (o : Ordering) → put_row (row new) (map row es) ≡ map row (put new es)
      → match_ordering o (row e ∷ put_row (row new) (map row es)) (row new ∷ map row es) (row new ∷ row e ∷ map row es)
      ≡ map row (match_ordering o (e ∷ put new es) (new ∷ es) (new ∷ e ∷ es))
  placed new e es Less rest = ap (λ rows. row e ∷ rows) rest
  placed new e es Equal rest = refl
  placed new e es Greater rest = refl

  pub put_shown : (new : ℕ × X) (es : List (ℕ × X)) → put_row (row new) (map row es) ≡ map row (put new es)
  put_shown new [] = refl
  put_shown new (e ∷ es) =
      let order : value_cmp (rowid (row e)) (rowid (row new)) ≡ nat_cmp e.0 new.0 =
      rw (ids e, ids new) (numbers_cmp e.0 new.0) in
      ap (λ o. match_ordering o (row e ∷ put_row (row new) (map row es)) (row new ∷ map row es)
      (row new ∷ row e ∷ map row es)) order
      ∙ placed new e es (nat_cmp e.0 new.0) (put_shown new es)

-- ---- the order stays

pub below : (m n : ℕ) → nat_cmp m n ≡ Less → m < n
below m n h = grind (arith, nat_tests, h)

pub same : (m n : ℕ) → nat_cmp m n ≡ Equal → m ≡ n
same m n h = grind (arith, nat_tests, h)

pub above : (m n : ℕ) → nat_cmp m n ≡ Greater → n < m
above m n h = grind (arith, nat_tests, h)

in_integers : (m n : ℕ) → m < n → pos m <ℤ pos n
in_integers m n h = grind (arith, nat_tests, h)

module _ {X : Type 0} where
  pub all_put : (P : ℕ × X → Type 0) (new : ℕ × X) (es : List (ℕ × X)) → P new → AllByRecursion P es
      → AllByRecursion P (put new es)
  all_put P new [] one all = (one, tt)
  all_put P new (e ∷ es) one all = split (nat_cmp e.0 new.0) (all_put P new es one all.1)
    where
      split : (o : Ordering) → AllByRecursion P (put new es)
          → AllByRecursion P (match_ordering o (e ∷ put new es) (new ∷ es) (new ∷ e ∷ es))
      split Less rest = (all.0, rest)
      split Equal rest = (one, all.1)
      split Greater rest = (one, all)

  all_above : (m n : ℕ) → m < n → (es : List (ℕ × X)) → AllByRecursion (λ x. n < x.0) es
      → AllByRecursion (λ x. m < x.0) es
  all_above m n less [] all = tt
  all_above m n less (e ∷ es) all = (omega (arith, all.0), all_above m n less es all.1)

  pub put_rises : (new : ℕ × X) (es : List (ℕ × X)) → Rise es → Rise (put new es)
  put_rises new [] h = (tt, tt)
  put_rises new (e ∷ es) h = split (nat_cmp e.0 new.0) refl (put_rises new es h.1)
    where
      split : (o : Ordering) → nat_cmp e.0 new.0 ≡ o → Rise (put new es)
          → Rise (match_ordering o (e ∷ put new es) (new ∷ es) (new ∷ e ∷ es))
      split Less is rest = (all_put (λ x. e.0 < x.0) new es (below e.0 new.0 is) h.0, rest)
      split Equal is rest = (subst (λ n. AllByRecursion (λ x. n < x.0) es) (same e.0 new.0 is) h.0, h.1)
      split Greater is rest = ((above e.0 new.0 is, all_above new.0 e.0 (above e.0 new.0 is) es h.0), h)

  pub without_rises : (p : ℕ → Bool) (es : List (ℕ × X)) → Rise es → Rise (without p es)
  without_rises p es = ascending-filter (λ a b. a.0 < b.0) (λ e. not (p e.0)) es

  pub keyed : (es : List (ℕ × X)) → Rise es → IsKeyedBy (λ (e : ℕ × X). pos e.0) es
  keyed es h = ascending_weaker (λ a b. a.0 < b.0) (λ a b. pos a.0 <ℤ pos b.0) (λ a b. in_integers a.0 b.0) es h
