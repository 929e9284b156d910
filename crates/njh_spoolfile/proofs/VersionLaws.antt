-- Which version rows are of, and whether they have the mark.
use Rattle.std.proofs.Common.{◌≡◌, ℕ, zero, suc, pos, negsuc, Bool, true, false, not, ◌||◌, ◌==◌, cond, List, [], ◌∷◌}
use Rattle.std.proofs.Common.{map}
use Rattle.std.proofs.Common.{Option, None, Some, IsPermutation, refl, sym, ap, ◌∙◌, arith}
use Rattle.std.specs.List.{list_any}
use Rattle.std.specs.declared.cmp.Ordering.{Ordering}
use Rattle.std.specs.declared.cmp.Ordering.TheVariants.{Less, Equal, Greater}
use Rattle.std.specs.Ordering.{nat_cmp, match_ordering}
use Rattle.std.proofs.lemmas.Bool.Decides.{nat_tests}
use Rattle.std.proofs.lemmas.List.Sorted.{list_any-IsPermutation}
use Rattle.sqlite.specs.declared.types.Value.{Value}
use Rattle.sqlite.specs.declared.types.Value.TheVariants.{Null, Int, Real, Text, Blob}
use Rattle.sqlite.specs.Order.{Row}
use Rattle.sqlite.specs.Tree.{rowid, put_row}
use Rattle.njh_spoolfile.specs.Kept.{IsOf, has_number, is_known, is_number, is_value, put, version_in, version_row}
use Rattle.njh_spoolfile.specs.Kept.{without}
use Rattle.njh_spoolfile.specs.declared.versions.Version.{Version}
use Rattle.njh_spoolfile.specs.declared.versions.Version.TheVariants.{Older, Current}
use Rattle.njh_spoolfile.proofs.Rows.{put_shown, same}

-- by what is told of some rows: whether one is unknown, of this version, of an older one
abbrev by_tests : Bool → Bool → Bool → Option Version
by_tests unknown current older = cond unknown None (cond current (Some Current) (cond older (Some Older) None))

abbrev is_unknown : Row → Bool
is_unknown row = not (is_known row)

-- ---- the same rows in another order

any_map : (p : Value → Bool) (rows : List Row) → list_any p (map rowid rows) ≡ list_any (λ r. p (rowid r)) rows
any_map p [] = refl
any_map p (r ∷ rows) = ap (λ b. p (rowid r) || b) (any_map p rows)

same_any : (p : Value → Bool) (xs ys : List Row) → IsPermutation (map rowid xs) (map rowid ys)
    → list_any (λ r. p (rowid r)) xs ≡ list_any (λ r. p (rowid r)) ys
same_any p xs ys same = sym (any_map p xs) ∙ list_any-IsPermutation p _ _ same ∙ any_map p ys

pub same_number : (n : ℕ) (xs ys : List Row) → IsPermutation (map rowid xs) (map rowid ys)
    → has_number n xs ≡ has_number n ys
same_number n = same_any (is_value n)

pub same_version : (xs ys : List Row) → IsPermutation (map rowid xs) (map rowid ys) → version_in xs ≡ version_in ys
same_version xs ys same =
    λ i. by_tests (same_any (λ v. not (is_value 0 v || is_value 1 v || is_value 2 v || is_value 3 v)) xs ys same i)
    (same_number 3 xs ys same i) (same_number 1 xs ys same i || same_number 2 xs ys same i)

pub not_both : (rows : List Row) → IsOf Older rows → ¬ IsOf Current rows
not_both rows older current = absurd (let e = sym older ∙ current in cc)

-- ---- rows whose numbers are known, as numbered values

abbrev pub numbered_row : ℕ × List Value → Row
numbered_row e = Int (pos e.0) ∷ e.1

pub numbers : (e : ℕ × List Value) → rowid (numbered_row e) ≡ Int (pos e.0)
numbers e = refl

second : (a b : Bool) → (a || b) ≡ false → b ≡ false
second true b h = absurd (cc)
second false b h = h

shown : (rows : List Row) → list_any is_unknown rows ≡ false
    → (es : List (ℕ × List Value)) × (rows ≡ map numbered_row es)
shown [] known = ([], refl)
shown ([] ∷ rows) known = absurd (cc)
shown ((Null ∷ r) ∷ rows) known = absurd (cc)
shown ((Int (pos n) ∷ r) ∷ rows) known =
    let rest = shown rows (second (is_unknown (Int (pos n) ∷ r)) _ known) in
    ((n, r) ∷ rest.0, ap (λ (all : List Row). (Int (pos n) ∷ r) ∷ all) rest.1)
shown ((Int (negsuc n) ∷ r) ∷ rows) known = absurd (cc)
shown ((Real x ∷ r) ∷ rows) known = absurd (cc)
shown ((Text x ∷ r) ∷ rows) known = absurd (cc)
shown ((Blob x ∷ r) ∷ rows) known = absurd (cc)

any_number : (p : Row → Bool) (es : List (ℕ × List Value))
    → list_any p (map numbered_row es) ≡ list_any (λ e. p (numbered_row e)) es
any_number p [] = refl
any_number p (e ∷ es) = ap (λ b. p (numbered_row e) || b) (any_number p es)

twice : (a b : Bool) → (a || (a || b)) ≡ (a || b)
twice true b = refl
twice false b = refl

exchanged : (a b d : Bool) → (a || (b || d)) ≡ (b || (a || d))
exchanged true true d = refl
exchanged true false d = refl
exchanged false b d = refl

any_put : (p : ℕ → Bool) (new : ℕ × List Value) (es : List (ℕ × List Value))
    → list_any (λ e. p e.0) (put new es) ≡ (p new.0 || list_any (λ e. p e.0) es)
any_put p new [] = refl
any_put p new (e ∷ es) = split (any_put p new es) (nat_cmp e.0 new.0) refl
  where
    split : list_any (λ x. p x.0) (put new es) ≡ (p new.0 || list_any (λ x. p x.0) es) → (o : Ordering)
        → nat_cmp e.0 new.0 ≡ o → list_any (λ x. p x.0) (match_ordering o (e ∷ put new es) (new ∷ es) (new ∷ e ∷ es))
        ≡ (p new.0 || (p e.0 || list_any (λ x. p x.0) es))
    split rest Less is = ap (λ b. p e.0 || b) rest ∙ exchanged (p e.0) (p new.0) _
    split rest Equal is =
        sym (twice (p new.0) _) ∙ ap (λ n. p new.0 || (p n || list_any (λ x. p x.0) es)) (sym (same e.0 new.0 is))
    split rest Greater is = refl

-- a row is added
any_row : (p : Value → Bool) (n : ℕ) (rows : List Row) → list_any is_unknown rows ≡ false
    → list_any (λ r. p (rowid r)) (put_row (version_row n) rows)
    ≡ (p (Int (pos n)) || list_any (λ r. p (rowid r)) rows)
any_row p n rows known =
    let es = shown rows known in
    let new : ℕ × List Value = (n, Null ∷ []) in
    let q : Row → Bool = λ r. p (rowid r) in
    ap (λ (rs : List Row). list_any q (put_row (numbered_row new) rs)) es.1
    ∙ ap (λ (rs : List Row). list_any q rs) (put_shown numbered_row numbers new es.0)
    ∙ any_number q (put new es.0) ∙ any_put (λ m. p (Int (pos m))) new es.0
    ∙ ap (λ b. p (Int (pos n)) || b) (sym (any_number q es.0))
    ∙ ap (λ (rs : List Row). p (Int (pos n)) || list_any q rs) (sym es.1)

all_known : (a b d : Bool) (version : Version) → by_tests a b d ≡ Some version → a ≡ false
all_known true b d version h = absurd (cc)
all_known false b d version h = refl

known_rows : (version : Version) (rows : List Row) → IsOf version rows → list_any is_unknown rows ≡ false
known_rows version rows h = all_known _ (has_number 3 rows) (has_number 1 rows || has_number 2 rows) version h

-- the row of a version, or the mark's, is added to rows that are known
added : (n : ℕ) (rows : List Row) → list_any is_unknown rows ≡ false → is_unknown (version_row n) ≡ false
    → version_in (put_row (version_row n) rows)
    ≡ by_tests false (is_value 3 (Int (pos n)) || has_number 3 rows)
    ((is_value 1 (Int (pos n)) || has_number 1 rows) || (is_value 2 (Int (pos n)) || has_number 2 rows))
added n rows known too =
    let unknown : list_any is_unknown (put_row (version_row n) rows) ≡ false =
    any_row (λ v. not (is_value 0 v || is_value 1 v || is_value 2 v || is_value 3 v)) n rows known
    ∙ (λ i. too i || known i) in
    λ i. by_tests (unknown i) (any_row (is_value 3) n rows known i)
    (any_row (is_value 1) n rows known i || any_row (is_value 2) n rows known i)

-- the row of this version beside that of an older one
pub taken_over : (rows : List Row) → IsOf Older rows → IsOf Current (put_row (version_row 3) rows)
taken_over rows h = added 3 rows (known_rows Older rows h) refl

-- the mark beside them
pub marked : (rows : List Row) → IsOf Current rows → IsOf Current (put_row (version_row 0) rows)
marked rows h =
    let known = known_rows Current rows h in
    added 0 rows known refl
    ∙ ap (λ a. by_tests a (has_number 3 rows) (has_number 1 rows || has_number 2 rows)) (sym known) ∙ h

pub has_mark : (rows : List Row) → IsOf Current rows → has_number 0 (put_row (version_row 0) rows) ≡ true
has_mark rows h = any_row (is_value 0) 0 rows (known_rows Current rows h)

-- ---- the mark is taken away

any_without : (p q : ℕ → Bool) (es : List (ℕ × List Value)) → ((n : ℕ) → p n ≡ true → q n ≡ false)
    → list_any (λ e. p e.0) (without q es) ≡ list_any (λ e. p e.0) es
any_without p q [] apart = refl
any_without p q (e ∷ es) apart = split (any_without p q es apart) (p e.0) refl (q e.0) refl
  where
    split : list_any (λ x. p x.0) (without q es) ≡ list_any (λ x. p x.0) es → (b : Bool) → p e.0 ≡ b → (d : Bool)
        → q e.0 ≡ d → list_any (λ x. p x.0) (cond (not d) (e ∷ without q es) (without q es))
        ≡ (p e.0 || list_any (λ x. p x.0) es)
    split rest b is false also = ap (λ a. p e.0 || a) rest
    split rest true is true also = absurd (let e = sym also ∙ apart e.0 is in cc)
    split rest false is true also = rest ∙ ap (λ a. a || list_any (λ x. p x.0) es) (sym is)

none_without : (q : ℕ → Bool) (es : List (ℕ × List Value)) → list_any (λ e. q e.0) (without q es) ≡ false
none_without q [] = refl
none_without q (e ∷ es) = split (none_without q es) (q e.0) refl
  where
    split : list_any (λ x. q x.0) (without q es) ≡ false → (d : Bool) → q e.0 ≡ d
        → list_any (λ x. q x.0) (cond (not d) (e ∷ without q es) (without q es)) ≡ false
    split rest true is = rest
    split rest false is = ap (λ a. a || list_any (λ x. q x.0) (without q es)) is ∙ rest

number_is : (m n : ℕ) → is_value m (Int (pos n)) ≡ (n == m)
number_is m n = grind (arith, nat_tests)

not_mark : (m n : ℕ) → is_value (suc m) (Int (pos n)) ≡ true → (n == 0) ≡ false
not_mark m n h = grind (arith, nat_tests, h)

known_mark : (n : ℕ) → is_unknown (version_row n) ≡ true → (n == 0) ≡ false
known_mark zero h = absurd (cc)
known_mark (suc n) h = grind (arith, nat_tests)

module _ (rows left : List Row) (es : List (ℕ × List Value)) (are : rows ≡ map numbered_row es)
    (now : left ≡ map numbered_row (without (λ n. n == 0) es)) where
  any_left : (p : Value → Bool) → ((n : ℕ) → p (Int (pos n)) ≡ true → (n == 0) ≡ false)
      → list_any (λ r. p (rowid r)) left ≡ list_any (λ r. p (rowid r)) rows
  any_left p apart =
      let q : Row → Bool = λ r. p (rowid r) in
      ap (λ (rs : List Row). list_any q rs) now
      ∙ any_number q (without (λ n. n == 0) es) ∙ any_without (λ n. p (Int (pos n))) (λ n. n == 0) es apart
      ∙ sym (any_number q es) ∙ ap (λ (rs : List Row). list_any q rs) (sym are)

  pub unmarked : IsOf Current rows → IsOf Current left
  unmarked h = (λ i. by_tests
      (any_left (λ v. not (is_value 0 v || is_value 1 v || is_value 2 v || is_value 3 v)) known_mark i)
      (any_left (is_value 3) (not_mark 2) i)
      (any_left (is_value 1) (not_mark 0) i || any_left (is_value 2) (not_mark 1) i)) ∙ h

  pub has_no_mark : has_number 0 left ≡ false
  has_no_mark = ap (λ (rs : List Row). has_number 0 rs) now ∙ any_number (is_number 0) (without (λ n. n == 0) es)
      ∙ (λ i. list_any (λ e. number_is 0 e.0 i) (without (λ n. n == 0) es)) ∙ none_without (λ n. n == 0) es

-- the rows of a spool, as numbered values
pub current_shown : (rows : List Row) → IsOf Current rows → (es : List (ℕ × List Value)) × (rows ≡ map numbered_row es)
current_shown rows h = shown rows (known_rows Current rows h)
