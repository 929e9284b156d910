-- What becomes of the list of whole files.
use Rattle.std.proofs.Common.{◌≡◌, ◌≢◌, ℕ, ◌^◌, ◌==◌, ◌<◌, ◌≤◌, nat_le, nat_lt, ◌&&◌, Bool, true, false, not, cond}
use Rattle.std.proofs.Common.{if◌then◌else◌, List, [], ◌∷◌, ◌++◌, map, filter, refl, sym, ap, subst, append-nil, ◌∙◌}
use Rattle.std.proofs.Common.{arith}
use Rattle.std.specs.List.{AllByRecursion, list_any}
use Rattle.std.specs.declared.cmp.Ordering.{Ordering}
use Rattle.std.specs.declared.cmp.Ordering.TheVariants.{Less, Equal, Greater}
use Rattle.std.specs.Ordering.{nat_cmp, match_ordering}
use Rattle.std.proofs.lemmas.List.{map-append}
use Rattle.std.proofs.lemmas.List.Elements.{filter-append}
use Rattle.std.proofs.lemmas.Bool.Decides.{nat_tests}
use Rattle.sqlite_keyed.proofs.ListLemmas.{filter-map, map-map, map_same}
use Rattle.njh_spoolfile.specs.Kept.{File, Record, SpoolContents, Whole, Rise, IsNumbered, put, without, kept, whole_in}
use Rattle.njh_spoolfile.specs.Kept.{contents_in, record_number, with_file, with_changed, with_record, without_file}
use Rattle.njh_spoolfile.specs.Kept.{without_records}
use Rattle.njh_spoolfile.specs.Lists.{IsFree, has_file, kept_where}
use Rattle.njh_spoolfile.proofs.Rows.{same, above}

put_last : {X : Type 0} (id : ℕ) (x : X) (es : List (ℕ × X)) → AllByRecursion (λ e. e.0 < id) es
    → put (id, x) es ≡ es ++ (id, x) ∷ []
put_last id x [] all = refl
put_last id x (e ∷ es) all =
    let less : nat_cmp e.0 id ≡ Less = grind (arith, nat_tests, all.0) in
    ap (λ o. match_ordering o (e ∷ put (id, x) es) ((id, x) ∷ es) ((id, x) ∷ e ∷ es)) less
    ∙ ap (λ ys. e ∷ ys) (put_last id x es all.1)

pub comes_last : (id : ℕ) (file : File) (spool : SpoolContents) → AllByRecursion (λ e. e.0 < id) spool.files
    → kept (with_file id file spool) ≡ kept spool ++ whole_in spool (id, file) ∷ []
comes_last id file spool all = ap (map (whole_in spool)) (put_last id file spool.files all)
    ∙ map-append (whole_in spool) spool.files ((id, file) ∷ [])

pub leaves : (id : ℕ) (spool : SpoolContents)
    → kept (without_file id spool) ≡ filter (λ w. not (w.id == id)) (kept spool)
leaves id spool = sym (filter-map (λ (w : Whole). not (w.id == id)) (whole_in spool) spool.files)

pub equal : (n : ℕ) → (n == n) ≡ true
equal n = grind (arith, nat_tests)

unequal : (m n : ℕ) → m ≢ n → (m == n) ≡ false
unequal m n h = grind (arith, nat_tests, h)

same_key : (a b p q : ℕ) → p < 2 ^ 23 → q < 2 ^ 23 → record_number a p ≡ record_number b q → a ≡ b
same_key a b p q lp lq h = omega (arith, lp, lq, h)

-- a record of another file
module _ (k : ℕ) (r : Record) (low : r.place < 2 ^ 23) (other : r.key ≢ k) where
  pub skips : (es : List (ℕ × Record)) → AllByRecursion IsNumbered es
      → filter (λ e. e.1.key == k) (put (record_number r.key r.place, r) es) ≡ filter (λ e. e.1.key == k) es
  skips [] all = rw (unequal r.key k other)
  skips (e ∷ es) all = split (nat_cmp e.0 (record_number r.key r.place)) refl (skips es all.1)
    where
      split : (o : Ordering) → nat_cmp e.0 (record_number r.key r.place) ≡ o
          → filter (λ x. x.1.key == k) (put (record_number r.key r.place, r) es) ≡ filter (λ x. x.1.key == k) es
          → filter (λ x. x.1.key == k) (match_ordering o (e ∷ put (record_number r.key r.place, r) es)
          ((record_number r.key r.place, r) ∷ es) ((record_number r.key r.place, r) ∷ e ∷ es))
          ≡ filter (λ x. x.1.key == k) (e ∷ es)
      split Less is rest = ap (λ ys. cond (e.1.key == k) (e ∷ ys) ys) rest
      split Equal is rest =
          let key : e.1.key ≡ r.key = same_key e.1.key r.key e.1.place r.place all.0.1 low
          (sym all.0.0 ∙ same e.0 (record_number r.key r.place) is) in
          rw (key, unequal r.key k other) refl
      split Greater is rest = rw (unequal r.key k other) refl

module _ (P : ℕ × File → Type 0) (f g : ℕ × File → Whole) (alike : (e : ℕ × File) → P e → f e ≡ g e) where
  pub map_alike : (es : List (ℕ × File)) → AllByRecursion P es → map f es ≡ map g es
  map_alike [] all = refl
  map_alike (e ∷ es) all = (λ i. alike e all.0 i ∷ map_alike es all.1 i)

pub whole_as : (id : ℕ) (file : File) (one two : List (ℕ × Record)) → one ≡ two
    → ◌≡◌ {A = Whole} (record { id = id; file = file; records = contents_in one })
    (record { id = id; file = file; records = contents_in two })
whole_as id file one two same = ap (λ (rs : List (ℕ × Record)). record
    { id = id; file = file; records = contents_in rs }) same

pub added_in_part : (r : Record) (spool : SpoolContents) → AllByRecursion IsNumbered spool.records → r.place < 2 ^ 23
    → IsFree r.key spool → kept (with_record r spool) ≡ kept spool
added_in_part r spool numbered low free =
    map_alike (λ e. e.1.key ≢ r.key) (whole_in (with_record r spool)) (whole_in spool)
    (λ e other. whole_as e.0 e.1 _ _ (skips e.1.key r low (λ h. other (sym h)) spool.records numbered)) spool.files free

-- the places of another file
module _ (k key first end : ℕ) (within : end ≤ 2 ^ 23) (other : k ≢ key) where
  apart : (e : ℕ × Record) → IsNumbered e → (e.1.key == k) ≡ true
      → (nat_le (record_number key first) e.0 && nat_lt e.0 (record_number key end)) ≡ false
  apart e h is = grind (arith, nat_tests, h, is, other, within)

  pub stays : (es : List (ℕ × Record)) → AllByRecursion IsNumbered es
      → filter (λ e. e.1.key == k) (without
      (λ n. nat_le (record_number key first) n && nat_lt n (record_number key end)) es) ≡ filter (λ e. e.1.key == k) es
  stays [] all = refl
  stays (e ∷ es) all = split (nat_le (record_number key first) e.0 && nat_lt e.0 (record_number key end)) refl
      (stays es all.1)
    where
      no : (b : Bool) → (e.1.key == k) ≡ b
          → (nat_le (record_number key first) e.0 && nat_lt e.0 (record_number key end)) ≡ true → b ≡ false
      no true is dropped = absurd (let never = apart e all.0 is in cc)
      no false is dropped = refl

      split : (b : Bool) → (nat_le (record_number key first) e.0 && nat_lt e.0 (record_number key end)) ≡ b
          → filter (λ x. x.1.key == k) (without
          (λ n. nat_le (record_number key first) n && nat_lt n (record_number key end)) es) ≡ filter (λ x. x.1.key == k)
          es
          → filter (λ x. x.1.key == k) (cond (not b)
          (e ∷ without (λ n. nat_le (record_number key first) n && nat_lt n (record_number key end)) es)
          (without (λ n. nat_le (record_number key first) n && nat_lt n (record_number key end)) es))
          ≡ filter (λ x. x.1.key == k) (e ∷ es)
      split true is rest = rest ∙ sym (ap (λ c. cond c (e ∷ filter (λ x. x.1.key == k) es)
          (filter (λ x. x.1.key == k) es)) (no (e.1.key == k) refl is))
      split false is rest = ap (λ ys. cond (e.1.key == k) (e ∷ ys) ys) rest

pub dropped_in_part : (key first end : ℕ) (spool : SpoolContents) → AllByRecursion IsNumbered spool.records
    → end ≤ 2 ^ 23 → IsFree key spool → kept (without_records key first end spool) ≡ kept spool
dropped_in_part key first end spool numbered within free =
    map_alike (λ e. e.1.key ≢ key) (whole_in (without_records key first end spool)) (whole_in spool)
    (λ e other. whole_as e.0 e.1 _ _ (stays e.1.key key first end within other spool.records numbered)) spool.files free

-- the last record of its file
module _ (r : Record) (low : r.place < 2 ^ 23) where
  none_after : (es : List (ℕ × Record)) → AllByRecursion IsNumbered es
      → AllByRecursion (λ e. e.1.key ≡ r.key → e.1.place < r.place) es
      → AllByRecursion (λ e. record_number r.key r.place < e.0) es
      → filter (λ e. e.1.key == r.key) es ≡ []
  none_after [] numbered lower all = refl
  none_after (e ∷ es) numbered lower all =
      let other : e.1.key ≢ r.key = λ key. let place = lower.0 key in omega (arith, key, place, numbered.0.0, all.0) in
      rw (unequal e.1.key r.key other) (none_after es numbered.1 lower.1 all.1)

  above_all : (m : ℕ) (es : List (ℕ × Record)) → record_number r.key r.place < m → AllByRecursion (λ x. m < x.0) es
      → AllByRecursion (λ e. record_number r.key r.place < e.0) es
  above_all m [] less all = tt
  above_all m (e ∷ es) less all = (omega (arith, less, all.0), above_all m es less all.1)

  either : (b : Bool) (e x : ℕ × Record) (es : List (ℕ × Record))
      → cond b (e ∷ (es ++ x ∷ [])) (es ++ x ∷ []) ≡ cond b (e ∷ es) es ++ x ∷ []
  either true e x es = refl
  either false e x es = refl

  pub last : (es : List (ℕ × Record)) → AllByRecursion IsNumbered es → Rise es
      → AllByRecursion (λ e. e.1.key ≡ r.key → e.1.place < r.place) es
      → filter (λ e. e.1.key == r.key) (put (record_number r.key r.place, r) es) ≡ filter (λ e. e.1.key == r.key)
      es ++ (record_number r.key r.place, r) ∷ []
  last [] numbered up lower = rw (equal r.key)
  last (e ∷ es) numbered up lower = split (nat_cmp e.0 (record_number r.key r.place)) refl
      (last es numbered.1 up.1 lower.1)
    where
      split : (o : Ordering) → nat_cmp e.0 (record_number r.key r.place) ≡ o
          → filter (λ x. x.1.key == r.key) (put (record_number r.key r.place, r) es) ≡ filter (λ x. x.1.key == r.key)
          es ++ (record_number r.key r.place, r) ∷ []
          → filter (λ x. x.1.key == r.key)
          (match_ordering o (e ∷ put (record_number r.key r.place, r) es) ((record_number r.key r.place, r) ∷ es)
          ((record_number r.key r.place, r) ∷ e ∷ es))
          ≡ filter (λ x. x.1.key == r.key) (e ∷ es) ++ (record_number r.key r.place, r) ∷ []
      split Less is rest = ap (λ ys. cond (e.1.key == r.key) (e ∷ ys) ys) rest
          ∙ either (e.1.key == r.key) e (record_number r.key r.place, r) (filter (λ x. x.1.key == r.key) es)
      split Equal is rest =
          let number = sym numbered.0.0 ∙ same e.0 (record_number r.key r.place) is in
          let key : e.1.key ≡ r.key = same_key e.1.key r.key e.1.place r.place numbered.0.1 low number in
          let place = lower.0 key in
          absurd (omega (arith, key, number, place))
      split Greater is rest =
          let up_here = above e.0 (record_number r.key r.place) is in
          let none = none_after (e ∷ es) numbered lower (up_here, above_all e.0 es up_here up.0) in
          rw (equal r.key, none) refl

pub others_stay : (passes : File → Bool) (id : ℕ) (file : File) (spool : SpoolContents)
    → AllByRecursion (λ e. e.0 < id) spool.files → passes file ≡ false
    → kept_where passes (with_file id file spool) ≡ kept_where passes spool
others_stay passes id file spool all fails =
    ap (filter (λ w. passes w.file)) (comes_last id file spool all)
    ∙ filter-append (λ (w : Whole). passes w.file) (kept spool) (whole_in spool (id, file) ∷ [])
    ∙ rw fails (append-nil (kept_where passes spool))

-- a file that is changed
module _ {X : Type 0} (id : ℕ) (x : X) where
  kept_above : (es : List (ℕ × X)) → AllByRecursion (λ e. id < e.0) es → without (λ n. n == id) es ≡ es
  kept_above [] all = refl
  kept_above (e ∷ es) all = rw (unequal e.0 id (λ h. omega (arith, h, all.0))) (ap (λ ys. e ∷ ys) (kept_above es all.1))

  first_above : (es : List (ℕ × X)) → AllByRecursion (λ e. id < e.0) es → put (id, x) es ≡ (id, x) ∷ es
  first_above [] all = refl
  first_above (e ∷ es) all =
      let more : nat_cmp e.0 id ≡ Greater = grind (arith, nat_tests, all.0) in
      ap (λ o. match_ordering o (e ∷ put (id, x) es) ((id, x) ∷ es) ((id, x) ∷ e ∷ es)) more

  same_above : (es : List (ℕ × X)) → AllByRecursion (λ e. id < e.0) es → map (λ e. cond (e.0 == id) (id, x) e) es ≡ es
  same_above [] all = refl
  same_above (e ∷ es) all = rw (unequal e.0 id (λ h. omega (arith, h, all.0))) (ap (λ ys. e ∷ ys) (same_above es all.1))

  under : (m : ℕ) (es : List (ℕ × X)) → AllByRecursion (λ e. m < e.0) es → list_any (λ e. e.0 == id) es ≡ true → m < id
  under m [] all has = absurd (cc)
  under m (e ∷ es) all has = split (e.0 == id) refl (λ later. under m es all.1 later)
    where
      split : (b : Bool) → (e.0 == id) ≡ b → (list_any (λ y. y.0 == id) es ≡ true → m < id) → m < id
      split true is later = let at : e.0 ≡ id = grind (arith, nat_tests, is) in omega (arith, all.0, at)
      split false is later = later (rw is at has)

  in_place : (es : List (ℕ × X)) → Rise es → list_any (λ e. e.0 == id) es ≡ true
      → put (id, x) (without (λ n. n == id) es) ≡ map (λ e. cond (e.0 == id) (id, x) e) es
  in_place [] up has = absurd (cc)
  in_place (e ∷ es) up has = split (e.0 == id) refl (λ later. in_place es up.1 later)
    where
      split : (b : Bool) → (e.0 == id) ≡ b
          → (list_any (λ y. y.0 == id) es ≡ true
          → put (id, x) (without (λ n. n == id) es) ≡ map (λ y. cond (y.0 == id) (id, x) y) es)
          → put (id, x) (without (λ n. n == id) (e ∷ es)) ≡ map (λ y. cond (y.0 == id) (id, x) y) (e ∷ es)
      split true is later =
          let at : e.0 ≡ id = grind (arith, nat_tests, is) in
          let high : AllByRecursion (λ y. id < y.0) es = subst (λ n. AllByRecursion (λ y. n < y.0) es) at up.0 in
          rw is (ap (put (id, x)) (kept_above es high) ∙ first_above es high
          ∙ ap (λ ys. (id, x) ∷ ys) (sym (same_above es high)))
      split false is later =
          let more : list_any (λ y. y.0 == id) es ≡ true = rw is at has in
          let low : nat_cmp e.0 id ≡ Less = grind (arith, nat_tests, under e.0 es up.0 more) in
          rw (is, low) (ap (λ ys. e ∷ ys) (later more))

whole_either : (spool : SpoolContents) (b : Bool) (new e : ℕ × File)
    → whole_in spool (cond b new e) ≡ cond b (whole_in spool new) (whole_in spool e)
whole_either spool true new e = refl
whole_either spool false new e = refl

pub keeps_place : (id : ℕ) (file : File) (spool : SpoolContents) → Rise spool.files → has_file id spool ≡ true
    → kept (with_changed id file spool) ≡ map (λ w. if w.id == id then whole_in spool (id, file) else w) (kept spool)
keeps_place id file spool up has =
    ap (map (whole_in spool)) (in_place id file spool.files up has)
    ∙ map-map (whole_in spool) (λ (e : ℕ × File). cond (e.0 == id) (id, file) e) spool.files
    ∙ map_same _ (λ (e : ℕ × File). cond (e.0 == id) (whole_in spool (id, file)) (whole_in spool e))
    (λ e. whole_either spool (e.0 == id) (id, file) e) spool.files
    ∙ sym (map-map (λ (w : Whole). if w.id == id then whole_in spool (id, file) else w) (whole_in spool) spool.files)
