-- Why whole files are not copied.
use Rattle.std.proofs.Common.{◌≡◌, ℕ, zero, suc, ◌+◌, ◌^◌, ◌==◌, ◌<◌, ◌≤◌, Bool, true, false, cond, List, []}
use Rattle.std.proofs.Common.{◌∷◌, ◌++◌, map, filter, length, take, get_or, refl, sym, subst, arith}
use Rattle.std.proofs.Common.{Option, ◌⊎◌, inl, inr, Result, Ok, Err, IfErr}
use Rattle.std.specs.List.{AllByRecursion}
use Rattle.std.proofs.lemmas.Bool.Decides.{nat_tests}
use Rattle.njh_spoolfile.specs.Copies.{AreBelow, FitsFault, HaveControlBytes, asked, is_asked}
use Rattle.njh_spoolfile.specs.Kept.{File, Record, SpoolContents, IsNumbered, as_stands, contents, contents_in, kept}
use Rattle.njh_spoolfile.specs.Kept.{entry_of, file_of, whole_in}
use Rattle.njh_spoolfile.specs.Packed.{placed_from, several, unpacked}
use Rattle.njh_spoolfile.specs.code.CopySteps.{FitsFiles, FitsStep, IsBehind, LacksRoom, asked_of}
use Rattle.njh_spoolfile.specs.declared.kept.StoredFile.{StoredFile}
use Rattle.njh_spoolfile.specs.declared.copying.CopyFault.{CopyFault}
use Rattle.njh_spoolfile.specs.declared.copying.Numbers.{Numbers}
use Rattle.njh_spoolfile.specs.declared.copying.CopyFault.TheVariants as faults

pub if_err : {T E : Type 0} (P Q : E → Type 0) → ((e : E) → P e → Q e) → (r : Result T E) → IfErr r P → IfErr r Q
if_err P Q f (Ok x) h = tt
if_err P Q f (Err e) h = f e h

pub step_weaker : (full full' damaged damaged' : Type 0) → (full → full') → (damaged → damaged') → (fault : CopyFault)
    → FitsStep full damaged fault → FitsStep full' damaged' fault
step_weaker full full' damaged damaged' f g (faults.Database error) h = tt
step_weaker full full' damaged damaged' f g faults.Damaged h = g h
step_weaker full full' damaged damaged' f g faults.Taken h = h
step_weaker full full' damaged damaged' f g faults.Full h = f h

pub all_one : {X Y : Type 0} (P : Y → Type 0) (f : X → Y) (xs : List X) (at : ℕ) (x : X) → at < length xs
    → x ≡ get_or xs at x → AllByRecursion P (map f xs) → P (f x)
all_one P f [] at x within here all = absurd (omega (arith, within))
all_one P f (y ∷ ys) zero x within here all = subst (λ z. P (f z)) (sym here) all.0
all_one P f (y ∷ ys) (suc at) x within here all = all_one P f ys at x (omega (arith, within)) here all.1

pub one_below : (id key : ℕ) (files : List StoredFile) (at : ℕ) (x : StoredFile) → at < length files
    → x ≡ get_or files at x → AllByRecursion (λ f. (f.id < id) × (f.file.key < key)) files
    → (x.id < id) × (x.file.key < key)
one_below id key [] at x within here all = absurd (omega (arith, within))
one_below id key (y ∷ ys) zero x within here all =
    subst (λ (z : StoredFile). (z.id < id) × (z.file.key < key)) (sym here) all.0
one_below id key (y ∷ ys) (suc at) x within here all = one_below id key ys at x (omega (arith, within)) here all.1

below_each : (id key : ℕ) (spool : SpoolContents) (files : List StoredFile)
    → AreBelow id key (map (whole_in spool) (map entry_of files))
    → AllByRecursion (λ f. (f.id < id) × (f.file.key < key)) files
below_each id key spool [] low = tt
below_each id key spool (f ∷ fs) low = (low.0, below_each id key spool fs low.1)

pub below_files : (id key : ℕ) (spool : SpoolContents) (files : List StoredFile) → map entry_of files ≡ spool.files
    → AreBelow id key (kept spool) → AllByRecursion (λ f. (f.id < id) × (f.file.key < key)) files
below_files id key spool files is low =
    below_each id key spool files
    (subst (λ (es : List (ℕ × File)). AreBelow id key (map (whole_in spool) es)) (sym is) low)

pub lacks_any : (id key count : ℕ) → (2 ^ 63 ≤ id) ⊎ (2 ^ 32 ≤ key)
    → (id + count < 2 ^ 63) × (key + count < 2 ^ 32) → ⊥
lacks_any id key count (inl h) low = omega (arith, h, low.0)
lacks_any id key count (inr h) low = omega (arith, h, low.1)

pub numbered_places : (key : ℕ) (es : List (ℕ × Record)) → AllByRecursion IsNumbered es
    → AllByRecursion (λ r. r.1 ≤ 256) (map as_stands (filter (λ e. e.1.key == key) es))
    → AllByRecursion (λ r. (r.0 < 2 ^ 23) × (r.1 ≤ 256)) (map as_stands (filter (λ e. e.1.key == key) es))
numbered_places key [] numbers all = tt
numbered_places key (e ∷ es) numbers all =
    split (e.1.key == key) all (numbered_places key es numbers.1)
  where
    split : (b : Bool) → AllByRecursion (λ r. r.1 ≤ 256)
        (map as_stands (cond b (e ∷ filter (λ x. x.1.key == key) es) (filter (λ x. x.1.key == key) es)))
        → (AllByRecursion (λ r. r.1 ≤ 256) (map as_stands (filter (λ x. x.1.key == key) es))
        → AllByRecursion (λ r. (r.0 < 2 ^ 23) × (r.1 ≤ 256)) (map as_stands (filter (λ x. x.1.key == key) es)))
        → AllByRecursion (λ r. (r.0 < 2 ^ 23) × (r.1 ≤ 256))
        (map as_stands (cond b (e ∷ filter (λ x. x.1.key == key) es) (filter (λ x. x.1.key == key) es)))
    split true here rest = ((numbers.0.1, here.0), rest here.1)
    split false here rest = rest here

front_has : {X : Type 0} (P : X → Type 0) (xs ys : List X) → AllByRecursion P (xs ++ ys) → AllByRecursion P xs
front_has P [] ys all = tt
front_has P (x ∷ xs) ys all = (all.0, front_has P xs ys all.1)

rest_has : {X : Type 0} (P : X → Type 0) (xs ys : List X) → AllByRecursion P (xs ++ ys) → AllByRecursion P ys
rest_has P [] ys all = all
rest_has P (x ∷ xs) ys all = rest_has P xs ys all.1

-- If each record has a control byte, no row has a greater SRCB than one of several.
pub rows_have : (es : List (ℕ × Record)) → AllByRecursion (λ r. r.1 < 256) (contents_in es)
    → AllByRecursion (λ r. r.1 ≤ 256) (map as_stands es)
rows_have [] all = tt
rows_have (e ∷ es) all = (
  split (e.1.srcb == several) refl (front_has (λ r. r.1 < 256) (contents e) (contents_in es) all),
  rows_have es (rest_has (λ r. r.1 < 256) (contents e) (contents_in es) all),
)
  where
    split : (b : Bool) → (e.1.srcb == several) ≡ b → AllByRecursion (λ r. r.1 < 256)
        (placed_from e.1.place (cond b (unpacked e.1.bytes) ((e.1.srcb, e.1.bytes) ∷ []))) → e.1.srcb ≤ 256
    split true is have = let here : e.1.srcb ≡ 256 = grind (arith, nat_tests, is) in omega (arith, here)
    split false is have = omega (arith, have.0)

module _ (customer : Option (List ℕ)) where
  abbrev those : List StoredFile → List (ℕ × File)
  those files = asked_of customer (map entry_of files)

  -- so many and one more are no more than all
  pub asked_within : (files : List StoredFile) (at : ℕ) (x : StoredFile) → at < length files → x ≡ get_or files at x
      → length (those (take at files)) + length (those (x ∷ [])) ≤ length (those files)
  asked_within [] at x within here = absurd (omega (arith, within))
  asked_within (f ∷ fs) zero x within here =
      let one : length (those (x ∷ [])) ≤ length (those (f ∷ fs)) =
      subst (λ (y : StoredFile). length (those (y ∷ [])) ≤ length (those (f ∷ fs))) (sym here)
      (split (is_asked customer (file_of f.file))) in
      omega (arith, one)
    where
      split : (b : Bool) → length (cond b (entry_of f ∷ []) []) ≤ length (cond b (entry_of f ∷ those fs) (those fs))
      split true = omega arith
      split false = omega arith
  asked_within (f ∷ fs) (suc at) x within here =
      split (is_asked customer (file_of f.file)) (asked_within fs at x (omega (arith, within)) here)
    where
      split : (b : Bool) → length (those (take at fs)) + length (those (x ∷ [])) ≤ length (those fs)
          → length (cond b (entry_of f ∷ those (take at fs)) (those (take at fs))) + length (those (x ∷ []))
          ≤ length (cond b (entry_of f ∷ those fs) (those fs))
      split true rest = omega (arith, rest)
      split false rest = rest

  module _ (spool : SpoolContents) where
    pub one_has : (files : List StoredFile) (at : ℕ) (x : StoredFile) → at < length files → x ≡ get_or files at x
        → HaveControlBytes (map (whole_in spool) (those files))
        → HaveControlBytes (map (whole_in spool) (those (x ∷ [])))
    one_has [] at x within here all = absurd (omega (arith, within))
    one_has (f ∷ fs) zero x within here all =
        subst (λ (y : StoredFile). HaveControlBytes (map (whole_in spool) (those (y ∷ [])))) (sym here)
        (split (is_asked customer (file_of f.file)) all)
      where
        split : (b : Bool) → HaveControlBytes (map (whole_in spool) (cond b (entry_of f ∷ those fs) (those fs)))
            → HaveControlBytes (map (whole_in spool) (cond b (entry_of f ∷ []) []))
        split true have = (have.0, tt)
        split false have = tt
    one_has (f ∷ fs) (suc at) x within here all =
        one_has fs at x (omega (arith, within)) here (split (is_asked customer (file_of f.file)) all)
      where
        split : (b : Bool) → HaveControlBytes (map (whole_in spool) (cond b (entry_of f ∷ those fs) (those fs)))
            → HaveControlBytes (map (whole_in spool) (those fs))
        split true have = have.1
        split false have = have

-- what one more file lacks, all lack
pub each_fits : (customer : Option (List ℕ)) (spool : SpoolContents) (first next : Numbers) (files : List StoredFile)
    (at : ℕ) (x : StoredFile) → at < length files → x ≡ get_or files at x
    → IsBehind first (asked_of customer (map entry_of (take at files))) next → (fault : CopyFault)
    → FitsFiles next spool (asked_of customer (entry_of x ∷ [])) fault
    → FitsFiles first spool (asked_of customer (map entry_of files)) fault
each_fits customer spool first next files at x within here behind =
    let long = asked_within customer files at x within here in
    step_weaker (LacksRoom next (length (asked_of customer (entry_of x ∷ []))))
    (LacksRoom first (length (asked_of customer (map entry_of files))))
    (¬ HaveControlBytes (map (whole_in spool) (asked_of customer (entry_of x ∷ []))))
    (¬ HaveControlBytes (map (whole_in spool) (asked_of customer (map entry_of files))))
    (λ lacks. elim lacks [
      | inl id ↦ inl (omega (arith, id, behind.0, long))
      | inr key ↦ inr (omega (arith, key, behind.1, long))
    ])
    (λ bad have. bad (one_has customer spool files at x within here have))

pub all_fits : (customer : Option (List ℕ)) (spool before : SpoolContents) (first : Numbers)
    → asked customer before ≡ []
    → ((id key : ℕ) → (0 < id) × (0 < key) → AreBelow id key (kept before) → (first.id ≤ id) × (first.key ≤ key))
    → (fault : CopyFault) → FitsStep (LacksRoom first (length (asked customer spool)))
    (¬ HaveControlBytes (asked customer spool)) fault → FitsFault customer spool before fault
all_fits customer spool before first none least (faults.Database error) h = tt
all_fits customer spool before first none least faults.Damaged h = (none, h)
all_fits customer spool before first none least faults.Taken h = absurd h
all_fits customer spool before first none least faults.Full h = (
  none,
  λ room.
      let low = least room.id room.key room.some room.behind in
      lacks_still first room.id room.key (length (asked customer spool)) h low room.low,
)
  where
    lacks_still : (first : Numbers) (id key count : ℕ) → LacksRoom first count → (first.id ≤ id) × (first.key ≤ key)
        → (id + count < 2 ^ 63) × (key + count < 2 ^ 32) → ⊥
    lacks_still first id key count (inl h) low room = omega (arith, h, low.0, room.0)
    lacks_still first id key count (inr h) low room = omega (arith, h, low.1, room.1)
