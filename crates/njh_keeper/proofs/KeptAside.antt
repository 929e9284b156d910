-- What an opening leaves of the customers' whole files, of those too that are set aside.
use Rattle.njh_keeper.proofs.Words
use Words.{◌≡◌, ◌⊎◌, inl, inr, ℕ, Bool, true, false, cond, List, [], ◌∷◌, length, get_or, drop, filter, filter_map, map}
use Words.{⊤, Option, Some, None, refl, sym, ap, subst, ◌∙◌, arith, AllByRecursion, AllZip, File}
use Words.{SpoolContents}
use Words.{Whole, contents_in, kept, records_of, whole_in, KeptFile, Part, hub_fault, hub_with, number_of, FileFault}
use Words.{file_in, is_name_of, is_own, own_files}
use Rattle.njh_keeper.proofs.AsideLaws.{owned_is, tried_aside, tried_back, tried_foreign}
use Rattle.njh_keeper.proofs.{HubLaws.{found, one_name}}
use Rattle.std.specs.List.{cons_option}
use Rattle.njh_keeper.specs.{Keeper.IsStillKept, code.Opening.IsRowStill}
use Rattle.njh_keeper.specs.SetAside.{all_taken_up, all_tried, file_taken_up, row_of, spool_with, taken_up, tried}
use Rattle.njh_keeper.specs.SetAside.{whole_taken_up}

-- ---- without marks it is the same before and after the trying

file_same : (names : List (List ℕ)) (parts : List Part) (w : Whole)
    → file_taken_up (tried names parts w).file ≡ file_taken_up w.file
file_same names parts w =
    by (number_of names (taken_up w.file.customer)) refl (hub_fault names parts (whole_taken_up w)) refl
  where
    by : (a : Option ℕ) → number_of names (taken_up w.file.customer) ≡ a → (f : Option FileFault)
        → hub_fault names parts (whole_taken_up w) ≡ f → file_taken_up (tried names parts w).file ≡ file_taken_up w.file
    by None is f fails = ap (λ v. file_taken_up v.file) (tried_foreign names parts w is)
    by (Some c) is None fails =
        ap (λ v. file_taken_up v.file) (tried_back names parts w c is fails)
        ∙ (λ i. record w.file {
          customer = owned_is (get_or names c []) (taken_up w.file.customer)
              (found names (taken_up w.file.customer) c is).1 i;
        })
    by (Some c) is (Some why) fails = ap (λ v. file_taken_up v.file) (tried_aside names parts w c why is fails)

abbrev up : ℕ × File → ℕ × File
up e = (e.0, file_taken_up e.1)

rows_same : (names : List (List ℕ)) (parts : List Part) (spool : SpoolContents) (es : List (ℕ × File))
    → map up (map row_of (all_tried names parts (map (whole_in spool) es))) ≡ map up es
rows_same names parts spool [] = refl
rows_same names parts spool (e ∷ es) =
    let now = tried names parts (whole_in spool e) in
    λ i. (e.0, file_same names parts (whole_in spool e) i)
    ∷ rows_same names (hub_with names parts now) spool es i

pub taken_up_same : (names : List (List ℕ)) (parts : List Part) (spool : SpoolContents)
    → all_taken_up (spool_with (all_tried names parts (kept spool)) spool) ≡ all_taken_up spool
taken_up_same names parts spool = λ i. record spool { files = rows_same names parts spool spool.files i }

-- ---- two files beside each other

-- both are read, and the one is still the other, or neither is
abbrev pub AreKeptAlike : Option KeptFile → Option KeptFile → Type 0
AreKeptAlike None None = ⊤
AreKeptAlike None (Some g) = ⊥
AreKeptAlike (Some f) None = ⊥
AreKeptAlike (Some f) (Some g) = IsStillKept f g

alike_same : (o : Option KeptFile) → AreKeptAlike o o
alike_same None = tt
alike_same (Some f) = record { kind = refl; records = refl; held = λ was. was }

pub alike_where_same : (o p : Option KeptFile) → p ≡ o → AreKeptAlike o p
alike_where_same o p same = subst (AreKeptAlike o) (sym same) (alike_same o)

module _ {X Y : Type 0} (f : X → Option KeptFile) (g : Y → Option KeptFile) where
  pub alike_some : (xs : List X) (ys : List Y) (ks ls : List KeptFile) → map f xs ≡ map Some ks → map g ys ≡ map Some ls
      → AllZip IsStillKept ks ls → AllZip (λ x y. AreKeptAlike (f x) (g y)) xs ys
  alike_some [] [] ks ls ones others still = tt
  alike_some [] (y ∷ ys) [] [] ones others still = absurd (let long = ap length others in omega (arith, long))
  alike_some [] (y ∷ ys) [] (l ∷ ls) ones others still = absurd still
  alike_some [] (y ∷ ys) (k ∷ ks) ls ones others still = absurd (let long = ap length ones in omega (arith, long))
  alike_some (x ∷ xs) ys [] ls ones others still = absurd (let long = ap length ones in omega (arith, long))
  alike_some (x ∷ xs) ys (k ∷ ks) [] ones others still = absurd still
  alike_some (x ∷ xs) [] (k ∷ ks) (l ∷ ls) ones others still =
      absurd (let long = ap length others in omega (arith, long))
  alike_some (x ∷ xs) (y ∷ ys) (k ∷ ks) (l ∷ ls) ones others still =
      let one : f x ≡ Some k = ap (λ (os : List (Option KeptFile)). get_or os 0 (f x)) ones in
      let other : g y ≡ Some l = ap (λ (os : List (Option KeptFile)). get_or os 0 (g y)) others in (
        subst (λ o. AreKeptAlike o (g y)) (sym one) (subst (AreKeptAlike (Some k)) (sym other) still.0),
        alike_some xs ys ks ls (ap (λ (os : List (Option KeptFile)). drop 1 os) ones)
            (ap (λ (os : List (Option KeptFile)). drop 1 os) others) still.1,
      )

  pub alike_equal : (xs : List X) (ys : List Y) → map g ys ≡ map f xs
      → AllZip (λ x y. AreKeptAlike (f x) (g y)) xs ys
  alike_equal [] [] same = tt
  alike_equal [] (y ∷ ys) same = absurd (let long = ap length same in omega (arith, long))
  alike_equal (x ∷ xs) [] same = absurd (let long = ap length same in omega (arith, long))
  alike_equal (x ∷ xs) (y ∷ ys) same = (
    alike_where_same (f x) (g y) (ap (λ (os : List (Option KeptFile)). get_or os 0 (g y)) same),
    alike_equal xs ys (ap (λ (os : List (Option KeptFile)). drop 1 os) same),
  )

-- ---- the rows of one customer, with the mark and without it

module _ (s t : SpoolContents) (name : List ℕ) where
  abbrev before : ℕ × File → Option KeptFile
  before e = file_in e.1 (contents_in (records_of e.1.key s))

  abbrev now : ℕ × File → Option KeptFile
  now e = file_in e.1 (contents_in (records_of e.1.key t))

  abbrev mine : ℕ × File → Bool
  mine e = is_own name e.1

  abbrev ever : ℕ × File → Bool
  ever e = is_own name (file_taken_up e.1)

  abbrev Pairs : List (ℕ × File) → List (ℕ × File) → Type 0
  Pairs = AllZip (λ e f. AreKeptAlike (before e) (now f))

  abbrev All : List (ℕ × File) → List (ℕ × File) → Type 0
  All es fs = AllZip IsStillKept (filter_map before es) (filter_map now fs)

  pair : (b d : Bool) (e f : ℕ × File) (es fs : List (ℕ × File)) → b ≡ true → d ≡ true
      → Pairs (cond b (e ∷ es) es) (cond d (f ∷ fs) fs) → AreKeptAlike (before e) (now f) × Pairs es fs
  pair true true e f es fs one other both = both
  pair true false e f es fs one other both = absurd (cc other)
  pair false d e f es fs one other both = absurd (cc one)

  none : (b d : Bool) (e f : ℕ × File) (es fs : List (ℕ × File)) → b ≡ false → d ≡ false
      → Pairs (cond b (e ∷ es) es) (cond d (f ∷ fs) fs) → Pairs es fs
  none false false e f es fs one other both = both
  none false true e f es fs one other both = absurd (cc other)
  none true d e f es fs one other both = absurd (cc one)

  add : (e f : ℕ × File) (es fs : List (ℕ × File)) → AreKeptAlike (before e) (now f) → All es fs
      → All (e ∷ es) (f ∷ fs)
  add e f es fs one rest = by (before e) refl (now f) refl one
    where
      by : (o : Option KeptFile) → before e ≡ o → (p : Option KeptFile) → now f ≡ p → AreKeptAlike o p
          → All (e ∷ es) (f ∷ fs)
      by None is None also alike = rw (is, also) rest
      by None is (Some g) also alike = absurd alike
      by (Some k) is None also alike = absurd alike
      by (Some k) is (Some g) also alike = rw (is, also) (alike, rest)

  -- a row is the customer's, or never was, or is marked and the same
  abbrev Stands : ℕ × File → ℕ × File → Type 0
  Stands e f =
      ((mine e ≡ true) × (mine f ≡ true) × (ever e ≡ true) × (ever f ≡ true))
      ⊎ ((mine e ≡ false) × (mine f ≡ false)
      × (((ever e ≡ false) × (ever f ≡ false)) ⊎ ((ever e ≡ true) × (f ≡ e))))

  ever_mine : (other : List ℕ) (e : ℕ × File) → is_own other e.1 ≡ true → ever e ≡ mine e
  ever_mine other e owned = ap (λ text. is_name_of text name) (owned_is other e.1.customer owned)

  stands : (e f : ℕ × File) → IsRowStill e f → Stands e f
  stands e f (inl same) = by (mine e) refl (ever e) refl
    where
      by : (b : Bool) → mine e ≡ b → (d : Bool) → ever e ≡ d → Stands e f
      by true is d also =
          let up : ever e ≡ true = ever_mine name e is ∙ is in
          inl (is, ap mine same ∙ is, up, ap ever same ∙ up)
      by false is true also = inr (is, ap mine same ∙ is, inr (also, same))
      by false is false also = inr (is, ap mine same ∙ is, inl (also, ap ever same ∙ also))
  stands e f (inr owned) = by (mine e) refl (mine f) refl
    where
      also_e : ever e ≡ mine e
      also_e = ever_mine owned.0 e owned.1

      also_f : ever f ≡ mine f
      also_f = ever_mine owned.0 f owned.2

      by : (b : Bool) → mine e ≡ b → (d : Bool) → mine f ≡ d → Stands e f
      by true is true other = inl (is, other, also_e ∙ is, also_f ∙ other)
      by false is false other = inr (is, other, inl (also_e ∙ is, also_f ∙ other))
      by true is false other =
          let same = one_name e.1.customer owned.0 name owned.1 is in
          absurd (let never = sym (subst (λ n. is_own n f.1 ≡ true) same owned.2) ∙ other in cc never)
      by false is true other =
          let same = one_name f.1.customer owned.0 name owned.2 other in
          absurd (let never = sym (subst (λ n. is_own n e.1 ≡ true) same owned.1) ∙ is in cc never)

  pub kept_rows : (es fs : List (ℕ × File)) → AllZip IsRowStill es fs
      → AllByRecursion (λ e. records_of e.1.key t ≡ records_of e.1.key s) es
      → Pairs (filter mine es) (filter mine fs) → All (filter ever es) (filter ever fs)
  kept_rows [] [] still same pairs = tt
  kept_rows [] (f ∷ fs) still same pairs = absurd still
  kept_rows (e ∷ es) [] still same pairs = absurd still
  kept_rows (e ∷ es) (f ∷ fs) still same pairs = by (kept_rows es fs still.1 same.1) (stands e f still.0)
    where
      by : (Pairs (filter mine es) (filter mine fs) → All (filter ever es) (filter ever fs)) → Stands e f
          → All (filter ever (e ∷ es)) (filter ever (f ∷ fs))
      by further (inl own) =
          let both = pair (mine e) (mine f) e f (filter mine es) (filter mine fs) own.0 own.1 pairs in
          rw (own.2, own.3) (add e f (filter ever es) (filter ever fs) both.0
          (further both.1))
      by further (inr other) =
          let rest = further
          (none (mine e) (mine f) e f (filter mine es) (filter mine fs) other.0 other.1 pairs) in
          elim other.2 [
            | inl never ↦ rw (never.0, never.1) rest
            | inr marked ↦ rw (marked.0, ap ever marked.1 ∙ marked.0)
                (add e f (filter ever es) (filter ever fs) (alike_where_same (before e) (now f)
                (ap now marked.1 ∙ (λ i. file_in e.1 (contents_in (same.0 i))))) rest)
          ]

  read_all : (es : List (ℕ × File)) → filter_map (λ (w : Whole). file_in w.file w.records)
      (filter (λ w. is_own name w.file) (map (whole_in (all_taken_up s)) (map up es)))
      ≡ filter_map before (filter ever es)
  read_all [] = refl
  read_all (e ∷ es) = by (read_all es) (ever e) refl
    where
      by : filter_map (λ (w : Whole). file_in w.file w.records)
          (filter (λ w. is_own name w.file) (map (whole_in (all_taken_up s)) (map up es)))
          ≡ filter_map before (filter ever es) → (b : Bool) → ever e ≡ b
          → filter_map (λ (w : Whole). file_in w.file w.records)
          (filter (λ w. is_own name w.file) (map (whole_in (all_taken_up s)) (map up (e ∷ es))))
          ≡ filter_map before (filter ever (e ∷ es))
      by rest true is = rw is (ap (cons_option (before e)) rest)
      by rest false is = rw is rest

-- the files of a customer as a hub has them, mark or no mark
pub read_ever : (s : SpoolContents) (name : List ℕ)
    → filter_map (λ (w : Whole). file_in w.file w.records) (own_files name (all_taken_up s))
    ≡ filter_map (λ e. file_in e.1 (contents_in (records_of e.1.key s)))
    (filter (λ e. is_own name (file_taken_up e.1)) s.files)
read_ever s name = read_all s s name s.files
