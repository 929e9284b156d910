-- How many records of a customer stand in a spool file as files come, change and leave.
use Rattle.std.proofs.Common.{◌≡◌, ℕ, zero, suc, ◌+◌, ◌<◌, ◌⊎◌, inl, inr, List, [], ◌∷◌, ◌++◌, length, get_or, set}
use Rattle.std.proofs.Common.{remove, Result, Ok, Err, OnOk, ap, arith}
use Rattle.njh_keeper.specs.code.Counting.{rows_for, rows_in, rows_of, rows_of_partial}
use Rattle.njh_keeper.specs.code.{Counting.rows_of_whole, Writing.{dead_in, dead_of, sum_of, sweep_of}}
use Rattle.njh_keeper.specs.declared.own_files.{KeptPartial.KeptPartial, KeptWhole.KeptWhole, OwnFiles.OwnFiles}
use Rattle.njh_keeper.specs.declared.own_files.Sweep.{Sweep}

pub ok_both : {T E : Type 0} (r : Result T E) (P Q : Type 0) → OnOk r P → OnOk r Q → OnOk r (P × Q)
ok_both (Ok x) P Q p q = (p, q)
ok_both (Err e) P Q p q = tt

pub inr_then : {X Y Z : Type 0} → (Y → Z) → X ⊎ Y → X ⊎ Z
inr_then f (inl x) = inl x
inr_then f (inr y) = inr (f y)

-- ---- sums

module _ {X : Type 0} (count : X → ℕ) where
  pub sum-push : (xs : List X) (x : X) → sum_of count (xs ++ x ∷ []) ≡ sum_of count xs + count x
  sum-push [] x = omega arith
  sum-push (y ∷ xs) x = omega (arith, sum-push xs x)

  sum-remove : (xs : List X) (i : ℕ) (x : X) → i < length xs → x ≡ get_or xs i x
      → sum_of count xs ≡ count x + sum_of count (remove xs i)
  sum-remove [] i x there is = absurd (omega (arith, there))
  sum-remove (y ∷ xs) zero x there is = let same : count x ≡ count y = ap count is in omega (arith, same)
  sum-remove (y ∷ xs) (suc i) x there is = omega (arith, sum-remove xs i x (omega (arith, there)) is)

  sum-set : (xs : List X) (i : ℕ) (x y : X) → i < length xs → x ≡ get_or xs i x
      → sum_of count (set xs i y) + count x ≡ sum_of count xs + count y
  sum-set [] i x y there is = absurd (omega (arith, there))
  sum-set (z ∷ xs) zero x y there is = let same : count x ≡ count z = ap count is in omega (arith, same)
  sum-set (z ∷ xs) (suc i) x y there is = omega (arith, sum-set xs i x y (omega (arith, there)) is)

-- ---- files come, change and leave

module _ (own : OwnFiles) where
  abbrev whole : List KeptWhole
  whole = own.whole.items

  abbrev partial : List KeptPartial
  partial = own.partial.items

  abbrev sweeps : List Sweep
  sweeps = own.sweeps.items

  pub rows_as_one_comes : (k : KeptWhole) (ks : List KeptWhole) → ks ≡ whole ++ k ∷ []
      → rows_in ks partial sweeps ≡ rows_of own + rows_for k.records
  rows_as_one_comes k ks are =
      let one = sum-push rows_of_whole whole k in let all = ap (sum_of rows_of_whole) are in omega (arith, one, all)

  pub rows_as_one_changes : (i : ℕ) (k now : KeptWhole) → i < length whole → k ≡ get_or whole i k
      → now.records ≡ k.records → rows_in (set whole i now) partial sweeps ≡ rows_of own
  rows_as_one_changes i k now there is same =
      let all = sum-set rows_of_whole whole i k now there is in let alike = ap rows_for same in omega arith

  pub rows_as_one_leaves : (i : ℕ) (k : KeptWhole) → i < length whole → k ≡ get_or whole i k
      → (ks : List KeptWhole) → ks ≡ remove whole i
      → (ss : List Sweep) → ss ≡ sweeps ++ sweep_of k.key k.records ∷ [] → rows_in ks partial ss ≡ rows_of own
  rows_as_one_leaves i k there is ks gone ss later =
      let all = sum-remove rows_of_whole whole i k there is in
      let rest = ap (sum_of rows_of_whole) gone in
      let dead = ap dead_of later in
      let more = sum-push dead_in sweeps (sweep_of k.key k.records) in
      omega (arith, all, rest, dead, more)

  pub rows_as_partial_comes : (p : KeptPartial) (ps : List KeptPartial) → ps ≡ partial ++ p ∷ []
      → rows_in whole ps sweeps ≡ rows_of own + rows_for p.written
  rows_as_partial_comes p ps are = let one = sum-push rows_of_partial partial p in
      let all = ap (sum_of rows_of_partial) are in omega (arith, one, all)

  module _ (i : ℕ) (p : KeptPartial) (there : i < length partial) (is : p ≡ get_or partial i p) where
    pub rows_as_partial_changes : (q : KeptPartial)
        → rows_in whole (set partial i q) sweeps + rows_for p.written ≡ rows_of own + rows_for q.written
    rows_as_partial_changes q = let all = sum-set rows_of_partial partial i p q there is in omega (arith, all)

    pub rows_as_partial_goes : (ps : List KeptPartial) → ps ≡ remove partial i
        → rows_in whole ps sweeps + rows_for p.written ≡ rows_of own
    rows_as_partial_goes ps gone =
        let all = sum-remove rows_of_partial partial i p there is in
        let rest = ap (sum_of rows_of_partial) gone in
        omega (arith, all, rest)

    pub rows_as_partial_is_swept : (ps : List KeptPartial) → ps ≡ remove partial i → (sweep : Sweep)
        → dead_in sweep ≡ rows_for p.written → (ss : List Sweep) → ss ≡ sweeps ++ sweep ∷ []
        → rows_in whole ps ss ≡ rows_of own
    rows_as_partial_is_swept ps gone sweep same ss later =
        let all = rows_as_partial_goes ps gone in
        let dead = ap dead_of later in
        let more = sum-push dead_in sweeps sweep in
        omega (arith, all, same, dead, more)
