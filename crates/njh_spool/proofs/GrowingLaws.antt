-- A new partial file that takes records, and becomes a whole one or is dropped.
use Rattle.std.proofs.Common.{◌≡◌, ℕ, ◌+◌, ◌<◌, ◌≤◌, Bool, true, false, cond, ◌==◌, List, [], ◌∷◌, ◌++◌, length}
use Rattle.std.proofs.Common.{map, find, take, drop, sum_by, Option, Some, None, IsSome, is_some, refl, ap, ◌∙◌}
use Rattle.std.proofs.Common.{arith, append_assoc, append-nil, eq-eqb}
use Rattle.std.specs.List.{list_any}
use Rattle.std.proofs.lemmas.Bool.{or_parts}
use Rattle.std.proofs.lemmas.List.{take-append-drop}
use Rattle.std.proofs.lemmas.List.Sums.{sum_by-cons, sum_by-append}
use Rattle.njh_record.specs.Stored.{Stored}
use Rattle.njh_record.specs.declared.Kind.{Kind}
use Rattle.njh_spool.specs.CustomerSpool.{CustomerSpool, PartialFile, WholeFile, stored_size, cost, used_blocks}
use Rattle.njh_spool.specs.CustomerSpool.{is_number, next_number, with_new_partial, with_appended, partial_numbered}
use Rattle.njh_spool.specs.CustomerSpool.{without_partial, with_finished, with_state, with_arrived, as_whole, one_more}
use Rattle.njh_spool.specs.declared.State.TheVariants.{Ready, Held}
use Rattle.njh_spool.specs.Restoring.{kept, with_restored}
use Rattle.njh_spool.specs.code.Growing.{grown, with_more, with_begun}
use Rattle.njh_spool.proofs.OnlyOne.{filter_one, find_one, map_one}

-- ---- a partial file grows

module _ (n : ℕ) where
  grown-none : (f : PartialFile) → grown n [] f ≡ f
  grown-none f = at_test (f.number == n)
    where
      at_test : (b : Bool) → cond b (record f { records = f.records ++ [] }) f ≡ f
      at_test true = ap (λ (rs : List Stored). record f { records = rs }) (append-nil f.records)
      at_test false = refl

  all-none : (fs : List PartialFile) → map (grown n []) fs ≡ fs
  all-none [] = refl
  all-none (f ∷ fs) =
      ap (λ x. x ∷ map (grown n []) fs) (grown-none f) ∙ ap (λ more. f ∷ more) (all-none fs)

  pub more-none : (s : CustomerSpool) → with_more n [] s ≡ s
  more-none s = ap (λ (fs : List PartialFile). record s { partial = fs }) (all-none s.partial)

  grown-more : (rs : List Stored) (r : Stored) (f : PartialFile)
      → grown n (r ∷ []) (grown n rs f) ≡ grown n (rs ++ r ∷ []) f
  grown-more rs r f = at_test (f.number == n) refl
    where
      at_test : (b : Bool) → (f.number == n) ≡ b
          → grown n (r ∷ []) (cond b (record f { records = f.records ++ rs }) f) ≡ cond b
          (record f { records = f.records ++ (rs ++ r ∷ []) }) f
      at_test true e =
          ap (λ b. cond b (record f { records = (f.records ++ rs) ++ r ∷ [] }) (record f { records = f.records ++ rs }))
          e
          ∙ ap (λ (xs : List Stored). record f { records = xs }) (append_assoc f.records rs (r ∷ []))
      at_test false e = ap (λ b. cond b (record f { records = f.records ++ r ∷ [] }) f) e

  all-more : (rs : List Stored) (r : Stored) (fs : List PartialFile)
      → map (grown n (r ∷ [])) (map (grown n rs) fs) ≡ map (grown n (rs ++ r ∷ [])) fs
  all-more rs r [] = refl
  all-more rs r (f ∷ fs) =
      ap (λ x. x ∷ map (grown n (r ∷ [])) (map (grown n rs) fs)) (grown-more rs r f)
      ∙ ap (λ more. grown n (rs ++ r ∷ []) f ∷ more) (all-more rs r fs)

  -- a record more
  pub more-appended : (rs : List Stored) (r : Stored) (s : CustomerSpool)
      → with_appended n r (with_more n rs s) ≡ with_more n (rs ++ r ∷ []) s
  more-appended rs r s = ap (λ (fs : List PartialFile). record s { partial = fs }) (all-more rs r s.partial)

  -- it stays there
  still_there : (rs : List Stored) (fs : List PartialFile) → is_some (find (λ f. f.number == n) fs) ≡ true
      → is_some (find (λ f. f.number == n) (map (grown n rs) fs)) ≡ true
  still_there rs [] some = some
  still_there rs (f ∷ fs) some = at_test (f.number == n) refl (still_there rs fs) some
    where
      at_test : (b : Bool) → (f.number == n) ≡ b
          → (is_some (find (λ f. f.number == n) fs) ≡ true
          → is_some (find (λ f. f.number == n) (map (grown n rs) fs)) ≡ true)
          → is_some (cond b (Some f) (find (λ f. f.number == n) fs)) ≡ true
          → is_some (find (λ f. f.number == n) (cond b (record f { records = f.records ++ rs }) f ∷ map (grown n rs)
          fs)) ≡ true
      at_test true e more some =
          ap (λ b. is_some (cond b (Some (record f { records = f.records ++ rs }))
          (find (λ f. f.number == n) (map (grown n rs) fs)))) e
      at_test false e more some =
          ap (λ b. is_some (cond b (Some f) (find (λ f. f.number == n) (map (grown n rs) fs)))) e ∙ more some

  pub more-there : (rs : List Stored) (s : CustomerSpool) → IsSome (partial_numbered n s)
      → IsSome (partial_numbered n (with_more n rs s))
  more-there rs s some = still_there rs s.partial some

  -- ---- how many blocks it takes

  cost-more : (rs xs ys : List Stored) → cost (rs ++ xs) ≤ cost (rs ++ (xs ++ ys))
  cost-more rs xs ys =
      let size : List Stored → ℕ = stored_size in
      let first : size (rs ++ xs) ≡ size rs + size xs = sum_by-append (λ (r : Stored). 3 + length r.bytes) rs xs in
      let all : size (rs ++ (xs ++ ys)) ≡ size rs + size (xs ++ ys) =
      sum_by-append (λ (r : Stored). 3 + length r.bytes) rs (xs ++ ys) in
      let both : size (xs ++ ys) ≡ size xs + size ys = sum_by-append (λ (r : Stored). 3 + length r.bytes) xs ys in
      omega arith

  grown-cost : (xs ys : List Stored) (f : PartialFile)
      → cost (grown n xs f).records ≤ cost (grown n (xs ++ ys) f).records
  grown-cost xs ys f = at_test (f.number == n)
    where
      at_test : (b : Bool) → cost (cond b (record f { records = f.records ++ xs }) f).records
          ≤ cost (cond b (record f { records = f.records ++ (xs ++ ys) }) f).records
      at_test true = cost-more f.records xs ys
      at_test false = omega arith

  all-cost : (xs ys : List Stored) (fs : List PartialFile)
      → sum_by (λ f. cost f.records) (map (grown n xs) fs) ≤ sum_by (λ f. cost f.records) (map (grown n (xs ++ ys)) fs)
  all-cost xs ys [] = omega arith
  all-cost xs ys (f ∷ fs) =
      let more = all-cost xs ys fs in
      let one = grown-cost xs ys f in
      let front = sum_by-cons (λ (g : PartialFile). cost g.records) (grown n xs f) (map (grown n xs) fs) in
      let back =
      sum_by-cons (λ (g : PartialFile). cost g.records) (grown n (xs ++ ys) f) (map (grown n (xs ++ ys)) fs) in
      omega arith

  -- some of the records take no more than all
  pub more-blocks : (k : ℕ) (rs : List Stored) (s : CustomerSpool)
      → used_blocks (with_more n (take k rs) s) ≤ used_blocks (with_more n rs s)
  more-blocks k rs s =
      let some = all-cost (take k rs) (drop k rs) s.partial in
      let whole =
      ap (λ (xs : List Stored). sum_by (λ (f : PartialFile). cost f.records) (map (grown n xs) s.partial))
      (take-append-drop k rs) in
      omega (arith, some, whole)

-- ---- a new partial file

module _ (kind : Kind) (s : CustomerSpool) (fresh : is_number (next_number s) s ≡ false) where
  no_partial : list_any (λ f. f.number == next_number s) s.partial ≡ false
  no_partial =
      (or_parts (list_any (λ f. f.number == next_number s) s.whole)
      (list_any (λ f. f.number == next_number s) s.partial) fresh).1

  no_whole : list_any (λ f. f.number == next_number s) s.whole ≡ false
  no_whole =
      (or_parts (list_any (λ f. f.number == next_number s) s.whole)
      (list_any (λ f. f.number == next_number s) s.partial) fresh).0

  abbrev new : List Stored → PartialFile
  new rs = record { number = next_number s; kind = kind; records = rs }

  itself : (next_number s == next_number s) ≡ true
  itself = eq-eqb (next_number s) (next_number s) refl

  pub begun-more : (rs : List Stored) → with_more (next_number s) rs (with_new_partial kind s) ≡ with_begun kind rs s
  begun-more rs =
      ap (λ (fs : List PartialFile). record s { partial = fs })
      (map_one (λ f. f.number == next_number s) (λ f. record f { records = f.records ++ rs }) s.partial [] (new [])
      itself no_partial refl)

  pub begun-there : (rs : List Stored) → partial_numbered (next_number s) (with_begun kind rs s) ≡ Some (new rs)
  begun-there rs = find_one (λ f. f.number == next_number s) s.partial [] (new rs) itself no_partial

  pub begun-dropped : (rs : List Stored) → without_partial (next_number s) (with_begun kind rs s) ≡ s
  begun-dropped rs =
      ap (λ (fs : List PartialFile). record s { partial = fs })
      (filter_one (λ f. f.number == next_number s) s.partial [] (new rs) itself no_partial refl ∙ append-nil s.partial)

  pub begun-finished : (rs : List Stored)
      → with_finished (next_number s) (with_begun kind rs s) ≡ with_restored (kept kind false rs) s
  begun-finished rs =
      ap (λ (o : Option PartialFile). elim o as (λ _. CustomerSpool) [
        | None ↦ with_begun kind rs s
        | Some f ↦ with_arrived (as_whole f) (without_partial (next_number s) (with_begun kind rs s))
      ]) (begun-there rs)
      ∙ ap (with_arrived (record { number = next_number s; kind = kind; records = rs; state = Ready }))
      (begun-dropped rs)

  pub finished-held : (rs : List Stored)
      → with_state (next_number s) Held (with_restored (kept kind false rs) s) ≡ with_restored (kept kind true rs) s
  finished-held rs =
      ap (λ (fs : List WholeFile). record s { whole = fs; arrived = one_more s.arrived })
      (map_one (λ f. f.number == next_number s) (λ f. record f { state = Held }) s.whole []
      (record { number = next_number s; kind = kind; records = rs; state = Ready }) itself no_whole refl)

pub begun-blocks : (kind : Kind) (rs : List Stored) (s : CustomerSpool)
    → used_blocks (with_begun kind rs s) ≡ used_blocks s + cost rs
begun-blocks kind rs s =
    let new : PartialFile = record { number = next_number s; kind = kind; records = rs } in
    let both = sum_by-append (λ (f : PartialFile). cost f.records) s.partial (new ∷ []) in
    let one = sum_by-cons (λ (f : PartialFile). cost f.records) new [] in
    omega (arith, both, one)

-- records take a block at least, where there are some
pub some-blocks : (rs : List Stored) → 0 < length rs → 0 < cost rs
some-blocks [] some = absurd (omega (arith, some))
some-blocks (r ∷ rs) some =
    let size = sum_by-cons (λ (r : Stored). 3 + length r.bytes) r rs in
    omega (arith, size)
