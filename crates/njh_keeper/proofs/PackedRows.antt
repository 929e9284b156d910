-- The rows of a file's records, each with one record or several.
use Rattle.std.proofs.Common.{◌≡◌, ◌≢◌, ℕ, suc, ◌+◌, ◌<◌, List, [], ◌∷◌}
use Rattle.std.proofs.Common.{◌++◌, length, get_or, drop, refl, sym, ap, subst, ◌∙◌, append-nil}
use Rattle.std.proofs.Common.{arith, length-append}
use Rattle.std.proofs.lemmas.List.Concat.{flat_map-append}
use Rattle.std.specs.List.{AllByRecursion}
use Rattle.njh_spoolfile.specs.{Kept.{IsNumbered, Record, contents, contents_in, put, record_number}}
use Rattle.njh_spoolfile.specs.Packed.{placed_from, unpacked_row}
use Rattle.njh_keeper.proofs.{NumberedLaws.{put_last}, RowRecords.a_row_has_records}

abbrev Packed : Type 0
Packed = ℕ × List ℕ

abbrev Placed : Type 0
Placed = ℕ × ℕ × List ℕ

abbrev pub IsUnder : ℕ → ℕ × Record → Type 0
IsUnder key e = IsNumbered e × (e.1.key ≡ key)

abbrev pub in_row : ℕ × Record → List (ℕ × List ℕ)
in_row e = unpacked_row e.1.srcb e.1.bytes

-- ---- records with their places

pub placed-append : (place : ℕ) (xs ys : List Packed)
    → placed_from place (xs ++ ys) ≡ placed_from place xs ++ placed_from (place + length xs) ys
placed-append place [] ys = let here : place + 0 ≡ place = omega arith in λ i. placed_from (sym here i) ys
placed-append place (x ∷ xs) ys =
    let further : place + 1 + length xs ≡ place + suc (length xs) = omega arith in
    ap (λ (ps : List Placed). (place, x.0, x.1) ∷ ps) (placed-append (place + 1) xs ys
    ∙ (λ i. placed_from (place + 1) xs ++ placed_from (further i) ys))

-- the first of these are those, and the others stand behind them
record Begins (place : ℕ) (xs : List Packed) (rest : List Placed) (ys : List Packed) : Type 0 where
  others : List Packed
  split : ys ≡ xs ++ others
  behind : rest ≡ placed_from (place + length xs) others

begins : (place : ℕ) (xs : List Packed) (rest : List Placed) (ys : List Packed)
    → placed_from place xs ++ rest ≡ placed_from place ys → Begins place xs rest ys
begins place [] rest ys same =
    let here : place + 0 ≡ place = omega arith in
    record { others = ys; split = refl; behind = same ∙ (λ i. placed_from (sym here i) ys) }
begins place (x ∷ xs) rest [] same = absurd (let long = ap (λ (l : List Placed). length l) same in omega (arith, long))
begins place (x ∷ xs) rest (y ∷ ys) same =
    let more = begins (place + 1) xs rest ys (ap (λ (l : List Placed). drop 1 l) same) in
    let first : ◌≡◌ {A = Placed} (place, x.0, x.1) (place, y.0, y.1) =
    ap (λ (l : List Placed). get_or l 0 (place, x.0, x.1)) same in
    let further : place + 1 + length xs ≡ place + suc (length xs) = omega arith in
    record {
      others = more.others;
      split = λ i. (ap (λ (p : Placed). p.1) (sym first) i, ap (λ (p : Placed). p.2) (sym first) i) ∷ more.split i;
      behind = more.behind ∙ (λ i. placed_from (further i) more.others);
    }

stands_at : (p place : ℕ) (xs : List Packed) (rest : List Placed) (ys : List Packed) → xs ≢ []
    → placed_from p xs ++ rest ≡ placed_from place ys → p ≡ place
stands_at p place [] rest ys some same = absurd (some refl)
stands_at p place (x ∷ xs) rest [] some same =
    absurd (let long = ap (λ (l : List Placed). length l) same in omega (arith, long))
stands_at p place (x ∷ xs) rest (y ∷ ys) some same =
    ap (λ (l : List Placed). (get_or l 0 (p, x.0, x.1)).0) same

some_is_there : (xs : List Packed) → xs ≢ [] → 0 < length xs
some_is_there [] some = absurd (some refl)
some_is_there (x ∷ xs) some = omega arith

-- ---- the first row, and the others

module _ (place : ℕ) (ys : List Packed) (e : ℕ × Record) (es : List (ℕ × Record))
    (same : contents_in (e ∷ es) ≡ placed_from place ys) where
  first_at : e.1.place ≡ place
  first_at = stands_at e.1.place place (in_row e) (contents_in es) ys (a_row_has_records e.1.srcb e.1.bytes) same

  first_row : Begins place (in_row e) (contents_in es) ys
  first_row = begins place (in_row e) (contents_in es) ys
      (subst (λ p. placed_from p (in_row e) ++ contents_in es ≡ placed_from place ys) first_at same)

  first_long : 0 < length (in_row e)
  first_long = some_is_there (in_row e) (a_row_has_records e.1.srcb e.1.bytes)

module _ (key : ℕ) where
  -- all stand below the place behind the last record
  pub rows_below : (es : List (ℕ × Record)) (place : ℕ) (ys : List Packed) → AllByRecursion (IsUnder key) es
      → contents_in es ≡ placed_from place ys
      → AllByRecursion (λ e. e.0 < record_number key (place + length ys)) es
  rows_below [] place ys under same = tt
  rows_below (e ∷ es) place ys under same =
      let row = first_row place ys e es same in
      let at = first_at place ys e es same in
      let some = first_long place ys e es same in
      let long = ap (λ (l : List Packed). length l) row.split ∙ length-append (in_row e) row.others in
      let far : place + length (in_row e) + length row.others ≡ place + length ys = omega (arith, long) in (
        omega (arith, under.0.0.0, under.0.1, at, some, long),
        subst (λ n. AllByRecursion (λ x. x.0 < record_number key n) es) far
            (rows_below es (place + length (in_row e)) row.others under.1 row.behind),
      )

  -- a row comes behind them
  pub row_comes : (es : List (ℕ × Record)) (ys xs : List Packed) (r : Record) → AllByRecursion (IsUnder key) es
      → contents_in es ≡ placed_from 0 ys → r.place ≡ length ys → unpacked_row r.srcb r.bytes ≡ xs
      → contents_in (put (record_number key (length ys), r) es) ≡ placed_from 0 (ys ++ xs)
  row_comes es ys xs r under same at are =
      let new : ℕ × Record = (record_number key (length ys), r) in
      ap contents_in (put_last (record_number key (length ys)) r es
      (subst (λ n. AllByRecursion (λ e. e.0 < record_number key n) es) (omega arith) (rows_below es 0 ys under same)))
      ∙ flat_map-append contents es (new ∷ [])
      ∙ (λ i. same i ++ append-nil (placed_from (at i) (are i)) i)
      ∙ (let behind : length ys ≡ 0 + length ys = omega arith in
      λ i. placed_from 0 ys ++ placed_from (behind i) xs)
      ∙ sym (placed-append 0 ys xs)
