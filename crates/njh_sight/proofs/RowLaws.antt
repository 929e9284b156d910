-- One row of many is made another, and the first of many moments.
use Rattle.std.proofs.Common.{◌≡◌, ℕ, ◌+◌, ◌<◌, ◌≤◌, ◌⊎◌, List, length, set, get_or, min, Some, None, refl, sym}
use Rattle.std.proofs.Common.{ap, ◌∙◌, arith, subst, ⊎_elim, inr}
use Rattle.std.specs.Prelude.{slice_get}
use Rattle.std.specs.Option.{option_map}
use Rattle.std.proofs.lemmas.Bool.{cases_lt}
use Rattle.std.proofs.lemmas.List.{get_or-set_same, get_or-set_other, length-set}
use Rattle.std.proofs.lemmas.Option.{get_or_from_slice_get, slice_get-get_or, slice_get_past}
use Rattle.njh_sight.specs.Waking.{look_moment, IsRowMade}
use Rattle.njh_sight.specs.declared.customers.Row.{Row}

made_at : (at : ℕ) (made : Row → Row) (rows : List Row) (new d : Row) → at < length rows
    → new ≡ made (get_or rows at d) → IsRowMade at made rows (set rows at new)
made_at at made rows new d there is = record {
  own = slice_get-get_or (set rows at new) at new (omega (arith, there, length-set rows at new))
      ∙ (ap (λ (x : Row). Some x) (get_or-set_same rows at new new there)
      ∙ (ap (λ (x : Row). Some x) is ∙ sym (ap (option_map made) (slice_get-get_or rows at d there))));
  others = λ other apart. ⊎_elim
      (λ (within : other < length rows).
      slice_get-get_or (set rows at new) other new (omega (arith, within, length-set rows at new))
      ∙ (ap (λ (x : Row). Some x) (get_or-set_other rows at other new new apart)
      ∙ sym (slice_get-get_or rows other new within)))
      (λ (past : length rows ≤ other).
      slice_get_past (set rows at new) other (omega (arith, past, length-set rows at new))
      ∙ sym (slice_get_past rows other past))
      (cases_lt other (length rows));
}

-- a row is made another
pub row_made : (customer at : ℕ) (made : Row → Row) (rows old : List Row) (new d : Row) → at ≡ customer → rows ≡ old
    → at < length rows → new ≡ made (get_or rows at d) → IsRowMade customer made old (set rows at new)
row_made customer at made rows old new d here same there is =
    let Of : List Row → Type 0 = λ was. IsRowMade customer made was (set rows at new) in
    let At : ℕ → Type 0 = λ k. IsRowMade k made rows (set rows at new) in
    subst Of same (subst At here (made_at at made rows new d there is))

-- there is no such row
pub no_row : (customer at : ℕ) (made : Row → Row) (rows old : List Row) → at ≡ customer → rows ≡ old
    → length rows ≤ at → IsRowMade customer made old old
no_row customer at made rows old here same past =
    let none : slice_get old customer ≡ None =
    slice_get_past old customer (omega (arith, past, here, ap length same)) in record {
      own = none ∙ sym (ap (option_map made) none);
      others = λ other apart. refl;
    }

-- the first of the moments of the rows so far, and of one more
pub least_more : (rows : List Row) (at moment new : ℕ) (d : Row) → at < length rows
    → new ≡ min moment (look_moment (get_or rows at d))
    → ((k : ℕ) (row : Row) → k < at → slice_get rows k ≡ Some row → moment ≤ look_moment row)
    → (k : ℕ) (row : Row) → k < at + 1 → slice_get rows k ≡ Some row → new ≤ look_moment row
least_more rows at moment new d there is least k row before found = ⊎_elim
    (λ (earlier : k < at). let was = least k row earlier found in omega (arith, was, is))
    (λ (last : at ≤ k).
    let here : k ≡ at = omega (arith, last, before) in
    let own : look_moment (get_or rows at d) ≡ look_moment row =
    ap (λ (n : ℕ). look_moment (get_or rows n d)) (sym here)
    ∙ ap (λ (x : Row). look_moment x) (get_or_from_slice_get rows k row d found) in
    omega (arith, own, is))
    (cases_lt k at)

-- and it is that of one
pub wanted_more : (rows : List Row) (at moment new : ℕ) (d : Row) → at < length rows
    → new ≡ min moment (look_moment (get_or rows at d))
    → (moment ≡ 18446744073709551615)
    ⊎ ((k : ℕ) × ((row : Row) × (slice_get rows k ≡ Some row) × (look_moment row ≡ moment)))
    → (new ≡ 18446744073709551615) ⊎ ((k : ℕ) × ((row : Row) × (slice_get rows k ≡ Some row) × (look_moment row ≡ new)))
wanted_more rows at moment new d there is wanted =
    let own = get_or rows at d in ⊎_elim
    (λ (less : look_moment own < moment).
    inr (at, (own, slice_get-get_or rows at d there, omega (arith, is, less))))
    (λ (more : moment ≤ look_moment own).
    let same : new ≡ moment = omega (arith, is, more) in
    let P : ℕ → Type 0 = λ n. (n ≡ 18446744073709551615)
    ⊎ ((k : ℕ) × ((row : Row) × (slice_get rows k ≡ Some row) × (look_moment row ≡ n))) in
    subst P (sym same) wanted)
    (cases_lt (look_moment own) moment)
