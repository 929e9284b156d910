-- When groups of lines are looked at.
use Rattle.std.proofs.Common.{◌≡◌, ℕ, ◌+◌, ◌<◌, ◌≤◌, ◌⊎◌, List, length, get_or, min, sym, ap, subst}
use Rattle.std.proofs.Common.{◌∙◌, arith, ⊎_elim, inr}
use Rattle.std.proofs.lemmas.Bool.{cases_lt}
use Rattle.std.proofs.lemmas.List.{get_or_default}
use Rattle.njh_lines.specs.declared.attention.Watch.{Watch}
use Rattle.njh_lines.specs.Attention.{at_once, watch_at}

-- the first of the lines so far, and of one more
pub first_more : (watches : List Watch) (first place next new : ℕ) (d : Watch) → place < length watches
    → new ≡ min next (get_or watches place d).moment
    → ((p : ℕ) → first ≤ p → p < place → p < length watches → next ≤ (watch_at watches p).moment)
    → (p : ℕ) → first ≤ p → p < place + 1 → p < length watches → new ≤ (watch_at watches p).moment
first_more watches first place next new d there is least p from before within =
    ⊎_elim (λ (earlier : p < place).
    let old : next ≤ (watch_at watches p).moment = least p from earlier within in
    omega (arith, is, old))
    (λ (last : place ≤ p).
    let here : p ≡ place = omega (arith, last, before) in
    let at : (watch_at watches p).moment ≡ (get_or watches place d).moment =
    ap (λ (n : ℕ). (watch_at watches n).moment) here
    ∙ ap (λ (w : Watch). w.moment) (get_or_default watches place at_once d there) in
    omega (arith, is, at))
    (cases_lt p place)

-- and when it wants to be looked at
pub found_more : (watches : List Watch) (first place end next new : ℕ) (d : Watch) → place < length watches
    → first ≤ place → place < end → new ≡ min next (get_or watches place d).moment
    → (next ≡ 18446744073709551615) ⊎ ((p : ℕ) × (first ≤ p) × (p < end) × ((watch_at watches p).moment ≡ next))
    → (new ≡ 18446744073709551615) ⊎ ((p : ℕ) × (first ≤ p) × (p < end) × ((watch_at watches p).moment ≡ new))
found_more watches first place end next new d there from before is found =
    let m = (get_or watches place d).moment in
    let at : (watch_at watches place).moment ≡ m =
    ap (λ (w : Watch). w.moment) (get_or_default watches place at_once d there) in
    ⊎_elim (λ (less : m < next). inr (place, from, before, omega (arith, is, at, less)))
    (λ (more : next ≤ m). let same : new ≡ next = omega (arith, is, more) in
    let P : ℕ → Type 0 = λ n. (n ≡ 18446744073709551615)
    ⊎ ((p : ℕ) × (first ≤ p) × (p < end) × ((watch_at watches p).moment ≡ n)) in
    subst P (sym same) found)
    (cases_lt m next)
