-- When one of many lines wants to be looked at.
use Rattle.std.proofs.Common.{◌≡◌, ◌≢◌, ℕ, ◌+◌, ◌*◌, ◌<◌, ◌≤◌, ◌⊎◌, List, length, set, min, sym, ap, ◌∙◌}
use Rattle.std.proofs.Common.{arith, subst, ⊎_elim, inl, inr}
use Rattle.std.specs.Prelude.{IsTrue}
use Rattle.std.proofs.lemmas.Bool.{cases_eq, cases_lt}
use Rattle.std.proofs.lemmas.List.{get_or-set_same, get_or-set_other}
use Rattle.njh_lines.specs.declared.attention.Watch.{Watch}
use Rattle.njh_lines.specs.Attention.{at_once, called, watch_at, IsFirstMoment, IsInGroup, IsMomentOf}
use Rattle.njh_lines.specs.Watching.{IsGroupsMoment}

pub in_group : (place group : ℕ) → IsInGroup place group ⊎ ¬ IsInGroup place group
in_group place group = ⊎_elim
    (λ (less : place < 16 * group). inr (λ its. let none : ⊥ = omega (arith, less, its.0) in none))
    (λ (from : 16 * group ≤ place). ⊎_elim
    (λ (before : place < 16 * group + 16). inl (from, before))
    (λ (past : 16 * group + 16 ≤ place). inr (λ its. let none : ⊥ = omega (arith, past, its.1) in none))
    (cases_lt place (16 * group + 16)))
    (cases_lt place (16 * group))

-- it wants that among others too, whose watches of those places say the same
pub moment_among : (some all : ℕ → Type 0) (w new_w : List Watch) (moment : ℕ)
    → ((place : ℕ) → some place → all place)
    → ((place : ℕ) → some place → (watch_at new_w place).moment ≡ (watch_at w place).moment)
    → IsMomentOf some w moment → IsMomentOf all new_w moment
moment_among some all w new_w moment more same (inl never) = inl never
moment_among some all w new_w moment more same (inr (place, its, is)) =
    inr (place, more place its, same place its ∙ is)

-- the first of two such moments
pub first_among : (some others all : ℕ → Type 0) (w : List Watch) (one two moment : ℕ) → moment ≡ min one two
    → ((place : ℕ) → some place → all place) → ((place : ℕ) → others place → all place)
    → IsMomentOf some w one → IsMomentOf others w two → IsMomentOf all w moment
first_among some others all w one two moment is these those first second =
    let Of : ℕ → Type 0 = λ n. IsMomentOf all w n in
    ⊎_elim
    (λ (less : two < one).
    let same : two ≡ moment = omega (arith, less, is) in
    subst Of same (moment_among others all w w two those (λ place its. refl_at w place) second))
    (λ (more : one ≤ two).
    let same : one ≡ moment = omega (arith, more, is) in
    subst Of same (moment_among some all w w one these (λ place its. refl_at w place) first))
    (cases_lt two one) where
      refl_at : (w : List Watch) (place : ℕ) → (watch_at w place).moment ≡ (watch_at w place).moment
      refl_at w place = omega arith

-- one of the lines is called, and wants to be looked at then, if not before
pub moment_called : (among : ℕ → Type 0) (w : List Watch) (at now moment new_moment : ℕ) (was new : Watch)
    → among at → at < length w → was ≡ watch_at w at → new ≡ called now was → moment ≤ was.moment
    → new_moment ≡ min moment now → IsMomentOf among w moment → IsMomentOf among (set w at new) new_moment
moment_called among w at now moment new_moment was new its there read is early new_is first =
    let own : (watch_at (set w at new) at).moment ≡ min was.moment now =
    ap (λ (x : Watch). x.moment) (get_or-set_same w at new at_once there ∙ is) in
    ⊎_elim
    (λ (less : now < moment). inr (at, its, omega (arith, own, less, early, new_is)))
    (λ (more : moment ≤ now).
    let same : new_moment ≡ moment = omega (arith, more, new_is) in
    ⊎_elim
    (λ (never : moment ≡ 18446744073709551615). inl (same ∙ never))
    (λ (one : (place : ℕ) × (among place) × ((watch_at w place).moment ≡ moment)). ⊎_elim
    (λ (here : one.0 ≡ at).
    let old : was.moment ≡ moment = ap (λ (x : Watch). x.moment) read
    ∙ (ap (λ (k : ℕ). (watch_at w k).moment) (sym here) ∙ one.2) in
    inr (at, its, omega (arith, own, old, more, new_is)))
    (λ (other : one.0 ≢ at).
    inr (
      one.0,
      one.1,
      ap (λ (x : Watch). x.moment) (get_or-set_other w at one.0 new at_once other)
          ∙ (one.2 ∙ sym same),
    ))
    (cases_eq one.0 at))
    first)
    (cases_lt now moment)

-- ---- groups

-- the lines of another group
other_group : (n : ℕ) (w : List Watch) (at group : ℕ) (new was now : Watch) → ¬ IsInGroup at group
    → now.moment ≡ was.moment → (IsTrue was.is_due → IsTrue now.is_due) → IsGroupsMoment n w group was
    → IsGroupsMoment n (set w at new) group now
other_group n w at group new was now elsewhere same stays (inl due) = inl (stays due)
other_group n w at group new was now elsewhere same stays (inr (inl never)) = inr (inl (same ∙ never))
other_group n w at group new was now elsewhere same stays (inr (inr (place, its, is))) =
    let In : ℕ → Type 0 = λ k. IsInGroup k group in
    let apart : place ≢ at = λ here. elsewhere (subst In here its.0) in
    inr (inr (
      place,
      its,
      ap (λ (x : Watch). x.moment) (get_or-set_other w at place new at_once apart)
          ∙ (is ∙ sym same),
    ))

-- a line wants to be looked at at another moment, and its group is looked at in this round
pub group_looked : (n : ℕ) (w g new_g : List Watch) (at : ℕ) (new : Watch)
    → ((group : ℕ) → IsInGroup at group → IsTrue (watch_at new_g group).is_due)
    → ((group : ℕ) → ¬ IsInGroup at group → (watch_at new_g group).moment ≡ (watch_at g group).moment)
    → ((group : ℕ) → IsTrue (watch_at g group).is_due → IsTrue (watch_at new_g group).is_due)
    → (group : ℕ) → IsGroupsMoment n w group (watch_at g group)
    → IsGroupsMoment n (set w at new) group (watch_at new_g group)
group_looked n w g new_g at new looked others stays group was = ⊎_elim
    (λ (its : IsInGroup at group). inl (looked group its))
    (λ (elsewhere : ¬ IsInGroup at group). other_group n w at group new (watch_at g group) (watch_at new_g group)
    elsewhere (others group elsewhere) (stays group) was)
    (in_group at group)

-- a line is called, and its group with it
pub group_called : (n : ℕ) (w g new_g : List Watch) (at now : ℕ) (was new : Watch) → at < n → at < length w
    → was ≡ watch_at w at → new ≡ called now was
    → ((group : ℕ) → IsInGroup at group → (watch_at g group).moment ≤ was.moment)
    → ((group : ℕ) → IsInGroup at group → (watch_at new_g group).moment ≡ min (watch_at g group).moment now)
    → ((group : ℕ) → ¬ IsInGroup at group → (watch_at new_g group).moment ≡ (watch_at g group).moment)
    → ((group : ℕ) → IsTrue (watch_at g group).is_due → IsTrue (watch_at new_g group).is_due)
    → (group : ℕ) → IsGroupsMoment n w group (watch_at g group)
    → IsGroupsMoment n (set w at new) group (watch_at new_g group)
group_called n w g new_g at now was new line there read is early calls others stays group before = ⊎_elim
    (λ (its : IsInGroup at group). ⊎_elim
    (λ (due : IsTrue (watch_at g group).is_due). inl (stays group due))
    (λ (first : IsMomentOf (λ place. IsInGroup place group × (place < n)) w (watch_at g group).moment).
    inr (moment_called (λ place. IsInGroup place group × (place < n)) w at now (watch_at g group).moment
    (watch_at new_g group).moment was new (its, line) there read is (early group its) (calls group its) first))
    before)
    (λ (elsewhere : ¬ IsInGroup at group). other_group n w at group new (watch_at g group) (watch_at new_g group)
    elsewhere (others group elsewhere) (stays group) before)
    (in_group at group)

-- a line's watch changes, and its moment stays
pub group_stays : (n : ℕ) (w g new_g : List Watch) (at : ℕ) (was new : Watch) → at < length w
    → was ≡ watch_at w at → new.moment ≡ was.moment
    → ((group : ℕ) → (watch_at new_g group).moment ≡ (watch_at g group).moment)
    → ((group : ℕ) → IsTrue (watch_at g group).is_due → IsTrue (watch_at new_g group).is_due)
    → (group : ℕ) → IsGroupsMoment n w group (watch_at g group)
    → IsGroupsMoment n (set w at new) group (watch_at new_g group)
group_stays n w g new_g at was new there read same moments stays group (inl due) = inl (stays group due)
group_stays n w g new_g at was new there read same moments stays group (inr (inl never)) =
    inr (inl (moments group ∙ never))
group_stays n w g new_g at was new there read same moments stays group (inr (inr (place, its, is))) =
    let own : (watch_at (set w at new) place).moment ≡ (watch_at w place).moment = ⊎_elim
    (λ (here : place ≡ at).
    ap (λ (k : ℕ). (watch_at (set w at new) k).moment) here
    ∙ (ap (λ (x : Watch). x.moment) (get_or-set_same w at new at_once there)
    ∙ (same ∙ (ap (λ (x : Watch). x.moment) read ∙ ap (λ (k : ℕ). (watch_at w k).moment) (sym here)))))
    (λ (other : place ≢ at). ap (λ (x : Watch). x.moment) (get_or-set_other w at place new at_once other))
    (cases_eq place at) in
    inr (inr (place, its, own ∙ (is ∙ sym (moments group))))

-- a line more, whose group is looked at in this round
pub group_grows : (n : ℕ) (w new_w g new_g : List Watch)
    → ((place : ℕ) → place < n → (watch_at new_w place).moment ≡ (watch_at w place).moment)
    → ((group : ℕ) → IsInGroup n group → IsTrue (watch_at new_g group).is_due)
    → ((group : ℕ) → ¬ IsInGroup n group → (watch_at new_g group).moment ≡ (watch_at g group).moment)
    → ((group : ℕ) → IsTrue (watch_at g group).is_due → IsTrue (watch_at new_g group).is_due)
    → (group : ℕ) → IsGroupsMoment n w group (watch_at g group)
    → IsGroupsMoment (n + 1) new_w group (watch_at new_g group)
group_grows n w new_w g new_g same looked others stays group was = ⊎_elim
    (λ (its : IsInGroup n group). inl (looked group its))
    (λ (elsewhere : ¬ IsInGroup n group). ⊎_elim
    (λ (due : IsTrue (watch_at g group).is_due). inl (stays group due))
    (λ (first : IsMomentOf (λ place. IsInGroup place group × (place < n)) w (watch_at g group).moment).
    let Of : ℕ → Type 0 = λ m. IsMomentOf (λ place. IsInGroup place group × (place < n + 1)) new_w m in
    inr (subst Of (sym (others group elsewhere))
    (moment_among (λ place. IsInGroup place group × (place < n)) (λ place. IsInGroup place group × (place < n + 1))
    w new_w (watch_at g group).moment (λ place its. (its.0, omega (arith, its.1))) (λ place its. same place its.1)
    first)))
    was)
    (in_group n group)

-- the first of a group's lines
pub first_in_group : (n lines : ℕ) (w ws : List Watch) (group first end many moment : ℕ) → ws ≡ w → lines ≡ n
    → first ≡ min (16 * group) many → end ≡ min (16 * group + 16) many → many ≡ n → IsFirstMoment ws first end moment
    → IsMomentOf (λ place. IsInGroup place group × (place < lines)) w moment
first_in_group n lines w ws group first end many moment same lines_are first_is end_is many_is least = ⊎_elim
    (λ (never : moment ≡ 18446744073709551615). inl never)
    (λ (one : (place : ℕ) × (first ≤ place) × (place < end) × ((watch_at ws place).moment ≡ moment)).
    let from : 16 * group ≤ one.0 = omega (arith, first_is, end_is, one.1, one.2) in
    let before : one.0 < 16 * group + 16 = omega (arith, end_is, one.2) in
    let line : one.0 < lines = omega (arith, end_is, one.2, many_is, lines_are) in
    inr (one.0, ((from, before), line), ap (λ (xs : List Watch). (watch_at xs one.0).moment) (sym same) ∙ one.3))
    least.wanted
