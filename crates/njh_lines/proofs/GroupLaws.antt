-- How lines, their marks and watches, and their groups stay together.
use Rattle.std.proofs.Common.{◌≡◌, ◌≢◌, ℕ, ◌+◌, ◌*◌, ◌<◌, ◌≤◌, List, [], ◌∷◌, ◌++◌, length, set, get_or, min, ◌↔◌}
use Rattle.std.proofs.Common.{sym, ap, subst, ◌∙◌, arith, ⊎_elim, inl, inr, ◌⊎◌}
use Rattle.std.specs.Prelude.{Bool, IsTrue}
use Rattle.std.proofs.lemmas.Bool.{cases_eq, cases_lt}
use Rattle.std.proofs.lemmas.List.{get_or-set_same, get_or-set_other, get_or_read, length-set}
use Rattle.std.proofs.lemmas.List.{length-append, get_or_append_left}
use Rattle.njh_wire.specs.declared.network.Readiness.{Readiness}
use Rattle.njh_lines.specs.declared.attention.Watch.{Watch}
use Rattle.njh_lines.specs.Attention.{at_once, mark_at, nothing, watch_at, IsAnyDue, IsAnyMarked, IsFirstMoment, IsInGroup}
use Rattle.njh_lines.specs.Attention.{IsWanted}
use Rattle.njh_lines.specs.Watching.{AreGrouped, HasBegun, IsGroupsMoment}
use Rattle.njh_lines.proofs.MomentLaws.{group_called, group_grows, group_stays}
use Rattle.njh_lines.proofs.RoundLaws.{idle_begun, past_begun}

-- a group is looked at when the first of its lines wants to be
pub group_rests : (n : ℕ) (r : List Readiness) (w g : List Watch) (next : ℕ) (at : ℕ) (new : Watch)
    → at < length g
    → ((place : ℕ) → IsInGroup place at → place < n → new.moment ≤ (watch_at w place).moment)
    → ((place : ℕ) → IsInGroup place at → place < n → IsTrue (watch_at w place).is_due → IsTrue new.is_due)
    → IsGroupsMoment n w at new → AreGrouped n r w g next → AreGrouped n r w (set g at new) next
group_rests n r w g next at new there first dues wanted fit = record {
  many_marks = fit.many_marks;
  many_watches = fit.many_watches;
  many_groups = omega (arith, fit.many_groups, length-set g at new);
  covered = λ group place within before. ⊎_elim
      (λ (here : group ≡ at).
      let now : (watch_at (set g at new) group).moment ≡ new.moment =
      ap (λ (k : ℕ). (watch_at (set g at new) k).moment) here
      ∙ ap (λ (x : Watch). x.moment) (get_or-set_same g at new at_once there) in
      let In : ℕ → Type 0 = λ k. IsInGroup place k in
      let early = first place (subst In here within) before in
      omega (arith, now, early))
      (λ (other : group ≢ at).
      let old : (watch_at (set g at new) group).moment ≡ (watch_at g group).moment =
      ap (λ (x : Watch). x.moment) (get_or-set_other g at group new at_once other) in
      let early = fit.covered group place within before in
      omega (arith, old, early))
      (cases_eq group at);
  waits = fit.waits;
  due = λ group place within before its. ⊎_elim
      (λ (here : group ≡ at).
      let In : ℕ → Type 0 = λ k. IsInGroup place k in
      let now : (watch_at (set g at new) group).is_due ≡ new.is_due =
      ap (λ (k : ℕ). (watch_at (set g at new) k).is_due) here
      ∙ ap (λ (x : Watch). x.is_due) (get_or-set_same g at new at_once there) in
      now ∙ dues place (subst In here within) before its)
      (λ (other : group ≢ at).
      ap (λ (x : Watch). x.is_due) (get_or-set_other g at group new at_once other)
      ∙ fit.due group place within before its)
      (cases_eq group at);
  wanted = λ group. ⊎_elim
      (λ (here : group ≡ at).
      let Of : ℕ → Type 0 = λ k. IsGroupsMoment n w k (watch_at (set g at new) k) in
      let At : Watch → Type 0 = λ watch. IsGroupsMoment n w at watch in
      subst Of (sym here) (subst At (sym (get_or-set_same g at new at_once there)) wanted))
      (λ (other : group ≢ at).
      let At : Watch → Type 0 = λ watch. IsGroupsMoment n w group watch in
      subst At (sym (get_or-set_other g at group new at_once other)) (fit.wanted group))
      (cases_eq group at);
}

-- a line is looked at at another moment, its group then or before, and the attendant waits no longer
pub line_more : (n : ℕ) (r : List Readiness) (w g new_g : List Watch) (next new_next : ℕ) (at : ℕ) (new : Watch)
    → at < n → length new_g ≡ length g → new_next ≤ next → new_next ≤ new.moment
    → ((group : ℕ) → (watch_at new_g group).moment ≤ (watch_at g group).moment)
    → ((group : ℕ) → IsInGroup at group → (watch_at new_g group).moment ≤ new.moment)
    → ((group : ℕ) → IsTrue (watch_at g group).is_due → IsTrue (watch_at new_g group).is_due)
    → ((group : ℕ) → IsInGroup at group → IsTrue new.is_due → IsTrue (watch_at new_g group).is_due)
    → ((group : ℕ) → IsGroupsMoment n w group (watch_at g group)
    → IsGroupsMoment n (set w at new) group (watch_at new_g group))
    → AreGrouped n r w g next → AreGrouped n r (set w at new) new_g new_next
line_more n r w g new_g next new_next at new there many sooner early lowers calls stays looks wants fit =
    let many_is = fit.many_watches in record {
      many_marks = fit.many_marks;
      many_watches = length-set w at new ∙ fit.many_watches;
      many_groups = omega (arith, fit.many_groups, many);
      covered = λ group place within before. ⊎_elim
          (λ (here : place ≡ at).
          let now : (watch_at (set w at new) place).moment ≡ new.moment =
          ap (λ (k : ℕ). (watch_at (set w at new) k).moment) here
          ∙ ap (λ (x : Watch). x.moment) (get_or-set_same w at new at_once (omega (arith, there, many_is))) in
          let In : ℕ → Type 0 = λ k. IsInGroup k group in
          let called = calls group (subst In here within) in
          omega (arith, now, called))
          (λ (other : place ≢ at).
          let old : (watch_at (set w at new) place).moment ≡ (watch_at w place).moment =
          ap (λ (x : Watch). x.moment) (get_or-set_other w at place new at_once other) in
          let was = fit.covered group place within before in
          let lower = lowers group in
          omega (arith, old, was, lower))
          (cases_eq place at);
      waits = λ place before. ⊎_elim
          (λ (here : place ≡ at).
          let now : (watch_at (set w at new) place).moment ≡ new.moment =
          ap (λ (k : ℕ). (watch_at (set w at new) k).moment) here
          ∙ ap (λ (x : Watch). x.moment) (get_or-set_same w at new at_once (omega (arith, there, many_is))) in
          omega (arith, now, early))
          (λ (other : place ≢ at).
          let old : (watch_at (set w at new) place).moment ≡ (watch_at w place).moment =
          ap (λ (x : Watch). x.moment) (get_or-set_other w at place new at_once other) in
          let was = fit.waits place before in
          omega (arith, old, was, sooner))
          (cases_eq place at);
      due = λ group place within before its. ⊎_elim
          (λ (here : place ≡ at).
          let now : (watch_at (set w at new) place).is_due ≡ new.is_due =
          ap (λ (k : ℕ). (watch_at (set w at new) k).is_due) here
          ∙ ap (λ (x : Watch). x.is_due) (get_or-set_same w at new at_once (omega (arith, there, many_is))) in
          let In : ℕ → Type 0 = λ k. IsInGroup k group in
          looks group (subst In here within) (sym now ∙ its))
          (λ (other : place ≢ at).
          let old : (watch_at (set w at new) place).is_due ≡ (watch_at w place).is_due =
          ap (λ (x : Watch). x.is_due) (get_or-set_other w at place new at_once other) in
          stays group (fit.due group place within before (sym old ∙ its)))
          (cases_eq place at);
      wanted = λ group. wants group (fit.wanted group);
    }

-- other marks
pub other_marks : (n : ℕ) (r new_r : List Readiness) (w g : List Watch) (next : ℕ) → length new_r ≡ length r
    → AreGrouped n r w g next → AreGrouped n new_r w g next
other_marks n r new_r w g next marks fit = record {
  many_marks = marks ∙ fit.many_marks;
  many_watches = fit.many_watches;
  many_groups = fit.many_groups;
  covered = fit.covered;
  waits = fit.waits;
  due = fit.due;
  wanted = fit.wanted;
}

-- it waits until another moment, which isn't behind that of a line
pub waits_until : (n : ℕ) (r : List Readiness) (w g : List Watch) (next new_next : ℕ)
    → ((place : ℕ) → place < n → new_next ≤ (watch_at w place).moment)
    → AreGrouped n r w g next → AreGrouped n r w g new_next
waits_until n r w g next new_next first fit = record {
  many_marks = fit.many_marks;
  many_watches = fit.many_watches;
  many_groups = fit.many_groups;
  covered = fit.covered;
  waits = first;
  due = fit.due;
  wanted = fit.wanted;
}

-- it waits no longer
pub waits_less : (n : ℕ) (r : List Readiness) (w g : List Watch) (next new_next : ℕ) → new_next ≤ next
    → AreGrouped n r w g next → AreGrouped n r w g new_next
waits_less n r w g next new_next less fit =
    waits_until n r w g next new_next
    (λ place before. let early = fit.waits place before in omega (arith, early, less)) fit

-- a line more
pub one_line_more : (n : ℕ) (r new_r : List Readiness) (w new_w g new_g : List Watch) (next : ℕ)
    → new_r ≡ r ++ nothing ∷ [] → new_w ≡ w ++ at_once ∷ [] → n < 16 * length new_g
    → ((group : ℕ) → (watch_at new_g group).moment ≤ (watch_at g group).moment)
    → ((group : ℕ) → IsInGroup n group → (watch_at new_g group).moment ≡ 0)
    → ((group : ℕ) → IsTrue (watch_at g group).is_due → IsTrue (watch_at new_g group).is_due)
    → ((group : ℕ) → IsInGroup n group → IsTrue (watch_at new_g group).is_due)
    → ((group : ℕ) → ¬ IsInGroup n group → (watch_at new_g group).moment ≡ (watch_at g group).moment)
    → AreGrouped n r w g next → AreGrouped (n + 1) new_r new_w new_g 0
one_line_more n r new_r w new_w g new_g next marks watches room lowers calls stays looks others fit =
    let many : length new_w ≡ length w + 1 = ap length watches ∙ length-append w (at_once ∷ []) in
    let many_marks : length new_r ≡ length r + 1 = ap length marks ∙ length-append r (nothing ∷ []) in record {
      many_marks = omega (arith, many_marks, fit.many_marks);
      many_watches = omega (arith, many, fit.many_watches);
      many_groups = omega (arith, room);
      covered = λ group place within before. ⊎_elim
          (λ (old : place < n).
          let same : (watch_at new_w place).moment ≡ (watch_at w place).moment =
          ap (λ (xs : List Watch). (watch_at xs place).moment) watches
          ∙ ap (λ (x : Watch). x.moment)
          (get_or_append_left w (at_once ∷ []) at_once place (omega (arith, old, fit.many_watches))) in
          let was = fit.covered group place within old in
          let lower = lowers group in
          omega (arith, same, was, lower))
          (λ (last : n ≤ place).
          let here : place ≡ n = omega (arith, last, before) in
          let In : ℕ → Type 0 = λ k. IsInGroup k group in
          let zero_is = calls group (subst In here within) in
          omega (arith, zero_is))
          (cases_lt place n);
      waits = λ place before. omega arith;
      due = λ group place within before its. ⊎_elim
          (λ (old : place < n).
          let same : (watch_at new_w place).is_due ≡ (watch_at w place).is_due =
          ap (λ (xs : List Watch). (watch_at xs place).is_due) watches
          ∙ ap (λ (x : Watch). x.is_due)
          (get_or_append_left w (at_once ∷ []) at_once place (omega (arith, old, fit.many_watches))) in
          stays group (fit.due group place within old (sym same ∙ its)))
          (λ (last : n ≤ place).
          let here : place ≡ n = omega (arith, last, before) in
          let In : ℕ → Type 0 = λ k. IsInGroup k group in
          looks group (subst In here within))
          (cases_lt place n);
      wanted = λ group. group_grows n w new_w g new_g
          (λ place old. ap (λ (xs : List Watch). (watch_at xs place).moment) watches
          ∙ ap (λ (x : Watch). x.moment)
          (get_or_append_left w (at_once ∷ []) at_once place (omega (arith, old, fit.many_watches)))) looks others
          stays group (fit.wanted group);
    }

-- a line is looked at at this moment, if not before
pub line_called : (n : ℕ) (r : List Readiness) (w g new_g : List Watch) (next new_next : ℕ) (at now : ℕ)
    (was new : Watch) → at < n → was ≡ get_or w at was → new ≡ record was { moment = min was.moment now }
    → length new_g ≡ length g → new_next ≡ min next now
    → ((group : ℕ) → (watch_at new_g group).moment ≤ (watch_at g group).moment)
    → ((group : ℕ) → IsInGroup at group → (watch_at new_g group).moment ≡ min (watch_at g group).moment now)
    → ((group : ℕ) → ¬ IsInGroup at group → (watch_at new_g group).moment ≡ (watch_at g group).moment)
    → ((group : ℕ) → IsTrue (watch_at g group).is_due → IsTrue (watch_at new_g group).is_due)
    → AreGrouped n r w g next → AreGrouped n r (set w at new) new_g new_next
line_called n r w g new_g next new_next at now was new there read new_is many next_is lowers calls others stays fit =
    let same : was ≡ watch_at w at = get_or_read w at was (omega (arith, there, fit.many_watches)) read at_once in
    let old : was.moment ≡ (watch_at w at).moment = ap (λ (x : Watch). x.moment) same in
    let is : new.moment ≡ min was.moment now = ap (λ (x : Watch). x.moment) new_is in
    let waits = fit.waits at there in
    line_more n r w g new_g next new_next at new there many (omega (arith, next_is))
    (omega (arith, next_is, is, old, waits)) lowers
    (λ group within.
    let called = calls group within in
    let lower = lowers group in
    let early = fit.covered group at within there in
    omega (arith, called, lower, early, old, is))
    stays
    (λ group within its.
    let due : (watch_at w at).is_due ≡ new.is_due =
    ap (λ (x : Watch). x.is_due) (sym same) ∙ sym (ap (λ (x : Watch). x.is_due) new_is) in
    stays group (fit.due group at within there (due ∙ its)))
    (group_called n w g new_g at now was new there (omega (arith, there, fit.many_watches)) same new_is
    (λ group within. let early = fit.covered group at within there in omega (arith, early, old)) calls others stays)
    fit

-- the first of the lines of a group
pub first_of_group : (n : ℕ) (w ws : List Watch) (group first end many moment : ℕ) → ws ≡ w
    → first ≡ min (16 * group) many → end ≡ min (16 * group + 16) many → many ≡ n → length w ≡ n
    → IsFirstMoment ws first end moment → (place : ℕ) → IsInGroup place group → place < n
    → moment ≤ (watch_at w place).moment
first_of_group n w ws group first end many moment same first_is end_is many_is length_is least place within before =
    let P : List Watch → Type 0 = λ xs. moment ≤ (watch_at xs place).moment in
    let there : place < length ws = omega (arith, before, length_is, ap length same) in
    subst P same (least.least place (omega (arith, first_is, within.0))
    (omega (arith, end_is, many_is, before, within.1)) there)

-- one of the lines of a group is looked at
pub due_of_group : (n : ℕ) (w ws : List Watch) (group first end many : ℕ) (is_due : Bool) → ws ≡ w
    → first ≡ min (16 * group) many → end ≡ min (16 * group + 16) many → many ≡ n → length w ≡ n
    → (IsTrue is_due ↔ IsAnyDue ws first end) → (place : ℕ) → IsInGroup place group → place < n
    → IsTrue (watch_at w place).is_due → IsTrue is_due
due_of_group n w ws group first end many is_due same first_is end_is many_is length_is any place within before due =
    let Any : List Watch → Type 0 = λ xs. IsAnyDue xs first end in
    any.1 (subst Any (sym same) record {
      place = place;
      from = omega (arith, first_is, within.0);
      before = omega (arith, end_is, many_is, before, within.1);
      within = omega (arith, before, length_is);
      due = due;
    })

-- none of the lines of a group that isn't woken is looked at
pub none_due : (n now : ℕ) (r : List Readiness) (w g : List Watch) (next group : ℕ) (is_ready wakes : Bool)
    (was : Watch) → AreGrouped n r w g next → group < length g → was ≡ get_or g group was
    → (IsTrue wakes ↔ (IsTrue was.is_due ⊎ IsWanted is_ready was.moment now)) → ¬ IsTrue wakes
    → (place : ℕ) → IsInGroup place group → place < n → ¬ IsTrue (watch_at w place).is_due
none_due n now r w g next group is_ready wakes was fit there read wanted idle place within line = λ due.
    idle (wanted.1 (inl (ap (λ (x : Watch). x.is_due) (get_or_read g group was there read at_once)
    ∙ fit.due group place within line due)))

-- nothing is to be done with a line of a group that isn't woken
pub idle_group : (n now : ℕ) (r : List Readiness) (w g : List Watch) (next group : ℕ) (is_ready wakes : Bool)
    (was : Watch) → AreGrouped n r w g next → group < length g → was ≡ get_or g group was
    → (IsTrue is_ready ↔ IsAnyMarked r (16 * group) (16 * group + 16))
    → (IsTrue wakes ↔ (IsTrue was.is_due ⊎ IsWanted is_ready was.moment now)) → ¬ IsTrue wakes
    → (place : ℕ) → IsInGroup place group
    → HasBegun now (mark_at r place) (mark_at r place) (watch_at w place) (watch_at w place)
idle_group n now r w g next group is_ready wakes was fit there read ready wanted idle place within = ⊎_elim
    (λ (line : place < n). idle_begun now (mark_at r place) (watch_at w place)
    (λ marked. idle (wanted.1 (inr (inl (ready.1 record {
      place = place;
      from = within.0;
      before = within.1;
      marked = marked;
    })))))
    (⊎_elim (λ (later : now < (watch_at w place).moment). later)
    (λ (came : (watch_at w place).moment ≤ now).
    let old : was.moment ≡ (watch_at g group).moment =
    ap (λ (x : Watch). x.moment) (get_or_read g group was there read at_once) in
    let early = fit.covered group place within line in
    absurd (idle (wanted.1 (inr (inr (omega (arith, old, early, came)))))))
    (cases_lt now (watch_at w place).moment))
    (none_due n now r w g next group is_ready wakes was fit there read wanted idle place within line))
    (λ (past : n ≤ place). past_begun now place r w (omega (arith, past, fit.many_marks))
    (omega (arith, past, fit.many_watches)))
    (cases_lt place n)

-- a mark is another, and so is a watch, of the same moment; its group is looked at if it is
pub begun_more : (n : ℕ) (r : List Readiness) (w g new_g : List Watch) (next many : ℕ) (at : ℕ) (mark : Readiness)
    (was new : Watch) → many ≡ n → at < n → was ≡ get_or w at was → new.moment ≡ was.moment
    → length new_g ≡ length g
    → ((group : ℕ) → (watch_at new_g group).moment ≡ (watch_at g group).moment)
    → ((group : ℕ) → IsTrue (watch_at g group).is_due → IsTrue (watch_at new_g group).is_due)
    → ((group : ℕ) → IsInGroup at group → IsTrue new.is_due → IsTrue (watch_at new_g group).is_due)
    → AreGrouped n r w g next → AreGrouped many (set r at mark) (set w at new) new_g next
begun_more n r w g new_g next many at mark was new many_is there read same groups moments stays looks fit =
    let old : was.moment ≡ (watch_at w at).moment =
    ap (λ (x : Watch). x.moment) (get_or_read w at was (omega (arith, there, fit.many_watches)) read at_once) in
    let waits = fit.waits at there in
    let As : ℕ → Type 0 = λ k. AreGrouped k (set r at mark) (set w at new) new_g next in
    subst As (sym many_is) (line_more n (set r at mark) w g new_g next next at new there groups (omega arith)
    (omega (arith, same, old, waits))
    (λ group. let moment = moments group in omega (arith, moment))
    (λ group within.
    let moment = moments group in
    let early = fit.covered group at within there in
    omega (arith, moment, early, same, old))
    stays looks
    (group_stays n w g new_g at was new (omega (arith, there, fit.many_watches))
    (get_or_read w at was (omega (arith, there, fit.many_watches)) read at_once) same moments stays)
    (other_marks n r (set r at mark) w g next (length-set r at mark) fit))
