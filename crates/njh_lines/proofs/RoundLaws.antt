-- What a round looks at, line by line.
use Rattle.std.proofs.Common.{◌≡◌, ℕ, ◌+◌, ◌<◌, ◌≤◌, ◌⊎◌, ◌↔◌, List, length, set, get_or, refl, sym, subst, ◌∙◌}
use Rattle.std.proofs.Common.{arith, ⊎_elim, inl, inr}
use Rattle.std.specs.Prelude.{IsTrue}
use Rattle.std.proofs.lemmas.Bool.{cases_lt, false≢true}
use Rattle.std.proofs.lemmas.List.{get_or-set_same, get_or-set_other, get_or_read, get_or_past}
use Rattle.njh_wire.specs.declared.network.Readiness.{Readiness}
use Rattle.njh_lines.specs.declared.attention.Watch.{Watch}
use Rattle.njh_lines.specs.Attention.{at_once, mark_at, nothing, watch_at, IsDue, IsMarked}
use Rattle.njh_lines.specs.Watching.{HasBegun, HaveBegun}

-- of no line anything changed
pub none_begun : (now first : ℕ) (ready : List Readiness) (watches : List Watch)
    → HaveBegun now first first ready ready watches watches
none_begun now first ready watches = record {
  each = λ p from before. let none : ⊥ = omega (arith, from, before) in absurd none;
  same_mark = λ p other. refl;
  same_watch = λ p other. refl;
}

-- lines that have their marks and watches, one after the other
pub begun_after : (now a b e : ℕ) (r r1 r2 : List Readiness) (w w1 w2 : List Watch) → a ≤ b → b ≤ e
    → HaveBegun now a b r r1 w w1 → HaveBegun now b e r1 r2 w1 w2 → HaveBegun now a e r r2 w w2
begun_after now a b e r r1 r2 w w1 w2 ab be first then = record {
  each = λ p from before. ⊎_elim
      (λ (earlier : p < b).
      let Of : Readiness → Type 0 = λ mark. HasBegun now (mark_at r p) mark (watch_at w p) (watch_at w2 p) in
      let On : Watch → Type 0 = λ watch. HasBegun now (mark_at r p) (mark_at r1 p) (watch_at w p) watch in
      subst Of (sym (then.same_mark p (inl earlier)))
      (subst On (sym (then.same_watch p (inl earlier))) (first.each p from earlier)))
      (λ (later : b ≤ p).
      let Of : Readiness → Type 0 = λ mark. HasBegun now mark (mark_at r2 p) (watch_at w p) (watch_at w2 p) in
      let On : Watch → Type 0 = λ watch. HasBegun now (mark_at r1 p) (mark_at r2 p) watch (watch_at w2 p) in
      subst Of (first.same_mark p (inr later))
      (subst On (first.same_watch p (inr later)) (then.each p later before)))
      (cases_lt p b);
  same_mark = λ p other. ⊎_elim
      (λ (less : p < a). then.same_mark p (inl (omega (arith, less, ab))) ∙ first.same_mark p (inl less))
      (λ (more : e ≤ p). then.same_mark p (inr more) ∙ first.same_mark p (inr (omega (arith, more, be))))
      other;
  same_watch = λ p other. ⊎_elim
      (λ (less : p < a). then.same_watch p (inl (omega (arith, less, ab))) ∙ first.same_watch p (inl less))
      (λ (more : e ≤ p). then.same_watch p (inr more) ∙ first.same_watch p (inr (omega (arith, more, be))))
      other;
}

-- one line
pub one_begun : (now place : ℕ) (r : List Readiness) (w : List Watch) (mark new_mark : Readiness)
    (watch new_watch : Watch) → place < length r → place < length w → mark ≡ get_or r place mark
    → watch ≡ get_or w place watch → (IsTrue new_watch.is_due ↔ IsDue mark watch.moment now)
    → new_watch.moment ≡ watch.moment → ¬ IsMarked new_mark
    → HaveBegun now place (place + 1) r (set r place new_mark) w (set w place new_watch)
one_begun now place r w mark new_mark watch new_watch in_r in_w mark_is watch_is due moment unmarked = record {
  each = λ p from before.
      let here : place ≡ p = omega (arith, from, before) in
      let P : ℕ → Type 0 = λ n. HasBegun now (mark_at r n) (mark_at (set r place new_mark) n) (watch_at w n)
      (watch_at (set w place new_watch) n) in
      let was : mark ≡ mark_at r place = get_or_read r place mark in_r mark_is nothing in
      let is : watch ≡ watch_at w place = get_or_read w place watch in_w watch_is at_once in
      let Of : Readiness → Readiness → Type 0 =
      λ a b. HasBegun now a b (watch_at w place) (watch_at (set w place new_watch) place) in
      let On : Watch → Watch → Type 0 = λ a b. HasBegun now mark new_mark a b in
      let done : HasBegun now mark new_mark watch new_watch = record {
        due = due.1;
        only = due.0;
        unmarked = unmarked;
        moment = moment;
      } in
      let seen : HasBegun now mark new_mark (watch_at w place) (watch_at (set w place new_watch) place) =
      subst (λ (a : Watch). On a (watch_at (set w place new_watch) place)) is
      (subst (λ (b : Watch). On watch b) (sym (get_or-set_same w place new_watch at_once in_w)) done) in
      subst P here
      (subst (λ (a : Readiness). Of a (mark_at (set r place new_mark) place)) was
      (subst (λ (b : Readiness). Of mark b) (sym (get_or-set_same r place new_mark nothing in_r)) seen));
  same_mark = λ p other. get_or-set_other r place p new_mark nothing (λ same. is_other p place other same);
  same_watch = λ p other. get_or-set_other w place p new_watch at_once (λ same. is_other p place other same);
} where
  is_other : (p place : ℕ) → (p < place) ⊎ (place + 1 ≤ p) → p ≡ place → ⊥
  is_other p place (inl less) same = omega (arith, less, same)
  is_other p place (inr more) same = omega (arith, more, same)

-- a line of the marks and the watches is due
pub due_there : (now place : ℕ) (r : List Readiness) (w : List Watch) (mark : Readiness) (watch : Watch)
    → place < length r → place < length w → mark ≡ get_or r place mark → watch ≡ get_or w place watch
    → IsDue (mark_at r place) (watch_at w place).moment now → IsDue mark watch.moment now
due_there now place r w mark watch in_r in_w mark_is watch_is due =
    let was : mark ≡ mark_at r place = get_or_read r place mark in_r mark_is nothing in
    let is : watch ≡ watch_at w place = get_or_read w place watch in_w watch_is at_once in
    subst (λ (m : Readiness). IsDue m watch.moment now) (sym was)
    (subst (λ (x : Watch). IsDue (mark_at r place) x.moment now) (sym is) due)

-- no line is at this place
pub past_begun : (now place : ℕ) (r : List Readiness) (w : List Watch) → length r ≤ place → length w ≤ place
    → HasBegun now (mark_at r place) (mark_at r place) (watch_at w place) (watch_at w place)
past_begun now place r w past_r past_w =
    let Of : Readiness → Type 0 = λ mark. HasBegun now mark mark (watch_at w place) (watch_at w place) in
    let On : Watch → Type 0 = λ watch. HasBegun now nothing nothing watch watch in
    subst Of (sym (get_or_past r place nothing past_r))
    (subst On (sym (get_or_past w place at_once past_w)) record {
      due = λ due. refl;
      only = λ looked. inr (omega arith);
      unmarked = λ marked. is_unmarked marked;
      moment = refl;
    }) where
      is_unmarked : IsMarked nothing → ⊥
      is_unmarked marked = ⊎_elim false≢true (⊎_elim false≢true false≢true) marked

-- a line of which nothing is ready, whose moment is to come, and that isn't looked at from before
pub idle_begun : (now : ℕ) (mark : Readiness) (watch : Watch) → ¬ IsMarked mark → now < watch.moment
    → ¬ IsTrue watch.is_due → HasBegun now mark mark watch watch
idle_begun now mark watch unmarked later waits = record {
  due = λ due. absurd (⊎_elim unmarked (λ (came : watch.moment ≤ now).
      let none : ⊥ = omega (arith, later, came) in none) due);
  only = λ looked. absurd (waits looked);
  unmarked = unmarked;
  moment = refl;
}

-- and of none from this place on
pub past_line : (now place : ℕ) (r : List Readiness) (w : List Watch) → length r ≤ place → length w ≤ place
    → HaveBegun now place (place + 1) r r w w
past_line now place r w past_r past_w = record {
  each = λ p from before. past_begun now p r w (omega (arith, past_r, from)) (omega (arith, past_w, from));
  same_mark = λ p other. refl;
  same_watch = λ p other. refl;
}
