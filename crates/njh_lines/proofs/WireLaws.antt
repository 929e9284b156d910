-- What a round does with the wires of the lines that it looks at, one after the other.
use Rattle.std.proofs.Common.{◌≡◌, ℕ, ◌+◌, ◌*◌, ◌<◌, ◌≤◌, ◌⊎◌, List, [], length, set, get_or, refl, sym, ap}
use Rattle.std.proofs.Common.{subst, ◌∙◌, arith, ⊎_elim, inl, inr, min, Option, Some, IsSome}
use Rattle.std.specs.Prelude.{IsTrue, slice_get}
use Rattle.std.proofs.lemmas.Bool.{cases_lt}
use Rattle.std.proofs.lemmas.Option.{slice_get_within}
use Rattle.std.proofs.lemmas.List.{get_or-set_same, get_or-set_other, get_or_read, get_or_past}
use Rattle.njh_request.specs.declared.request.LineState.TheVariants.{Stopped}
use Rattle.njh_wire.specs.Standing.{Standing}
use Rattle.njh_lines.specs.declared.attention.Watch.{Watch}
use Rattle.njh_lines.specs.Attention.{watch_at}
use Rattle.njh_lines.specs.Connecting.{IsConnected}
use Rattle.njh_hub.specs.WholeHub.{Part}
use Rattle.njh_lines.specs.Watching.{ServedLine, Watched}
use Rattle.njh_lines.specs.Wires.{AreHeld, AreMadeSo, IsDone, IsJudged, IsLeft}

-- ---- as it begins

pub none_held : {C : Type 0} (first : ℕ) (lines : List ServedLine) (watches : List Watch) (wires : List (Standing C))
    → AreHeld first first lines watches wires wires
none_held first lines watches wires = record {
  each = λ p d line from before there found stopped due. let none : ⊥ = omega (arith, from, before) in absurd none;
  same = λ p d other. refl;
}

-- some lines, and then more: what a watch of the first said stays
pub held_after : {C : Type 0} (a b e : ℕ) (lines new_lines : List ServedLine) (w new_w : List Watch)
    (x y z : List (Standing C)) → a ≤ b → b ≤ e → new_lines ≡ lines → length y ≡ length x
    → ((place : ℕ) → place < b → watch_at new_w place ≡ watch_at w place)
    → AreHeld a b lines w x y → AreHeld b e new_lines new_w y z → AreHeld a e lines new_w x z
held_after {C} a b e lines new_lines w new_w x y z ab be same_lines long same_watch first then = record {
  each = λ p d line from before there found stopped due. ⊎_elim
      (λ (earlier : p < b).
      let Free : Standing C → Type 0 = λ wire. ¬ IsConnected wire in
      subst Free (sym (then.same p d (inl earlier)))
      (first.each p d line from earlier there found stopped
      (sym (ap (λ (watch : Watch). watch.is_due) (same_watch p earlier)) ∙ due)))
      (λ (later : b ≤ p). then.each p d line later before (omega (arith, there, long))
      (ap (λ (ls : List ServedLine). slice_get ls p) same_lines ∙ found) stopped due)
      (cases_lt p b);
  same = λ p d other. ⊎_elim
      (λ (less : p < a). then.same p d (inl (omega (arith, less, ab))) ∙ first.same p d (inl less))
      (λ (more : e ≤ p). then.same p d (inr more) ∙ first.same p d (inr (omega (arith, more, be))))
      other;
}

-- one line
pub one_held : {C : Type 0} (place : ℕ) (lines : List ServedLine) (w : List Watch) (wires : List (Standing C))
    (new : Standing C) → place < length wires
    → ((line : ServedLine) → slice_get lines place ≡ Some line → line.state ≡ Stopped
    → IsTrue (watch_at w place).is_due → ¬ IsConnected new)
    → AreHeld place (place + 1) lines w wires (set wires place new)
one_held {C} place lines w wires new there held = record {
  each = λ p d line from before within found stopped due.
      let here : place ≡ p = omega (arith, from, before) in
      let Of : ℕ → Type 0 = λ k. slice_get lines k ≡ Some line → IsTrue (watch_at w k).is_due
      → ¬ IsConnected (get_or (set wires place new) k d) in
      let Free : Standing C → Type 0 = λ wire. ¬ IsConnected wire in
      subst Of here (λ at looked. subst Free (sym (get_or-set_same wires place new d there))
      (held line at stopped looked)) found due;
  same = λ p d other. get_or-set_other wires place p new d (λ same. is_other p place other same);
} where
  is_other : (p place : ℕ) → (p < place) ⊎ (place + 1 ≤ p) → p ≡ place → ⊥
  is_other p place (inl less) same = omega (arith, less, same)
  is_other p place (inr more) same = omega (arith, more, same)

-- the places of a group that have wires
pub group_held : {C : Type 0} (group first end : ℕ) (lines : List ServedLine) (w : List Watch)
    (x y : List (Standing C)) → first ≡ min (16 * group) (length x) → end ≡ min (16 * group + 16) (length x)
    → length y ≡ length x → AreHeld first end lines w x y → AreHeld (16 * group) (16 * group + 16) lines w x y
group_held group first end lines w x y first_is end_is long held = record {
  each = λ p d line from before there found stopped due. held.each p d line (omega (arith, first_is, from))
      (omega (arith, end_is, before, there)) there found stopped due;
  same = λ p d other. ⊎_elim
      (λ (within : p < length x). held.same p d (⊎_elim
      (λ (less : p < 16 * group). inl (omega (arith, first_is, less, within)))
      (λ (more : 16 * group + 16 ≤ p). inr (omega (arith, end_is, more)))
      other))
      (λ (past : length x ≤ p). get_or_past y p d (omega (arith, past, long)) ∙ sym (get_or_past x p d past))
      (cases_lt p (length x));
}

-- of a group of which no line is looked at
pub idle_held : {C : Type 0} (first end : ℕ) (lines : List ServedLine) (w : List Watch) (wires : List (Standing C))
    → ((place : ℕ) → first ≤ place → place < end → place < length lines → ¬ IsTrue (watch_at w place).is_due)
    → AreHeld first end lines w wires wires
idle_held first end lines w wires idle = record {
  each = λ p d line from before there found stopped due.
      absurd (idle p from before (slice_get_within lines p line found) due);
  same = λ p d other. refl;
}

-- and those of all groups
pub all_held : {C : Type 0} (end : ℕ) (lines : List ServedLine) (w : List Watch) (x y : List (Standing C))
    → length lines ≤ end → length y ≡ length x → AreHeld 0 end lines w x y → AreHeld 0 (length x) lines w x y
all_held end lines w x y within long held = record {
  each = λ p d line from before there found stopped due.
      let line_there = slice_get_within lines p line found in
      held.each p d line from (omega (arith, line_there, within)) there found stopped due;
  same = λ p d other. ⊎_elim
      (λ (less : p < 0). let none : ⊥ = omega (arith, less) in absurd none)
      (λ (past : length x ≤ p). get_or_past y p d (omega (arith, past, long)) ∙ sym (get_or_past x p d past))
      other;
}

-- ---- as it ends

pub left_same : {C : Type 0} (s : Standing C) → IsLeft s s
left_same s = record { waits = λ connected. (refl, (refl, refl)); drops = inl refl }

-- one thing that it asks for, and then another
pub left_then : {C : Type 0} (a b c : Standing C) → IsLeft a b → IsLeft b c → IsLeft a c
left_then {C} a b c first then = record {
  waits = λ connected.
      let There : Option C → Type 0 = λ it. IsSome it in
      let still = then.waits connected in
      let ends = still.1 in
      let middle : IsConnected b = ⊎_elim (λ (it : IsSome c.connection). inl (subst There ends.0 it))
      (λ (it : IsSome c.next). inr (subst There ends.1 it)) connected in
      let before = first.waits middle in
      let starts = before.1 in
      (still.0 ∙ before.0, (ends.0 ∙ starts.0, ends.1 ∙ starts.1));
  drops = ⊎_elim
      (λ (same : c.waiting ≡ b.waiting). ⊎_elim (λ (was : b.waiting ≡ a.waiting). inl (same ∙ was))
      (λ (none : b.waiting ≡ []). inr (same ∙ none)) first.drops)
      (λ (none : c.waiting ≡ []). inr none) then.drops;
}

pub none_made : {C : Type 0} (made : ℕ → Standing C → Standing C → Type 0) (lines first : ℕ) (watches : List Watch)
    (wires : List (Standing C)) → AreMadeSo made lines first first watches wires wires
none_made made lines first watches wires = record {
  each = λ p d from before there line due. let none : ⊥ = omega (arith, from, before) in absurd none;
  same = λ p d other. refl;
}

-- none of these lines is looked at
pub idle_made : {C : Type 0} (made : ℕ → Standing C → Standing C → Type 0) (lines first end : ℕ) (watches : List Watch)
    (wires : List (Standing C))
    → ((place : ℕ) → first ≤ place → place < end → place < lines → ¬ IsTrue (watch_at watches place).is_due)
    → AreMadeSo made lines first end watches wires wires
idle_made made lines first end watches wires idle = record {
  each = λ p d from before there line due. absurd (idle p from before line due);
  same = λ p d other. refl;
}

-- some lines, and then more, whose watches stayed, and of which is made what is said of them from then on
pub made_after : {C : Type 0} (made then_made : ℕ → Standing C → Standing C → Type 0) (lines a b e : ℕ)
    (w new_w : List Watch) (x y z : List (Standing C)) → a ≤ b → b ≤ e → length y ≡ length x
    → ((place : ℕ) → b ≤ place → watch_at new_w place ≡ watch_at w place)
    → ((place : ℕ) (s new : Standing C) → b ≤ place → then_made place s new → made place s new)
    → AreMadeSo made lines a b w x y → AreMadeSo then_made lines b e new_w y z → AreMadeSo made lines a e w x z
made_after {C} made then_made lines a b e w new_w x y z ab be long same_watch weaker first then = record {
  each = λ p d from before there line due. ⊎_elim
      (λ (earlier : p < b).
      let To : Standing C → Type 0 = λ wire. made p (get_or x p d) wire in
      subst To (sym (then.same p d (inl earlier))) (first.each p d from earlier there line due))
      (λ (later : b ≤ p).
      let From : Standing C → Type 0 = λ wire. made p wire (get_or z p d) in
      subst From (first.same p d (inr later)) (weaker p (get_or y p d) (get_or z p d) later
      (then.each p d later before (omega (arith, there, long)) line
      (ap (λ (watch : Watch). watch.is_due) (same_watch p later) ∙ due))))
      (cases_lt p b);
  same = λ p d other. ⊎_elim
      (λ (less : p < a). then.same p d (inl (omega (arith, less, ab))) ∙ first.same p d (inl less))
      (λ (more : e ≤ p). then.same p d (inr more) ∙ first.same p d (inr (omega (arith, more, be))))
      other;
}

-- one line
pub one_made : {C : Type 0} (made : ℕ → Standing C → Standing C → Type 0) (lines place : ℕ) (w : List Watch)
    (wires : List (Standing C)) (was new : Standing C) → place < length wires → was ≡ get_or wires place was
    → (IsTrue (watch_at w place).is_due → made place was new)
    → AreMadeSo made lines place (place + 1) w wires (set wires place new)
one_made {C} made lines place w wires was new there read out = record {
  each = λ p d from before within line due.
      let here : place ≡ p = omega (arith, from, before) in
      let Of : ℕ → Type 0 = λ k. IsTrue (watch_at w k).is_due
      → made k (get_or wires k d) (get_or (set wires place new) k d) in
      let From : Standing C → Type 0 = λ wire. made place wire (get_or (set wires place new) place d) in
      let To : Standing C → Type 0 = λ wire. made place was wire in
      subst Of here (λ looked. subst From (get_or_read wires place was there read d)
      (subst To (sym (get_or-set_same wires place new d there)) (out looked))) due;
  same = λ p d other. get_or-set_other wires place p new d (λ same. is_other p place other same);
} where
  is_other : (p place : ℕ) → (p < place) ⊎ (place + 1 ≤ p) → p ≡ place → ⊥
  is_other p place (inl less) same = omega (arith, less, same)
  is_other p place (inr more) same = omega (arith, more, same)

-- the places of a group that have wires
pub group_made : {C : Type 0} (made : ℕ → Standing C → Standing C → Type 0) (lines group first end : ℕ)
    (w : List Watch) (x y : List (Standing C)) → first ≡ min (16 * group) (length x)
    → end ≡ min (16 * group + 16) (length x) → length y ≡ length x → AreMadeSo made lines first end w x y
    → AreMadeSo made lines (16 * group) (16 * group + 16) w x y
group_made made lines group first end w x y first_is end_is long out = record {
  each = λ p d from before there line due. out.each p d (omega (arith, first_is, from))
      (omega (arith, end_is, before, there)) there line due;
  same = λ p d other. ⊎_elim
      (λ (within : p < length x). out.same p d (⊎_elim
      (λ (less : p < 16 * group). inl (omega (arith, first_is, less, within)))
      (λ (more : 16 * group + 16 ≤ p). inr (omega (arith, end_is, more)))
      other))
      (λ (past : length x ≤ p). get_or_past y p d (omega (arith, past, long)) ∙ sym (get_or_past x p d past))
      (cases_lt p (length x));
}

-- and those of all groups
pub all_made : {C : Type 0} (made : ℕ → Standing C → Standing C → Type 0) (lines end : ℕ) (w : List Watch)
    (x y : List (Standing C)) → lines ≤ end → length y ≡ length x → AreMadeSo made lines 0 end w x y
    → AreMadeSo made lines 0 (length x) w x y
all_made made lines end w x y within long out = record {
  each = λ p d from before there line due. out.each p d from (omega (arith, line, within)) there line due;
  same = λ p d other. ⊎_elim
      (λ (less : p < 0). let none : ⊥ = omega (arith, less) in absurd none)
      (λ (past : length x ≤ p). get_or_past y p d (omega (arith, past, long)) ∙ sym (get_or_past x p d past))
      other;
}

-- what its session makes of a wire is the same while the line and what was seen of it stay
judged_as : {C : Type 0} (old mid : Watched) (parts : List Part) (place : ℕ) (new : Standing C) → mid.lines ≡ old.lines
    → slice_get mid.refusals place ≡ slice_get old.refusals place → IsJudged mid parts place new
    → IsJudged old parts place new
judged_as old mid parts place new lines refusals judged = record {
  refused = λ line seen found known. judged.refused line seen
      (ap (λ (ls : List ServedLine). slice_get ls place) lines ∙ found) (refusals ∙ known);
  up = λ line found. judged.up line (ap (λ (ls : List ServedLine). slice_get ls place) lines ∙ found);
}

pub done_as : {C : Type 0} (moved : C → C → List ℕ → List ℕ → Type 0) (old mid : Watched) (parts : List Part)
    (place : ℕ) (s new : Standing C) → mid.lines ≡ old.lines
    → slice_get mid.refusals place ≡ slice_get old.refusals place → IsDone moved mid parts place s new
    → IsDone moved old parts place s new
done_as moved old mid parts place s new lines refusals done = record {
  out = done.out;
  judged = judged_as old mid parts place new lines refusals done.judged;
}
