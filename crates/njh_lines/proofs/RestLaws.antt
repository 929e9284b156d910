-- What a round leaves of lines, one after the other.
use Rattle.std.proofs.Common.{◌≡◌, ◌≢◌, ℕ, ◌+◌, ◌*◌, ◌<◌, ◌≤◌, ◌⊎◌, List, length, set, get_or, min, Some, refl, sym, ap}
use Rattle.std.proofs.Common.{subst, ◌∙◌, arith, ⊎_elim, inl, inr}
use Rattle.std.specs.Prelude.{false, slice_get, IsTrue}
use Rattle.std.proofs.lemmas.Bool.{cases_lt, false≢true}
use Rattle.std.proofs.lemmas.List.{get_or-set_same}
use Rattle.njh_hub.specs.WholeHub.{Part}
use Rattle.njh_wire.specs.Standing.{Standing}
use Rattle.njh_lines.specs.Attention.{watch_at}
use Rattle.njh_lines.specs.Resting.{AreWoken, HasEnded, HasRested, HaveRested, IsNextLook, IsSameAt}
use Rattle.njh_lines.specs.Watching.{Noted, Watched}
use Rattle.njh_lines.specs.declared.attention.Watch.{Watch}
use Rattle.njh_lines.proofs.CallLaws.{as_woken}

-- nothing changed
pub same_here : (place : ℕ) (seen : Watched) → IsSameAt place seen seen
same_here place seen = record { noted = refl; watch = refl; refusals = refl }

same_then : (place : ℕ) (a b c : Watched) → IsSameAt place a b → IsSameAt place b c → IsSameAt place a c
same_then place a b c first then = record {
  noted = then.noted ∙ first.noted;
  watch = then.watch ∙ first.watch;
  refusals = then.refusals ∙ first.refusals;
}

-- a line rests, and then its watch, what is noted of it, the time and its wire stay
rested_as : {C : Type 0} (mid new : Watched) (place : ℕ) (wire : Standing C) (watch new_watch : Watch)
    → new.now ≡ mid.now → slice_get new.noted place ≡ slice_get mid.noted place → new_watch ≡ watch
    → HasRested mid place wire watch → HasRested new place wire new_watch
rested_as mid new place wire watch new_watch time noted same rested = record {
  asks = λ own found.
      let At : ℕ → ℕ → Type 0 = λ now moment. IsNextLook wire own now moment in
      let there : slice_get mid.noted place ≡ Some own = sym noted ∙ found in
      subst (At new.now) (ap (λ (x : Watch). x.moment) (sym same))
      (subst (λ (n : ℕ). At n watch.moment) (sym time) (rested.asks own there));
  rests = λ due. rested.rests (ap (λ (x : Watch). x.is_due) (sym same) ∙ due);
}

-- as `end` leaves a line
pub rested_so : {C : Type 0} (mid new : Watched) (place now moment : ℕ) (wire : Standing C) (watch : Watch)
    → new.now ≡ now → new.noted ≡ mid.noted → watch ≡ record { moment = moment; is_due = false }
    → ((own : Noted) → slice_get mid.noted place ≡ Some own → IsNextLook wire own now moment)
    → HasRested new place wire watch
rested_so mid new place now moment wire watch time noted is asks = record {
  asks = λ own found.
      let At : ℕ → ℕ → Type 0 = λ time moment. IsNextLook wire own time moment in
      let there : slice_get mid.noted place ≡ Some own =
      ap (λ (xs : List Noted). slice_get xs place) (sym noted) ∙ found in
      subst (At new.now) (ap (λ (x : Watch). x.moment) (sym is))
      (subst (λ (n : ℕ). At n moment) (sym time) (asks own there));
  rests = λ due. false≢true (sym (ap (λ (x : Watch). x.is_due) is) ∙ due);
}

pub none_rested : {C : Type 0} (first : ℕ) (seen : Watched) (wires : List (Standing C))
    → HaveRested first first seen seen wires
none_rested first seen wires = record {
  each = λ p d from before there line due. let none : ⊥ = omega (arith, from, before) in absurd none;
  idle = λ p from before idle. same_here p seen;
  others = λ p other. same_here p seen;
}

-- none of these lines is looked at
pub idle_rested : {C : Type 0} (first end : ℕ) (seen : Watched) (wires : List (Standing C))
    → ((place : ℕ) → first ≤ place → place < end → place < length seen.lines
    → ¬ IsTrue (watch_at seen.watches place).is_due)
    → HaveRested first end seen seen wires
idle_rested first end seen wires idle = record {
  each = λ p d from before there line due. absurd (idle p from before line due);
  idle = λ p from before none. same_here p seen;
  others = λ p other. same_here p seen;
}

-- some lines, and then more
pub rested_after : {C : Type 0} (a b e : ℕ) (old mid new : Watched) (y z : List (Standing C)) → a ≤ b → b ≤ e
    → length mid.lines ≡ length old.lines → new.now ≡ mid.now → length z ≡ length y
    → ((place : ℕ) (d : Standing C) → place < b → get_or z place d ≡ get_or y place d)
    → HaveRested a b old mid y → HaveRested b e mid new z → HaveRested a e old new z
rested_after {C} a b e old mid new y z ab be lines time long same first then = record {
  each = λ p d from before there line due. ⊎_elim
      (λ (earlier : p < b).
      let stays = then.others p (inl earlier) in
      let Of : Standing C → Type 0 = λ wire. HasRested new p wire (watch_at new.watches p) in
      subst Of (sym (same p d earlier)) (rested_as mid new p (get_or y p d) (watch_at mid.watches p)
      (watch_at new.watches p) time stays.noted stays.watch
      (first.each p d from earlier (omega (arith, there, long)) line due)))
      (λ (later : b ≤ p). then.each p d later before there (omega (arith, line, lines))
      (ap (λ (x : Watch). x.is_due) (first.others p (inr later)).watch ∙ due))
      (cases_lt p b);
  idle = λ p from before none. ⊎_elim
      (λ (earlier : p < b).
      same_then p old mid new (first.idle p from earlier none) (then.others p (inl earlier)))
      (λ (later : b ≤ p).
      let stays = first.others p (inr later) in
      same_then p old mid new stays (then.idle p later before
      (λ due. none (sym (ap (λ (x : Watch). x.is_due) stays.watch) ∙ due))))
      (cases_lt p b);
  others = λ p other. ⊎_elim
      (λ (less : p < a). same_then p old mid new (first.others p (inl less))
      (then.others p (inl (omega (arith, less, ab)))))
      (λ (more : e ≤ p). same_then p old mid new (first.others p (inr (omega (arith, more, be))))
      (then.others p (inr more)))
      other;
}

-- one line
pub one_rested : {C : Type 0} (place : ℕ) (mid new : Watched) (wires : List (Standing C)) (wire : Standing C)
    → place < length wires
    → (IsTrue (watch_at mid.watches place).is_due → place < length mid.lines
    → HasRested new place wire (watch_at new.watches place))
    → (¬ IsTrue (watch_at mid.watches place).is_due → IsSameAt place mid new)
    → ((other : ℕ) → other ≢ place → IsSameAt other mid new)
    → HaveRested place (place + 1) mid new (set wires place wire)
one_rested {C} place mid new wires wire there rests idle others = record {
  each = λ p d from before within line due.
      let here : place ≡ p = omega (arith, from, before) in
      let Of : ℕ → Type 0 = λ k. IsTrue (watch_at mid.watches k).is_due → k < length mid.lines
      → HasRested new k (get_or (set wires place wire) k d) (watch_at new.watches k) in
      let To : Standing C → Type 0 = λ its. HasRested new place its (watch_at new.watches place) in
      subst Of here (λ looked its. subst To (sym (get_or-set_same wires place wire d there)) (rests looked its)) due
      line;
  idle = λ p from before none.
      let here : place ≡ p = omega (arith, from, before) in
      let Of : ℕ → Type 0 = λ k. ¬ IsTrue (watch_at mid.watches k).is_due → IsSameAt k mid new in
      subst Of here idle none;
  others = λ p other. others p (λ same. is_other p place other same);
} where
  is_other : (p place : ℕ) → (p < place) ⊎ (place + 1 ≤ p) → p ≡ place → ⊥
  is_other p place (inl less) same = omega (arith, less, same)
  is_other p place (inr more) same = omega (arith, more, same)

-- the places of a group that have wires
pub group_rested : {C : Type 0} (group first end : ℕ) (old mid new : Watched) (wires : List (Standing C)) → new ≡ mid
    → first ≡ min (16 * group) (length wires) → end ≡ min (16 * group + 16) (length wires)
    → HaveRested first end old mid wires → HaveRested (16 * group) (16 * group + 16) old new wires
group_rested group first end old mid new wires same first_is end_is rested =
    let Of : Watched → Type 0 = λ seen. HaveRested (16 * group) (16 * group + 16) old seen wires in
    subst Of (sym same) record {
      each = λ p d from before there line due. rested.each p d (omega (arith, first_is, from))
          (omega (arith, end_is, before, there)) there line due;
      idle = λ p from before none. ⊎_elim
          (λ (within : p < length wires). rested.idle p (omega (arith, first_is, from))
          (omega (arith, end_is, before, within)) none)
          (λ (past : length wires ≤ p). rested.others p (inr (omega (arith, end_is, past))))
          (cases_lt p (length wires));
      others = λ p other. ⊎_elim
          (λ (within : p < length wires). rested.others p (⊎_elim
          (λ (less : p < 16 * group). inl (omega (arith, first_is, less, within)))
          (λ (more : 16 * group + 16 ≤ p). inr (omega (arith, end_is, more)))
          other))
          (λ (past : length wires ≤ p). rested.others p (inr (omega (arith, end_is, past))))
          (cases_lt p (length wires));
    }

-- and then those are woken that are to be
pub ended_so : {C : Type 0} (end place : ℕ) (d : Standing C) (old mid new : Watched) (parts : List Part)
    (wires : List (Standing C)) → HaveRested 0 end old mid wires → place < end → place < length wires
    → place < length old.lines → new.lines ≡ mid.lines → new.noted ≡ mid.noted → new.now ≡ mid.now
    → AreWoken mid parts new.watches → HasEnded old new parts place (get_or wires place d)
ended_so end place d old mid new parts wires rested before there line lines noted time woken = record {
  watch = watch_at mid.watches place;
  looked = λ due. rested_as mid new place (get_or wires place d) (watch_at mid.watches place)
      (watch_at mid.watches place) time (ap (λ (xs : List Noted). slice_get xs place) noted) refl
      (rested.each place d (omega arith) before there line due);
  idle = λ none. (rested.idle place (omega arith) before none).watch;
  woken = as_woken mid new parts place lines noted time (woken place);
}
