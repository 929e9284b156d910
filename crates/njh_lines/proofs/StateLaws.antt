-- Lines of which one is served otherwise, and all of them one after the other.
use Rattle.std.proofs.Common.{◌≡◌, ◌≢◌, ℕ, ◌+◌, ◌<◌, ◌≤◌, List, length, map, set, get_or, Some, sym, ap, ◌∙◌, subst}
use Rattle.std.proofs.Common.{arith, ⊎_elim, refl}
use Rattle.std.specs.Prelude.{Bool, true, false, ◌||◌, None, slice_get}
use Rattle.std.specs.Option.{option_map}
use Rattle.std.proofs.lemmas.Bool.{cases_eq, cases_lt, false≢true}
use Rattle.std.proofs.lemmas.List.{get_or-set_same, get_or-set_other, length-map, length-set}
use Rattle.std.proofs.lemmas.Option.{slice_get-get_or, slice_get-map, slice_get_past}
use Rattle.njh_lines.specs.LineStates.{is_draining, AreMade, IsMadeAt, NoneDrains}
use Rattle.njh_request.specs.declared.request.LineState.{LineState}
use Rattle.njh_lines.specs.Watching.{ServedLine}

set_at : {X : Type 0} (xs : List X) (k : ℕ) (x : X) → k < length xs → slice_get (set xs k x) k ≡ Some x
set_at xs k x there =
    slice_get-get_or (set xs k x) k x (omega (arith, there, length-set xs k x))
    ∙ ap Some (get_or-set_same xs k x x there)

pub set_other : {X : Type 0} (xs : List X) (k other : ℕ) (x : X) → other ≢ k
    → slice_get (set xs k x) other ≡ slice_get xs other
set_other {X} xs k other x apart = ⊎_elim
    (λ (there : other < length xs).
    slice_get-get_or (set xs k x) other x (omega (arith, there, length-set xs k x))
    ∙ (ap (λ (y : X). Some y) (get_or-set_other xs k other x x apart) ∙ sym (slice_get-get_or xs other x there)))
    (λ (past : length xs ≤ other).
    slice_get_past (set xs k x) other (omega (arith, past, length-set xs k x)) ∙ sym (slice_get_past xs other past))
    (cases_lt other (length xs))

-- the line at a place is that of the post there
pub line_at : {P : Type 0} (line_of : P → ServedLine) (posts : List P) (lines : List ServedLine) (place : ℕ)
    (post : P) → map line_of posts ≡ lines → place < length posts → post ≡ get_or posts place post
    → slice_get lines place ≡ Some (line_of post)
line_at line_of posts lines place post seen there read =
    let at : slice_get posts place ≡ Some post = slice_get-get_or posts place post there ∙ ap Some (sym read) in
    ap (λ (ls : List ServedLine). slice_get ls place) (sym seen)
    ∙ (slice_get-map line_of posts place ∙ ap (option_map line_of) at)

-- the post at a place changed, and its line by that
pub line_made : {P : Type 0} (line_of : P → ServedLine) (posts : List P) (lines : List ServedLine) (place : ℕ)
    (was new : P) (made : ServedLine → ServedLine) → map line_of posts ≡ lines → place < length posts
    → was ≡ get_or posts place was → line_of new ≡ made (line_of was)
    → IsMadeAt place made lines (map line_of (set posts place new))
line_made {P} line_of posts lines place was new made seen there read is =
    let old = line_at line_of posts lines place was seen there read in record {
      own = slice_get-map line_of (set posts place new) place
          ∙ (ap (option_map line_of) (set_at posts place new there)
          ∙ (ap Some is ∙ sym (ap (option_map made) old)));
      others = λ other apart. slice_get-map line_of (set posts place new) other
          ∙ (ap (option_map line_of) (set_other posts place other new apart)
          ∙ (sym (slice_get-map line_of posts other)
          ∙ ap (λ (ls : List ServedLine). slice_get ls other) seen));
    }

-- there is no line at a place
pub none_made : (made : ServedLine → ServedLine) (lines : List ServedLine) (place : ℕ) → length lines ≤ place
    → IsMadeAt place made lines lines
none_made made lines place past =
    let none = slice_get_past lines place past in record {
      own = none ∙ sym (ap (option_map made) none);
      others = λ other apart. refl;
    }

-- what two functions make of the line at a place is the same
pub as_made : (f made : ServedLine → ServedLine) (place : ℕ) (old new : List ServedLine) (line : ServedLine)
    → slice_get old place ≡ Some line → f line ≡ made line → IsMadeAt place f old new → IsMadeAt place made old new
as_made f made place old new line at same is = record {
  own = is.own ∙ (ap (option_map f) at ∙ (ap Some same ∙ sym (ap (option_map made) at)));
  others = is.others;
}

-- So it is with each line before this place. Of the others nothing changed.
pub record AreMadeTo (end : ℕ) (made : ServedLine → ServedLine) (old new : List ServedLine) : Type 0 where
  pub done : (place : ℕ) → place < end → slice_get new place ≡ option_map made (slice_get old place)
  pub rest : (place : ℕ) → end ≤ place → slice_get new place ≡ slice_get old place

pub none_so_far : (made : ServedLine → ServedLine) (lines : List ServedLine) → AreMadeTo 0 made lines lines
none_so_far made lines = record {
  done = λ place before. let none : ⊥ = omega (arith, before) in absurd none;
  rest = λ place after. refl;
}

pub made_more : (end : ℕ) (made : ServedLine → ServedLine) (first now next : List ServedLine)
    → AreMadeTo end made first now → IsMadeAt end made now next → AreMadeTo (end + 1) made first next
made_more end made first now next so_far one = record {
  done = λ place before. ⊎_elim
      (λ (here : place ≡ end).
      let Made : ℕ → Type 0 = λ k. slice_get next k ≡ option_map made (slice_get first k) in
      subst Made (sym here) (one.own ∙ ap (option_map made) (so_far.rest end (omega arith))))
      (λ (other : place ≢ end). one.others place other ∙ so_far.done place (omega (arith, before, other)))
      (cases_eq place end);
  rest = λ place after.
      let apart : place ≢ end = λ here. omega (arith, here, after) in
      one.others place apart ∙ so_far.rest place (omega (arith, after));
}

pub all_made : (end : ℕ) (made : ServedLine → ServedLine) (first now : List ServedLine) → length first ≤ end
    → AreMadeTo end made first now → AreMade made first now
all_made end made first now whole so_far place = ⊎_elim
    (λ (before : place < end). so_far.done place before)
    (λ (after : end ≤ place).
    let none = slice_get_past first place (omega (arith, whole, after)) in
    so_far.rest place after ∙ (none ∙ sym (ap (option_map made) none)))
    (cases_lt place end)

-- there is no line behind the last post
pub none_there : {P : Type 0} (line_of : P → ServedLine) (posts : List P) (lines : List ServedLine) (place : ℕ)
    → map line_of posts ≡ lines → length posts ≤ place → length lines ≤ place
none_there line_of posts lines place seen past =
    let many : length lines ≡ length posts = ap length (sym seen) ∙ length-map posts line_of in
    omega (arith, many, past)

both_false : (a b : Bool) → (a || b) ≡ false → (a ≡ false) × (b ≡ false)
both_false false b none = (refl, none)
both_false true b none = absurd (false≢true (sym none))

-- if none of the lines so far drains, and one more doesn't
pub none_more : (end : ℕ) (made : ServedLine → ServedLine) (now next : List ServedLine) (state : LineState)
    (before own : Bool)
    → (before ≡ false → (p : ℕ) (line : ServedLine) → p < end → slice_get now p ≡ Some line
    → is_draining line.state ≡ false)
    → IsMadeAt end made now next
    → ((line : ServedLine) → slice_get next end ≡ Some line → line.state ≡ state)
    → own ≡ is_draining state
    → (before || own) ≡ false → (p : ℕ) (line : ServedLine) → p < end + 1 → slice_get next p ≡ Some line
    → is_draining line.state ≡ false
none_more end made now next state before own so_far one its is none p line within found =
    let parts = both_false before own none in
    ⊎_elim
    (λ (here : p ≡ end).
    let At : ℕ → Type 0 = λ k. slice_get next k ≡ Some line in
    ap is_draining (its line (subst At here found)) ∙ (sym is ∙ parts.1))
    (λ (other : p ≢ end). so_far parts.0 p line (omega (arith, within, other)) (sym (one.others p other) ∙ found))
    (cases_eq p end)

-- no line drains
pub none_drains : (end : ℕ) (made : ServedLine → ServedLine) (first now : List ServedLine) → length first ≤ end
    → AreMadeTo end made first now
    → ((p : ℕ) (line : ServedLine) → p < end → slice_get now p ≡ Some line → is_draining line.state ≡ false)
    → NoneDrains now
none_drains end made first now whole so_far before p line found = ⊎_elim
    (λ (within : p < end). before p line within found)
    (λ (past : end ≤ p).
    let none : None ≡ Some line =
    sym (so_far.rest p past ∙ slice_get_past first p (omega (arith, whole, past))) ∙ found in cc)
    (cases_lt p end)
