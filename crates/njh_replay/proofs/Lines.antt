-- A script read line by line.
use Rattle.std.proofs.Common.{◌≡◌, ℕ, ◌+◌, ◌<◌, ◌≤◌, true, false, not, List, [], ◌∷◌, ◌++◌, length, get_or, take}
use Rattle.std.proofs.Common.{drop, Ok, Err, refl, sym, ap, ◌∙◌, arith, inl, inr}
use Rattle.std.specs.List.{position_or_len, filter_map, cons_option}
use Rattle.std.proofs.lemmas.Bool.{cases_eq, lt-ltb, le-ltb}
use Rattle.std.proofs.lemmas.List.{drop_more, get_or_read, length-drop, take_more, take_all}
use Rattle.std.proofs.lemmas.List.Elements.{filter_map-append}
use Rattle.std.proofs.lemmas.List.Sums.{position_or_len_is}
use Rattle.njh_table.specs.TableFile.{TableFile}
use Rattle.njh_hub.specs.declared.event.Event.{Event}
use Rattle.njh_replay.specs.Script.{can_stand, event_in, script_events, script_of_lines}

-- the next of some lines
pub record IsNext (lines : List (List ℕ)) (n : ℕ) (line : List ℕ) (more : List (List ℕ)) : Type 0 where
  pub within : n < length lines
  pub at : line ≡ get_or lines n line
  pub left : drop (n + 1) lines ≡ more

pub IsNext-from : (lines : List (List ℕ)) (n : ℕ) (line : List ℕ) (more : List (List ℕ)) → drop n lines ≡ line ∷ more
    → IsNext lines n line more
IsNext-from lines n line more is =
    let below : n < length lines = omega (arith, length-drop n lines, ap (length {A = List ℕ}) is) in
    let head = drop_more lines n line below in
    record { within = below; at = cc; left = cc }

-- the first n lines may all be in a script, and have these events
pub record Reads (tables : TableFile) (lines : List (List ℕ)) (n : ℕ) (events : List Event) : Type 0 where
  pub tell : events ≡ script_events tables (take n lines)
  pub good : (k : ℕ) (d : List ℕ) → k < n → can_stand tables (get_or lines k d) ≡ true

-- one line more
pub Reads-more : (tables : TableFile) (lines : List (List ℕ)) (n : ℕ) (events more : List Event) (line : List ℕ)
    → Reads tables lines n events → n < length lines → line ≡ get_or lines n line
    → can_stand tables line ≡ true → more ≡ cons_option (event_in tables line) []
    → Reads tables lines (n + 1) (events ++ more)
Reads-more tables lines n events more line so_far within at good said = record {
  tell =
      let front : take (n + 1) lines ≡ take n lines ++ line ∷ [] = take_more lines n line within
      ∙ ap (λ (x : List ℕ). take n lines ++ x ∷ []) (sym at) in
      rw (front, filter_map-append) (ap (λ (xs : List Event). xs ++ more) so_far.tell
      ∙ ap (λ (xs : List Event). filter_map (event_in tables) (take n lines) ++ xs) said);
  good = λ k d below.
      elim (cases_eq k n) [
        | inl last ↦ rw (last, ← get_or_read lines n line within at d) good
        | inr other ↦ so_far.good k d (omega arith)
      ];
}

-- a bad line after good ones is the first
first_bad-at : (tables : TableFile) (lines : List (List ℕ)) (n : ℕ) (d : List ℕ)
    → n ≤ length lines → ((k : ℕ) → k < n → can_stand tables (get_or lines k d) ≡ true)
    → (n < length lines → can_stand tables (get_or lines n d) ≡ false)
    → position_or_len (λ line. not (can_stand tables line)) lines ≡ n
first_bad-at tables lines n d within good bad =
    position_or_len_is (λ line. not (can_stand tables line)) lines n d within (λ k below. rw (good k below) refl)
    (λ below. rw (bad below) refl)

pub Reads-bad : (tables : TableFile) (lines : List (List ℕ)) (n : ℕ) (events : List Event) (line : List ℕ)
    → Reads tables lines n events → n < length lines → line ≡ get_or lines n line
    → can_stand tables line ≡ false → script_of_lines tables lines ≡ Err (n + 1)
Reads-bad tables lines n events line so_far within at bad =
    let place = first_bad-at tables lines n line (omega arith) (λ k below. so_far.good k line below)
    (λ below. rw (← at) bad) in
    rw (place, lt-ltb n (length lines) within) refl

pub Reads-all : (tables : TableFile) (lines : List (List ℕ)) (n : ℕ) (events : List Event)
    → Reads tables lines n events → n ≡ length lines → script_of_lines tables lines ≡ Ok events
Reads-all tables lines n events so_far all =
    let place = first_bad-at tables lines n [] (omega arith) (λ k below. so_far.good k [] below)
    (λ below. absurd (omega arith)) in
    rw (place, le-ltb n (length lines) (omega arith), so_far.tell, take_all n lines (omega arith)) refl
