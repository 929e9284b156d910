-- What one more inner unit makes of the data of a text.
use Rattle.std.proofs.Common.{◌≡◌, ℕ, ◌≤◌, List, [], ◌∷◌, ◌++◌, length, Bool, true, false, if◌then◌else◌, refl, ap, ◌∙◌}
use Rattle.std.proofs.Common.{arith, inl, inr, length-append, append-nil}
use Rattle.std.specs.Prelude.{◌||◌, nat_lt, flat_map, Option, Some, None}
use Rattle.std.specs.List.{list_any}
use Rattle.std.proofs.lemmas.Bool.{cases_lt, lt-ltb, le-ltb}
use Rattle.std.proofs.lemmas.List.Concat.{flat_map-append}
use Rattle.std.proofs.lemmas.List.Folds.{list_any-append}
use Rattle.njh_bisync.specs.Frames.{Inner, plain, doubled, fill, stray, data_of_inner, is_stray, data_so_far}
use Rattle.njh_bisync.specs.Reading.{InText}
use Rattle.njh_bisync.specs.ByteSteps.{kept_with}

-- `data_so_far` on what it looks at: whether something spoils the text, and its data
abbrev kept_of : Bool → List ℕ → Option (List ℕ)
kept_of bad held = if bad || nat_lt 4096 (length held) then None else Some held

-- if there is no room for one more the data is lost, by what it was already or by the new byte
full-kept_with : (t : Bool) (held : List ℕ) (byte : ℕ) → 4096 ≤ length held
    → kept_with (if t then None else Some held) byte ≡ None
full-kept_with true held byte full = refl
full-kept_with false held byte full = rw (le-ltb (length held) 4096 full)

kept_of-push : (bad : Bool) (held : List ℕ) (byte : ℕ)
    → kept_of (bad || false) (held ++ byte ∷ []) ≡ kept_with (kept_of bad held) byte
kept_of-push true held byte = refl
kept_of-push false held byte =
    elim (cases_lt (length held) 4096) [
      | inl below ↦
          rw (
            le-ltb 4096 (length (held ++ byte ∷ [])) (omega (arith, length-append held (byte ∷ []))),
            le-ltb 4096
                (length held) (omega arith),
          )
          (rw (lt-ltb (length held) 4096 below))
      | inr full ↦
          rw (
            lt-ltb 4096 (length (held ++ byte ∷ [])) (omega (arith, length-append held (byte ∷ []))),
            full-kept_with
                (nat_lt 4096 (length held)) held byte full,
          )
    ]

kept_of-stray : (bad : Bool) (held : List ℕ) → kept_of (bad || true) held ≡ None
kept_of-stray true held = refl
kept_of-stray false held = refl

kept_of-same : (bad : Bool) (held : List ℕ) → kept_of (bad || false) held ≡ kept_of bad held
kept_of-same true held = refl
kept_of-same false held = refl

-- `data_so_far` of one more inner unit, taken apart
kept-append : (inners : List Inner) (inner : Inner)
    → data_so_far (inners ++ inner ∷ []) ≡ kept_of (list_any is_stray inners || (is_stray inner || false))
    (flat_map data_of_inner inners ++ (data_of_inner inner ++ []))
unfolding data_so_far
kept-append inners inner = rw (
  list_any-append is_stray inners (inner ∷ []),
  flat_map-append data_of_inner inners
      (inner ∷ []),
)

pub kept-plain : (inners : List Inner) (byte : ℕ)
    → data_so_far (inners ++ plain byte ∷ []) ≡ kept_with (data_so_far inners) byte
unfolding data_so_far
kept-plain inners byte = kept-append inners (plain byte)
    ∙ kept_of-push (list_any is_stray inners) (flat_map data_of_inner inners) byte

pub kept-doubled : (inners : List Inner) → data_so_far (inners ++ doubled ∷ []) ≡ kept_with (data_so_far inners) 0x10
unfolding data_so_far
kept-doubled inners = kept-append inners doubled
    ∙ kept_of-push (list_any is_stray inners) (flat_map data_of_inner inners) 0x10

pub kept-fill : (inners : List Inner) → data_so_far (inners ++ fill ∷ []) ≡ data_so_far inners
unfolding data_so_far
kept-fill inners =
    kept-append inners fill
    ∙ (ap (kept_of (list_any is_stray inners || false)) (append-nil (flat_map data_of_inner inners))
    ∙ kept_of-same (list_any is_stray inners) (flat_map data_of_inner inners))

pub kept-stray : (inners : List Inner) (byte : ℕ) → data_so_far (inners ++ stray byte ∷ []) ≡ None
unfolding data_so_far
kept-stray inners byte = kept-append inners (stray byte)
    ∙ kept_of-stray (list_any is_stray inners) (flat_map data_of_inner inners ++ [])

pub kept-none : InText (Some []) false ≡ InText (data_so_far []) false
unfolding data_so_far
kept-none = refl
