-- Texts that are told one after another.
use Rattle.std.proofs.Common.{◌≡◌, ℕ, ◌+◌, ◌<◌, List, [], ◌∷◌, ◌++◌, Result, Ok, Err, Some, get_or, length, map, take}
use Rattle.std.proofs.Common.{sym, ap, subst, ◌∙◌, append_assoc, append-nil}
use Rattle.std.proofs.lemmas.List.{map-append, take_more}
use Rattle.std.specs.Prelude.{String, string_bytes}
use Rattle.std.specs.Result.{IsOkAnd}
use Rattle.std.specs.declared.alloc.Global.{Global}
use Rattle.serde_json.specs.Data.{Data}
use Rattle.serde_json.specs.View.{items_view, view}
use Rattle.serde_json.specs.declared.value.Value.{Value}
use Rattle.njh_ctl.specs.Answers.{list_in}
use Rattle.njh_ctl.specs.Shown.{Adds, Grows, Rows, RowsOf, no_row, one_row_more}
use Rattle.njh_ctl.specs.ShownLines.{IsAny}

-- a text behind another
pub grows_more : (front back : List ℕ) (old mid new : String Global) → Grows front old mid → Grows back mid new
    → Grows (front ++ back) old new
grows_more front back old mid new first then =
    then ∙ ap (λ (t : List ℕ). t ++ back) first ∙ append_assoc (string_bytes old) front back

-- one item more
pub map_take_more : {A B : Type 0} (f : A → B) (xs : List A) (i : ℕ) (x : A) → i < length xs → x ≡ get_or xs i x
    → map f (take (i + 1) xs) ≡ map f (take i xs) ++ (f x ∷ [])
map_take_more {A} f xs i x within is =
    ap (map f) (take_more xs i x within) ∙ map-append f (take i xs) (get_or xs i x ∷ [])
    ∙ ap (λ (y : A). map f (take i xs) ++ (f y ∷ [])) (sym is)

-- rows of these were put behind what there was
abbrev pub HasRows : (Data → List ℕ → Type 0) → List Data → String Global → String Global → Type 0
HasRows row ds old new = Adds (Rows row ds) old new

pub HasRows-none : (row : Data → List ℕ → Type 0) (out : String Global) → HasRows row [] out out
HasRows-none row out = ([], no_row, sym (append-nil (string_bytes out)))

pub HasRows-more : (row : Data → List ℕ → Type 0) (ds all : List Data) (d : Data) (old mid new : String Global)
    → HasRows row ds old mid → Adds (row d) mid new → all ≡ ds ++ (d ∷ []) → HasRows row all old new
HasRows-more row ds all d old mid new so_far one is = (
  so_far.0 ++ one.0,
  subst (λ (list : List Data). Rows row list (so_far.0 ++ one.0)) (sym is)
      (one_row_more ds so_far.0 d one.0 so_far.1 one.1),
  grows_more so_far.0 one.0 old mid new so_far.2 one.2,
)

-- a text, whichever it is, was put behind what there was
pub any_none : (out : String Global) → Adds IsAny out out
any_none out = ([], tt, sym (append-nil (string_bytes out)))

pub any_more : (old mid new : String Global) → Adds IsAny old mid → Adds IsAny mid new → Adds IsAny old new
any_more old mid new first then = (first.0 ++ then.0, tt, grows_more first.0 then.0 old mid new first.2 then.2)

pub any_by : {E : Type 0} (r : Result (String Global) E) (old new : String Global)
    → IsOkAnd r (λ s. Grows (string_bytes s) old new) → Adds IsAny old new
any_by (Ok s) old new grows = (string_bytes s, tt, grows)
any_by (Err e) old new grows = absurd grows

-- the rows of the list that a member is
pub rows_of : (key : List ℕ) (row : Data → List ℕ → Type 0) (d : Data) (values : List Value) (old new : String Global)
    → list_in key d ≡ Some (items_view values) → Adds (Rows row (map view values)) old new
    → Adds (RowsOf key row d) old new
rows_of key row d values old new found rows =
    (rows.0, record { items = map view values; found = found; rows = rows.1 }, rows.2)
