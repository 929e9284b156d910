-- The steps of the walk: one element more, one step more, and the exit at the first fault.
use Rattle.std.proofs.Common.{◌≡◌, ◌≢◌, ℕ, ◌+◌, ◌<◌, Bool, true, false, List, [], ◌∷◌, length, get_or, drop, Result, Ok}
use Rattle.std.proofs.Common.{Err, IsErrAnd, Option, Some, None, ok_or, option_and_then, refl, ap, sym, ◌∙◌, ◌==◌}
use Rattle.std.proofs.Common.{arith}
use Rattle.std.specs.Result.{result_map_both}
use Rattle.std.proofs.lemmas.Bool.{ne_eqb}
use Rattle.toml.specs.Data.{Data, item, as_str}
use Rattle.toml.specs.View.{view, items_view}
use Rattle.toml.specs.declared.value.Value.{Value}
use Rattle.toml.proofs.Views.{items_view-drop}
use Rattle.njh_table.specs.declared.places.PlacedFault.{PlacedFault}
use Rattle.njh_table.specs.declared.fault.TableFault.TheVariants.{MissingKey, BadValue, Memory}
use Rattle.njh_table.specs.declared.places.Key.{Key}
use Rattle.njh_table.specs.declared.places.Part.{Part}
use Rattle.njh_table.specs.Keys.{Placed, ◌>>=◌, ◌>>◌, fault_where}
use Rattle.njh_table.specs.Places.{at_value}
use Rattle.njh_table.specs.Walk.{Walks, is_empty}

-- the element at hand, and those after it
pub turn : (values : List Value) (i : ℕ) (value : Value) → i < length values → value ≡ get_or values i value
    → items_view (drop i values) ≡ item (view value) (items_view (drop (i + 1) values))
turn values i value within here =
    items_view-drop values i value within ∙ ap (λ v. item (view v) (items_view (drop (i + 1) values))) (sym here)

module _ {A B E : Type 0} (next : A → Result B E) where
  -- the walk goes on after what a step gave
  pub goes_on : (step : Result A E) (x : A) → step ≡ Ok x → (step >>= next) ≡ next x
  goes_on step x gave = ap (λ s. s >>= next) gave

  -- and ends at a step's fault
  pub ends : (step : Result A E) (fault : E) → step ≡ Err fault → (step >>= next) ≡ Err fault
  ends step fault gave = ap (λ s. s >>= next) gave

-- a test that was passed, or not
pub passes : {B E : Type 0} (test : Bool) (fault : E) (next : Result B E) → test ≡ false
    → (fault_where test fault >> next) ≡ next
passes test fault next passed = ap (λ t. fault_where t fault >> next) passed

pub fails : {B E : Type 0} (test : Bool) (fault : E) (next : Result B E) → test ≡ true
    → (fault_where test fault >> next) ≡ Err fault
fails test fault next failed = ap (λ t. fault_where t fault >> next) failed

-- ---- an exit by `?`

pub stops : {A B : Type 0} (seen : A → B) (result : Placed A) (walked : Placed B) (fault : PlacedFault)
    → IsErrAnd result (λ e. e ≡ fault) → (fault.fault ≢ Memory → walked ≡ Err fault) → Walks seen result walked
stops seen (Ok x) walked fault is_err told = elim is_err [ ]
stops seen (Err e) walked fault same told =
    λ no_memory. told (λ memory. no_memory (ap (λ (p : PlacedFault). p.fault) same ∙ memory)) ∙ ap Err (sym same)

-- the same, where no memory is asked for
pub leaves : {A E : Type 0} (result walked : Result A E) (fault : E) → IsErrAnd result (λ e. e ≡ fault) → walked
    ≡ Err fault → result ≡ walked
leaves (Ok x) walked fault is_err told = elim is_err [ ]
leaves (Err e) walked fault same told = ap Err same ∙ sym told

pub leaves_seen : {A B E : Type 0} (seen : A → B) (result : Result A E) (walked : Result B E) (fault : E)
    → IsErrAnd result (λ e. e ≡ fault) → walked ≡ Err fault → result_map_both seen (λ f. f) result ≡ walked
leaves_seen seen (Ok x) walked fault is_err told = elim is_err [ ]
leaves_seen seen (Err e) walked fault same told = ap Err same ∙ sym told

pub is_empty_view : (values : List Value) → is_empty (items_view values) ≡ (length values == 0)
is_empty_view [] = refl
is_empty_view (v ∷ values) = sym (ne_eqb (length (v ∷ values)) 0 (λ none. absurd (omega arith)))

-- ---- a text that a key must have

-- what is read of a text has the text's own fault
pub text_fails : {A : Type 0} (read : List ℕ → Option A) (part : Part) (key : Key) (found : Option Data)
    (fault : PlacedFault)
    → (ok_or found (at_value part key MissingKey) >>= (λ v. ok_or (as_str v) (at_value part key BadValue))) ≡ Err fault
    → (ok_or found (at_value part key MissingKey) >>=
    (λ v. ok_or (option_and_then read (as_str v)) (at_value part key BadValue)))
    ≡ Err fault
text_fails read part key None fault told = ap Err (cc told)
text_fails read part key (Some value) fault told = by (as_str value) told
  where
    by : (text : Option (List ℕ)) → ok_or text (at_value part key BadValue) ≡ Err fault
        → ok_or (option_and_then read text) (at_value part key BadValue) ≡ Err fault
    by None told = ap Err (cc told)
    by (Some text) told = absurd (cc told)
