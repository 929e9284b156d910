-- The maps of names and of nodes, as the lists that contracts see.
use Rattle.std.proofs.Common.{◌≡◌, ℕ, Bool, true, false, ◌||◌, cond, List, [], ◌∷◌, map, Option, Some, None, is_some}
use Rattle.std.proofs.Common.{bytes_eq, refl, ap, sym, ◌∙◌}
use Rattle.std.proofs.lemmas.Bool.{false≢true}
use Rattle.std.specs.Cmp.Lexicographic.{nat_list_eq_equiv}
use Rattle.std.specs.List.{list_any}
use Rattle.std.specs.Map.{lookup}
use Rattle.njh_table.specs.declared.routes.RouteLines.{RouteLines}
use Rattle.njh_table.specs.Entries.{lines_to}
use Rattle.njh_table.specs.TableFile.{route_entry}
use Rattle.njh_table.proofs.RouteLaws.{lines_to-cons}

pub none_from_false : {X : Type 0} (o : Option X) → is_some o ≡ false → o ≡ None
none_from_false None h = refl
none_from_false (Some x) h = absurd (false≢true (sym h))

is_some-cond : {X : Type 0} (b : Bool) (x : X) (rest : Option X) (any : Bool) → is_some rest ≡ any
    → is_some (cond b (Some x) rest) ≡ (b || any)
is_some-cond true x rest any h = refl
is_some-cond false x rest any h = h

module _ {K X : Type 0} where
  -- a look-up by what the keys are seen as
  pub lookup-map_keys : (f : K → List ℕ) (test : List ℕ → Bool) (es : List (K × X))
      → lookup test (map (λ e. (f e.0, e.1)) es) ≡ lookup (λ k. test (f k)) es
  lookup-map_keys f test [] = refl
  lookup-map_keys f test (e ∷ es) = ap (λ rest. cond (test (f e.0)) (Some e.1) rest) (lookup-map_keys f test es)

  -- a look-up finds where a key passes
  pub is_some-lookup : (test : K → Bool) (es : List (K × X))
      → is_some (lookup test es) ≡ list_any test (map (λ e. e.0) es)
  is_some-lookup test [] = refl
  is_some-lookup test (e ∷ es) = is_some-cond (test e.0) e.1 (lookup test es) _ (is_some-lookup test es)

-- the lines of a node, where the keys are compared as lists of bytes
pub lookup-routes : (eq : List ℕ → List ℕ → Bool) → ((a b : List ℕ) → eq a b ≡ bytes_eq a b)
    → (node : List ℕ) (es : List (List ℕ × RouteLines)) → lookup (eq node) es ≡ lines_to (map route_entry es) node
lookup-routes eq same node [] = refl
lookup-routes eq same node (e ∷ es) =
    let here : eq node e.0 ≡ bytes_eq e.0 node = same node e.0 ∙ nat_list_eq_equiv.symm node e.0 in
    ap (λ b. cond b (Some e.1) (lookup (eq node) es)) here
    ∙ ap (λ r. cond (bytes_eq e.0 node) (Some e.1) r) (lookup-routes eq same node es)
    ∙ sym (lines_to-cons (route_entry e) (map route_entry es) node)
