-- What the walk over a customer's routes gives.
use Rattle.std.proofs.Common.{◌≡◌, ◌≢◌, ℕ, ◌+◌, ◌<◌, ◌≤◌, Bool, true, false, cond, ◌||◌, nat_le, List, [], ◌∷◌, ◌++◌}
use Rattle.std.proofs.Common.{length, map, bytes_eq, All, Option, Some, None, IfSome, is_some, option_and_then}
use Rattle.std.proofs.Common.{ok_or, refl, sym, ap, subst, ◌∙◌, arith}
use Rattle.std.specs.List.{list_any, position_from}
use Rattle.std.specs.Cmp.Lexicographic.{nat_list_eq_equiv}
use Rattle.std.proofs.lemmas.Bool.{both_ways, leb-false, or_parts, or_from}
use Rattle.std.proofs.lemmas.List.{length-append, map-append}
use Rattle.std.proofs.lemmas.List.Elements.{All-push}
use Rattle.std.proofs.lemmas.Option.{IfSome_then}
use Rattle.std.proofs.lemmas.Slice.Eq.{bytes_eq-Decides}
use Rattle.toml.specs.Data.{Data, Items, no_items, item, as_str}
use Rattle.njh_table.specs.declared.fault.TableFault.TheVariants.{TooMany, DoubleNode, UnknownLine}
use Rattle.njh_table.specs.declared.places.Key.TheVariants as named
use Rattle.njh_table.specs.declared.places.Part.{Part}
use Rattle.njh_table.specs.declared.places.Part.TheVariants as parts
use Rattle.njh_table.specs.Limits.{max_routes}
use Rattle.njh_table.specs.Accepted.{AreDistinct, IsRoute}
use Rattle.njh_table.specs.declared.routes.RouteLines.{RouteLines}
use Rattle.njh_table.specs.Entries.{RouteEntry, lines_to, route_lines}
use Rattle.njh_table.specs.Places.{at_part, at_value}
use Rattle.njh_table.specs.TableFile.{NamedLine}
use Rattle.njh_table.specs.Keys.{node_name, other_text, second_line}
use Rattle.njh_table.specs.Walk.{line_number, is_routed, number_of_second, route_by, next_route, routes_onto}
use Rattle.njh_table.proofs.Gives.{Gives, and_then, past, some_or, with_keys, with_any, with_value_or}
use Rattle.njh_table.proofs.Distinct.{distinct_push}
use Rattle.njh_table.proofs.RouteLaws.{lines_to-cons}

-- what gives the number of a line gives one of so many, and another for another name
pub record Finds (lines : ℕ) (find : List ℕ → Option ℕ) : Type 0 where
  pub below : (name : List ℕ) → IfSome (find name) (λ l. l < lines)
  pub apart : (name other : List ℕ) (l : ℕ) → find name ≡ Some l → find other ≡ Some l → name ≡ other

-- what there is
there_is : {X : Type 0} (o : Option X) → IfSome o (λ x. o ≡ Some x)
there_is None = tt
there_is (Some x) = refl

found-below : (lines : ℕ) (find : List ℕ → Option ℕ) (name : List ℕ) (l : ℕ) → Finds lines find → find name ≡ Some l
    → l < lines
found-below lines find name l finds found = subst (λ o. IfSome o (λ l. l < lines)) found (finds.below name)

-- a name that isn't another
abbrev IsOther : List ℕ → Option (List ℕ) → Type 0
IsOther first second = IfSome second (λ name. name ≢ first)

second_line-is : (first : List ℕ) (value : Data) → IfSome (second_line first value) (IsOther first)
second_line-is first value = by (as_str value)
  where
    told : (text : List ℕ) (same : Bool) → bytes_eq text first ≡ same
        → IfSome (cond same None (Some (Some text))) (IsOther first)
    told text true same = tt
    told text false other = λ same. both_ways (bytes_eq text first) other ((bytes_eq-Decides text first).1 same)

    by : (text : Option (List ℕ)) → IfSome (option_and_then (other_text first) text) (IsOther first)
    by None = tt
    by (Some text) = told text (bytes_eq text first) refl

-- the second line of a route, beside its first
abbrev IsSecond : ℕ → ℕ → Option ℕ → Type 0
IsSecond lines first second = IfSome second (λ line. (line < lines) × (line ≢ first))

number_of_second-gives : (part : Part) (lines : ℕ) (find : List ℕ → Option ℕ) (line : List ℕ) (number : ℕ)
    (second : Option (List ℕ)) → Finds lines find
    → find line ≡ Some number → IsOther line second → Gives (IsSecond lines number) (number_of_second part find second)
number_of_second-gives part lines find line number None finds found other = tt
number_of_second-gives part lines find line number (Some name) finds found other =
    and_then (λ l. find name ≡ Some l) (IsSecond lines number)
    (ok_or (find name) (at_value part named.Second UnknownLine)) _
    (some_or _ (find name) (at_value part named.Second UnknownLine) tt (there_is (find name)))
    (λ l second. (
      found-below lines find name l finds second,
      λ same. other
          (finds.apart name line l second (found ∙ ap Some (sym same))),
    ))

pub record IsNewRoute (hub : List ℕ) (lines : ℕ) (done : List RouteEntry) (r : RouteEntry) : Type 0 where
  pub room : length done < max_routes
  pub absent : is_routed hub done r.node ≡ false
  pub is : IsRoute lines r

next_route-gives : (part : Part) (hub : List ℕ) (lines : ℕ) (find : List ℕ → Option ℕ) (done : List RouteEntry)
    (value : Data)
    → Finds lines find → Gives (IsNewRoute hub lines done) (next_route part hub find done value)
unfolding next_route route_by
next_route-gives part hub lines find done value finds =
    past _ (nat_le max_routes (length done)) (at_part part TooMany) _ tt (λ room.
    with_keys _ part value _ (λ keys.
    with_any _ node_name part named.Node keys _ (λ node.
    with_any _ as_str part named.Line keys _ (λ line.
    with_value_or (IsOther line) _ (second_line line) None part named.Second keys _ tt (second_line-is line)
    (λ second other.
    past _ (is_routed hub done node) (at_value part named.Node DoubleNode) _ tt (λ absent.
    and_then (λ l. find line ≡ Some l) _ (ok_or (find line) (at_value part named.Line UnknownLine)) _
    (some_or _ (find line) (at_value part named.Line UnknownLine) tt (there_is (find line)))
    (λ number found.
    and_then (IsSecond lines number) _ (number_of_second part find second) _
    (number_of_second-gives part lines find line number second finds found other) (λ second_number is.
    record {
      room = leb-false max_routes (length done) room;
      absent = absent;
      is = record { line = found-below lines find line number finds found; second = is };
    }))))))))

is_some-cond : (test : Bool) (x : RouteLines) (rest : Option RouteLines)
    → is_some (cond test (Some x) rest) ≡ (test || is_some rest)
is_some-cond true x rest = refl
is_some-cond false x rest = refl

-- a node without a route is none of the nodes that have one
unrouted : (routes : List RouteEntry) (node : List ℕ) → is_some (lines_to routes node) ≡ false
    → list_any (bytes_eq node) (map (λ r. r.node) routes) ≡ false
unrouted [] node absent = refl
unrouted (r ∷ routes) node absent =
    let first = sym (is_some-cond (bytes_eq r.node node) (route_lines r) (lines_to routes node))
    ∙ ap is_some (sym (lines_to-cons r routes node)) in
    let (here, rest) = or_parts (bytes_eq r.node node) (is_some (lines_to routes node)) (first ∙ absent) in
    or_from _ _ (nat_list_eq_equiv.symm node r.node ∙ here) (unrouted routes node rest)

pub record AreRoutes (hub : List ℕ) (lines : ℕ) (routes : List RouteEntry) : Type 0 where
  pub count : length routes ≤ max_routes
  pub each : All (IsRoute lines) routes
  pub nodes : AreDistinct (hub ∷ map (λ r. r.node) routes)

pub AreRoutes-push : (hub : List ℕ) (lines : ℕ) (done : List RouteEntry) (r : RouteEntry) → AreRoutes hub lines done
    → IsNewRoute hub lines done r → AreRoutes hub lines (done ++ r ∷ [])
AreRoutes-push hub lines done r routes new =
    let (not_hub, not_routed) = or_parts (bytes_eq hub r.node) (is_some (lines_to done r.node)) new.absent in
    let absent = or_from (bytes_eq r.node hub) _ (nat_list_eq_equiv.symm r.node hub ∙ not_hub)
    (unrouted done r.node not_routed) in
    record {
      count = simp length-append (omega (arith, new.room));
      each = All-push (IsRoute lines) done r routes.each new.is;
      nodes = subst (λ ns. AreDistinct (hub ∷ ns)) (sym (map-append (λ (r : RouteEntry). r.node) done (r ∷ [])))
          (distinct_push (hub ∷ map (λ r. r.node) done) r.node routes.nodes absent);
    }

pub routes_onto-gives : (customer : ℕ) (hub : List ℕ) (lines : ℕ) (find : List ℕ → Option ℕ) (done : List RouteEntry)
    (values : Items)
    → Finds lines find → AreRoutes hub lines done
    → Gives (AreRoutes hub lines) (routes_onto customer hub find done values)
routes_onto-gives customer hub lines find done no_items finds routes = routes
routes_onto-gives customer hub lines find done (item value more) finds routes =
    and_then (IsNewRoute hub lines done) (AreRoutes hub lines)
    (next_route (parts.Route customer (length done)) hub find done value) _
    (next_route-gives (parts.Route customer (length done)) hub lines find done value finds)
    (λ r new. routes_onto-gives customer hub lines find (done ++ r ∷ []) more finds
    (AreRoutes-push hub lines done r routes new))

position_from-below : {X : Type 0} (test : X → Bool) (k : ℕ) (xs : List X)
    → IfSome (position_from test k xs) (λ i. (k ≤ i) × (i < k + length xs))
position_from-below test k [] = tt
position_from-below test k (x ∷ xs) =
    by (test x) (IfSome_then (position_from test (k + 1) xs) (position_from-below test (k + 1) xs)
    (λ i below. (omega (arith, below.0), omega (arith, below.1))))
  where
    by : (b : Bool) → IfSome (position_from test (k + 1) xs) (λ i. (k ≤ i) × (i < k + length (x ∷ xs)))
        → IfSome (cond b (Some k) (position_from test (k + 1) xs)) (λ i. (k ≤ i) × (i < k + length (x ∷ xs)))
    by true later = (omega arith, omega arith)
    by false later = later

-- a line that comes later has another number
later : (lines : List NamedLine) (k n : ℕ) (name : List ℕ)
    → position_from (λ l. bytes_eq l.name name) (k + 1) lines ≡ Some n → k ≢ n
later lines k n name found same =
    let after = subst (λ o. IfSome o (λ i. (k + 1 ≤ i) × (i < (k + 1) + length lines))) found
    (position_from-below (λ l. bytes_eq l.name name) (k + 1) lines) in
    absurd (omega (arith, after.0, same))

numbers_apart : (lines : List NamedLine) (k n : ℕ) (name other : List ℕ)
    → position_from (λ l. bytes_eq l.name name) k lines ≡ Some n
    → position_from (λ l. bytes_eq l.name other) k lines ≡ Some n → name ≡ other
numbers_apart [] k n name other found too = absurd (cc found)
numbers_apart (l ∷ lines) k n name other found too =
    by (bytes_eq l.name name) refl (bytes_eq l.name other) refl found too (numbers_apart lines (k + 1) n name other)
  where
    by : (this : Bool) → bytes_eq l.name name ≡ this → (that : Bool) → bytes_eq l.name other ≡ that
        → cond this (Some k) (position_from (λ l. bytes_eq l.name name) (k + 1) lines) ≡ Some n
        → cond that (Some k) (position_from (λ l. bytes_eq l.name other) (k + 1) lines) ≡ Some n
        → (position_from (λ l. bytes_eq l.name name) (k + 1) lines ≡ Some n
        → position_from (λ l. bytes_eq l.name other) (k + 1) lines ≡ Some n → name ≡ other) → name ≡ other
    by true named true named_too found too rest =
        sym ((bytes_eq-Decides l.name name).0 named) ∙ (bytes_eq-Decides l.name other).0 named_too
    by true named false unlike found too rest = absurd (later lines k n other too (cc found))
    by false unlike true named found too rest = absurd (later lines k n name found (cc too))
    by false unlike false unlike_too found too rest = rest found too

pub line_number-finds : (lines : List NamedLine) → Finds (length lines) (line_number lines)
line_number-finds lines = record {
  below = λ name.
      IfSome_then (line_number lines name) (position_from-below (λ l. bytes_eq l.name name) 0 lines)
      (λ i is. omega (arith, is.1));
  apart = λ name other l. numbers_apart lines 0 l name other;
}
