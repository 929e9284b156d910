-- What the walk accepts is within the limits, and its faults are its own.
use Rattle.std.proofs.Common.{◌≡◌, ◌≢◌, ℕ, ◌<◌, ◌≤◌, false, nat_le, nat_lt, sum_by, List, [], ◌∷◌, ◌++◌, length, map}
use Rattle.std.proofs.Common.{bytes_eq, All, Option, Some, None, IfErr, ok_or, Ok, Err, ◌↔◌, refl, sym}
use Rattle.std.proofs.Common.{ap, subst, ◌∙◌, arith}
use Rattle.std.specs.List.{list_any}
use Rattle.std.specs.Cmp.Lexicographic.{nat_list_eq_equiv}
use Rattle.std.proofs.lemmas.Bool.{leb-false, ltb-false, or_parts, or_from, false≢true}
use Rattle.std.proofs.lemmas.List.{length-append, map-append, append-nil}
use Rattle.std.proofs.lemmas.List.Elements.{All-push, All-nil}
use Rattle.std.proofs.lemmas.List.Concat.{flat_map-append}
use Rattle.std.proofs.lemmas.Result.{MatchResult-at_err}
use Rattle.toml.specs.Data.{Data, Items, no_items, item, Members, as_array}
use Rattle.toml.specs.Parse.{parse_document}
use Rattle.njh_table.specs.declared.fault.TableFault.{TableFault}
use Rattle.njh_table.specs.declared.fault.TableFault.TheVariants.{TooMany, MissingKey, BadToml, BadValue, QuotaOver}
use Rattle.njh_table.specs.declared.fault.TableFault.TheVariants.{Memory}
use Rattle.njh_table.specs.declared.places.Key.TheVariants as named
use Rattle.njh_table.specs.declared.places.Part.{Part}
use Rattle.njh_table.specs.declared.places.Part.TheVariants as parts
use Rattle.njh_table.specs.Limits.{max_customers, max_lines, max_capacity, max_quota, max_files}
use Rattle.njh_table.specs.Accepted.{IsBetween, AreDistinct, IsLine, IsRoute, IsCustomer, IsAccepted}
use Rattle.njh_table.specs.TableFile.{NamedCustomer, TableFile, line_names}
use Rattle.njh_table.specs.Keys.{Placed, ◌>>=◌, without_place, number, node_name}
use Rattle.njh_table.specs.Places.{at_part, at_value}
use Rattle.njh_table.specs.Walk.{Walks, lines_onto, line_number, routes_onto, CustomerKeys, customer_keys}
use Rattle.njh_table.specs.Walk.{next_customer, customers_onto, is_empty, walk_in, walk_of, tables_in, tables_of}
use Rattle.njh_table.proofs.Gives.{Gives, IsOfWalk, given, and_then, past, with_keys, with_value, with_any, with_any_or}
use Rattle.njh_table.proofs.Gives.{number-is}
use Rattle.njh_table.proofs.Distinct.{distinct_push}
use Rattle.njh_table.proofs.WalkedLines.{AreLines, lines_onto-gives}
use Rattle.njh_table.proofs.WalkedRoutes.{AreRoutes, routes_onto-gives, line_number-finds}

pub record AreCustomers (customers : List NamedCustomer) : Type 0 where
  pub count : length customers ≤ max_customers
  pub names : AreDistinct (map (λ c. c.name) customers)
  pub each : All IsCustomer customers
  pub lines : length (line_names customers) ≤ max_lines
  pub line_names : AreDistinct (line_names customers)

pub record IsNewCustomer (done : List NamedCustomer) (c : NamedCustomer) : Type 0 where
  pub room : length done < max_customers
  pub absent : list_any (λ d. bytes_eq d.name c.name) done ≡ false
  pub is : IsCustomer c
  pub lines : AreLines (line_names done) c.lines

-- what holds of a customer's own keys
pub record AreKeys (done : List NamedCustomer) (own : CustomerKeys) : Type 0 where
  pub absent : list_any (λ d. bytes_eq d.name own.name) done ≡ false
  pub quota : IsBetween 1 max_quota own.quota
  pub files : IsBetween 1 max_files own.files

customer_keys-gives : (part : Part) (done : List NamedCustomer) (keys : Members)
    → Gives (AreKeys done) (customer_keys part done keys)
unfolding customer_keys
customer_keys-gives part done keys =
    with_any _ node_name part named.Name keys _ (λ name.
    past _ (list_any (λ c. bytes_eq c.name name) done) (at_value part named.Name BadValue) _ tt (λ absent.
    with_any _ node_name part named.Hub keys _ (λ hub.
    with_value (IsBetween 1 max_quota) _ (number 1 max_quota) part named.Quota keys _ (number-is 1 max_quota)
    (λ quota in_quota.
    with_value (IsBetween 1 max_files) _ (number 1 max_files) part named.Files keys _ (number-is 1 max_files)
    (λ files in_files.
    record { absent = absent; quota = in_quota; files = in_files })))))

next_customer-gives : (done : List NamedCustomer) (value : Data) → AreCustomers done
    → Gives (IsNewCustomer done) (next_customer done value)
unfolding next_customer
next_customer-gives done value customers =
    let part = parts.Customer (length done) in
    past _ (nat_le max_customers (length done)) (at_part part TooMany) _ tt (λ room.
    with_keys _ part value _ (λ keys.
    and_then (AreKeys done) _ (customer_keys part done keys) _ (customer_keys-gives part done keys) (λ own are_keys.
    with_any_or _ as_array no_items part named.Line keys _ (λ line_values.
    with_any_or _ as_array no_items part named.Route keys _ (λ route_values.
    and_then (AreLines (line_names done)) _ (lines_onto (length done) (line_names done) [] line_values) _
    (lines_onto-gives (length done) (line_names done) [] line_values (none_yet done customers)) (λ lines are_lines.
    and_then (AreRoutes own.hub (length lines)) _
    (routes_onto (length done) own.hub (line_number lines) [] route_values) _
    (routes_onto-gives (length done) own.hub (length lines) (line_number lines) [] route_values
    (line_number-finds lines)
    (no_routes own.hub (length lines)))
    (λ routes are_routes.
    record {
      room = leb-false max_customers (length done) room;
      absent = are_keys.absent;
      lines = are_lines;
      is = record {
        quota = are_keys.quota;
        files = are_keys.files;
        lines = are_lines.each;
        routes = are_routes.count;
        each_route = are_routes.each;
        nodes = are_routes.nodes;
      };
    })))))))
  where
    none_yet : (done : List NamedCustomer) → AreCustomers done → AreLines (line_names done) []
    none_yet done customers = record {
      each = All-nil IsLine;
      count = simp append-nil customers.lines;
      distinct = subst AreDistinct (sym (append-nil (line_names done))) customers.line_names;
    }

    no_routes : (hub : List ℕ) (lines : ℕ) → AreRoutes hub lines []
    no_routes hub lines =
        record {
          count = omega arith;
          each = All-nil (IsRoute lines);
          nodes = λ i j d below within. absurd
              (omega arith);
        }

line_names-push : (done : List NamedCustomer) (c : NamedCustomer) → line_names (done ++ c ∷ [])
    ≡ line_names done ++ map (λ l. l.name) c.lines
line_names-push done c = flat_map-append _ done (c ∷ [])
    ∙ ap (λ names. line_names done ++ names) (append-nil (map (λ l. l.name) c.lines))

-- a customer's name that none of those done has
new_name : (done : List NamedCustomer) (name : List ℕ) → list_any (λ d. bytes_eq d.name name) done ≡ false
    → list_any (bytes_eq name) (map (λ c. c.name) done) ≡ false
new_name [] name absent = refl
new_name (c ∷ done) name absent =
    let (here, rest) = or_parts _ _ absent in
    or_from _ _ (nat_list_eq_equiv.symm name c.name ∙ here) (new_name done name rest)

AreCustomers-push : (done : List NamedCustomer) (c : NamedCustomer) → AreCustomers done → IsNewCustomer done c
    → AreCustomers (done ++ c ∷ [])
AreCustomers-push done c customers new =
    let names = line_names-push done c in
    record {
      count = simp length-append (omega (arith, new.room));
      names = subst AreDistinct (sym (map-append (λ (c : NamedCustomer). c.name) done (c ∷ [])))
          (distinct_push (map (λ c. c.name) done) c.name customers.names (new_name done c.name new.absent));
      each = All-push IsCustomer done c customers.each new.is;
      lines = subst (λ ns. length ns ≤ max_lines) (sym names) new.lines.count;
      line_names = subst AreDistinct (sym names) new.lines.distinct;
    }

-- the customers after those done, of which there are no fewer
pub record AreAtLeast (least : ℕ) (customers : List NamedCustomer) : Type 0 where
  pub are : AreCustomers customers
  pub count : least ≤ length customers

pub customers_onto-gives : (least : ℕ) (done : List NamedCustomer) (values : Items) → AreAtLeast least done
    → Gives (AreAtLeast least) (customers_onto done values)
customers_onto-gives least done no_items customers = customers
customers_onto-gives least done (item value more) customers =
    and_then (IsNewCustomer done) (AreAtLeast least) (next_customer done value) _
    (next_customer-gives done value customers.are)
    (λ c new. customers_onto-gives least (done ++ c ∷ []) more
    (record {
      are = AreCustomers-push done c customers.are new;
      count = simp length-append
          (omega (arith, customers.count));
    }))

no_customers : AreCustomers []
no_customers = record {
  count = omega arith;
  names = λ i j d below within. absurd (omega arith);
  each = All-nil IsCustomer;
  lines = omega arith;
  line_names = λ i j d below within. absurd (omega arith);
}

some_customers : (values : Items) → is_empty values ≡ false → Gives (AreAtLeast 1) (customers_onto [] values)
some_customers no_items some = absurd (false≢true (sym some))
some_customers (item value more) some =
    and_then (IsNewCustomer []) (AreAtLeast 1) (next_customer [] value) _ (next_customer-gives [] value no_customers)
    (λ c new. customers_onto-gives 1 (c ∷ []) more
    (record { are = AreCustomers-push [] c no_customers new; count = omega arith }))

-- ---- the whole file

pub walk_in-gives : (keys : Members) → Gives IsAccepted (walk_in keys)
unfolding walk_in
walk_in-gives keys =
    with_value (IsBetween 1 max_capacity) _ (number 1 max_capacity) parts.File named.Capacity keys _
    (number-is 1 max_capacity)
    (λ capacity in_capacity.
    with_any _ as_array parts.File named.Customer keys _ (λ values.
    past _ (is_empty values) (at_value parts.File named.Customer MissingKey) _ tt (λ some.
    and_then (AreAtLeast 1) _ (customers_onto [] values) _ (some_customers values some) (λ customers accepted.
    past _ (nat_lt capacity (sum_by (λ c. c.quota) customers)) (at_value parts.File named.Capacity QuotaOver) _ tt
    (λ within.
    record {
      capacity = in_capacity;
      customers = (accepted.count, accepted.are.count);
      names = accepted.are.names;
      each = accepted.are.each;
      lines = accepted.are.lines;
      line_names = accepted.are.line_names;
      quotas = ltb-false capacity (sum_by (λ c. c.quota) customers) within;
    })))))

-- the walk never blames the text as no TOML
pub not_toml : (fault : TableFault) → IsOfWalk fault → fault ≢ BadToml
not_toml fault of_walk same = subst IsOfWalk same of_walk

pub told_of_toml : {A : Type 0} (result : Placed A) (seen : A → TableFile) (text : List ℕ) (keys : Members)
    → parse_document text ≡ Some keys → Walks seen result (walk_in keys)
    → IfErr result (λ placed. placed.fault ≢ Memory → (placed.fault ≡ BadToml) ↔ (parse_document text ≡ None))
told_of_toml (Ok x) seen text keys is_toml walks = tt
told_of_toml (Err placed) seen text keys is_toml walks = λ no_memory.
    let of_walk = MatchResult-at_err IsAccepted (λ p. IsOfWalk p.fault) placed (walks no_memory) (walk_in-gives keys) in
    (λ bad. absurd (not_toml placed.fault of_walk bad), λ none. cc)

-- the walk never blames want of memory
pub not_memory : (fault : TableFault) → IsOfWalk fault → fault ≢ Memory
not_memory fault of_walk same = subst IsOfWalk same of_walk

-- the place doesn't matter to what is accepted
placed_ok : {A : Type 0} (w : Placed A) (x : A) → without_place w ≡ Ok x → w ≡ Ok x
placed_ok (Ok y) x told = ap Ok (cc told)
placed_ok (Err placed) x told = absurd (cc told)

of_walk : {A : Type 0} (P : A → Type 0) (w : Placed A) (fault : TableFault) → Gives P w → without_place w ≡ Err fault
    → IsOfWalk fault
of_walk P (Ok x) fault gives told = absurd (cc told)
of_walk P (Err placed) fault gives told = subst IsOfWalk (cc told) gives

pub refused : (keys : Members) (fault : TableFault) → tables_in keys ≡ Err fault → (fault ≢ BadToml) × (fault ≢ Memory)
refused keys fault told =
    let its_own = of_walk IsAccepted (walk_in keys) fault (walk_in-gives keys) told in
    (not_toml fault its_own, not_memory fault its_own)

pub accepted : (text : List ℕ) (t : TableFile) → tables_of text ≡ Ok t → IsAccepted t
accepted text t told = by (parse_document text) (placed_ok (walk_of text) t told)
  where
    by : (found : Option Members) → (ok_or found (at_part parts.File BadToml) >>= walk_in) ≡ Ok t → IsAccepted t
    by None told = absurd (cc)
    by (Some keys) told = given IsAccepted (walk_in keys) t told (walk_in-gives keys)
