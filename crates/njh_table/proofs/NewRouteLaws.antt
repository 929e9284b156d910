-- New routes that are checked: their nodes differ, their lines are the customer's, and the tables stay accepted.
use Rattle.std.proofs.Common.{◌≡◌, ◌≢◌, ℕ, suc, ◌<◌, ◌≤◌, Bool, true, false, cond, not, ◌==◌, nat_lt, List, []}
use Rattle.std.proofs.Common.{◌∷◌, ◌++◌, length, map, take, get_or, set, bytes_eq, All, IfSome, Option, Some, None}
use Rattle.std.proofs.Common.{option_map, Ok, Err, refl, sym, ap, subst, ◌∙◌, arith, append_assoc}
use Rattle.std.specs.List.{list_any}
use Rattle.std.proofs.lemmas.Bool.{and_from, both_ways, eq-eqb, eqb-true, ltb-true, ltb-false}
use Rattle.std.proofs.lemmas.List.{length-map, length-take-le, append-nil, get_or-map, get_or-take}
use Rattle.std.proofs.lemmas.List.Elements.{All-set, All-nil, All-cons, All-get_or}
use Rattle.std.proofs.lemmas.Simd.{map-map}
use Rattle.std.proofs.lemmas.Slice.Eq.{bytes_eq-Decides}
use Rattle.njh_table.specs.declared.LineId.{LineId}
use Rattle.njh_table.specs.declared.new_routes.GivenRoute.{GivenRoute}
use Rattle.njh_table.specs.declared.fault.TableFault.{TableFault}
use Rattle.njh_table.specs.declared.fault.TableFault.TheVariants.{BadValue, DoubleNode, UnknownLine, TooMany}
use Rattle.njh_table.specs.Limits.{max_routes}
use Rattle.njh_table.specs.Accepted.{AreDistinct, IsRoute, IsCustomer, IsAccepted}
use Rattle.njh_table.specs.Entries.{RouteEntry, lines_to}
use Rattle.njh_table.specs.Keys.{Walked, ◌>>◌, fault_where}
use Rattle.njh_table.specs.NewRoutes.{NewRoute, Again, own_number, own_or_foreign, own_second, own_route}
use Rattle.njh_table.specs.NewRoutes.{new_routes_of, repeats, is_again, is_own, may_be_second, route_checked}
use Rattle.njh_table.specs.NewRoutes.{checked_from, routes_checked, given_lines, number_or, taken_second, taken_route}
use Rattle.njh_table.specs.NewRoutes.{entries_of_routes, with_routes}
use Rattle.njh_table.specs.TableFile.{NamedCustomer, TableFile, customer_at, entry_of, no_customer, route_entry}
use Rattle.njh_table.proofs.Distinct.{distinct_push}
use Rattle.njh_table.proofs.Replaced.{accepted_again, reads_alike, same_line_names}
use Rattle.njh_table.proofs.RouteLaws.{lines_to-cons}

-- the node and the numbers of the lines, whoever's they are
abbrev pub as_given : GivenRoute → RouteEntry
as_given r = route_entry (r.node, given_lines r)

-- ---- what was passed

-- a test that gave no fault, and what follows
passed : {B : Type 0} (test : Bool) (fault : TableFault) (next : Walked B) (x : B)
    → (fault_where test fault >> next) ≡ Ok x
    → (test ≡ false) × (next ≡ Ok x)
passed true fault next x e = absurd (cc e)
passed false fault next x e = (refl, e)

passed_last : (test : Bool) (fault : TableFault) → fault_where test fault ≡ Ok tt → test ≡ false
passed_last true fault e = absurd (cc e)
passed_last false fault e = refl

both_ok : {B : Type 0} (first : Walked (Unit {0})) (next : Walked B) (x : B) → (first >> next) ≡ Ok x
    → (first ≡ Ok tt) × (next ≡ Ok x)
both_ok (Ok tt) next x e = (refl, e)
both_ok (Err fault) next x e = absurd (cc e)

not_false : (b : Bool) → not b ≡ false → b ≡ true
not_false true e = refl
not_false false e = absurd (cc e)

-- A route that was passed.
record IsNew (lines : ℕ) (taken : List (List ℕ)) (r : NewRoute) : Type 0 where
  pub once : is_again r.second ≡ false
  pub absent : list_any (bytes_eq r.node) taken ≡ false
  pub own : is_own lines r.line ≡ true
  pub second : may_be_second lines r.second ≡ true

checked-is : (lines : ℕ) (taken : List (List ℕ)) (r : NewRoute) → route_checked lines taken r ≡ Ok tt
    → IsNew lines taken r
unfolding route_checked
checked-is lines taken r e =
    let (once, first) = passed (is_again r.second) BadValue _ tt e in
    let (absent, then) = passed (list_any (bytes_eq r.node) taken) DoubleNode _ tt first in
    let (own, last) = passed (not (is_own lines r.line)) UnknownLine _ tt then in
    record {
      once = once;
      absent = absent;
      own = not_false _ own;
      second = not_false _
          (passed_last _ UnknownLine last);
    }

-- the nodes that are taken, and those of the routes
pub distinct : (lines : ℕ) (taken : List (List ℕ)) (routes : List NewRoute) → AreDistinct taken
    → checked_from lines taken routes ≡ Ok tt
    → AreDistinct (taken ++ map (λ r. r.node) routes)
distinct lines taken [] were e = subst AreDistinct (sym (append-nil taken)) were
distinct lines taken (r ∷ routes) were e =
    let (this, rest) = both_ok (route_checked lines taken r) _ tt e in
    let is = checked-is lines taken r this in
    subst AreDistinct (append_assoc taken (r.node ∷ []) (map (λ r. r.node) routes))
    (distinct lines (taken ++ r.node ∷ []) routes (distinct_push taken r.node were is.absent) rest)

-- ---- the lines of routes

-- a line of the customer's own
record IsMine (lines c : ℕ) (id : LineId) : Type 0 where
  pub customer : id.customer ≡ c
  pub below : id.number < lines
  pub number : own_number c id ≡ Some id.number

mine : (lines c : ℕ) (id : LineId) → is_own lines (own_number c id) ≡ true → IsMine lines c id
mine lines c id = by (id.customer == c) refl
  where
    by : (b : Bool) → (id.customer == c) ≡ b → is_own lines (cond b (Some id.number) None) ≡ true → IsMine lines c id
    by true same below = record {
      customer = eqb-true id.customer c same;
      below = ltb-true id.number lines below;
      number = ap (λ b. cond b (Some id.number) None) same;
    }
    by false other below = absurd (cc below)

-- what is taken of a second line that was passed: another line of the customer's
second-taken : (lines c : ℕ) (id : LineId) (second : Option LineId) → IsMine lines c id
    → is_again (own_second c id second) ≡ false
    → may_be_second lines (own_second c id second) ≡ true
    → (taken_second (own_second c id second) ≡ option_map (λ l. l.number) second)
    × IfSome (option_map (λ l. l.number) second) (λ n. (n < lines) × (n ≢ id.number))
second-taken lines c id None first once may = (refl, tt)
second-taken lines c id (Some second) first once may =
    by (repeats id (Some second)) refl (own_number c second) refl once may
  where
    apart : IsMine lines c second → repeats id (Some second) ≡ false → second.number ≢ id.number
    apart own other same =
        both_ways (repeats id (Some second)) other
        (and_from _ _ (eq-eqb id.customer second.customer (first.customer ∙ sym own.customer))
        (eq-eqb id.number second.number (sym same)))

    told : (n : Option ℕ) → own_number c second ≡ n → repeats id (Some second) ≡ false
        → may_be_second lines (own_or_foreign n) ≡ true
        → (taken_second (own_or_foreign n) ≡ Some second.number)
        × ((second.number < lines) × (second.number ≢ id.number))
    told None is other may = absurd (cc may)
    told (Some n) is other may =
        let own = mine lines c second (ap (is_own lines) is ∙ may) in
        (ap (λ o. taken_second (own_or_foreign o)) (sym is ∙ own.number), (own.below, apart own other))

    by : (same : Bool) → repeats id (Some second) ≡ same → (n : Option ℕ) → own_number c second ≡ n
        → is_again (cond same Again (own_or_foreign n)) ≡ false
        → may_be_second lines (cond same Again (own_or_foreign n)) ≡ true
        → (taken_second (cond same Again (own_or_foreign n)) ≡ Some second.number)
        × ((second.number < lines) × (second.number ≢ id.number))
    by true same n is once may = absurd (cc once)
    by false other n is once may = told n is other may

-- what is taken of routes of lines that are all the customer's
pub taken-given : (lines c : ℕ) (taken : List (List ℕ)) (routes : List GivenRoute)
    → checked_from lines taken (new_routes_of c routes) ≡ Ok tt
    → (entries_of_routes (new_routes_of c routes) ≡ map as_given routes) × All (IsRoute lines) (map as_given routes)
taken-given lines c taken [] e = (refl, All-nil (IsRoute lines))
taken-given lines c taken (r ∷ routes) e =
    let (this, rest) = both_ok (route_checked lines taken (own_route c r)) _ tt e in
    let (same, each) = taken-given lines c (taken ++ r.node ∷ []) routes rest in
    let is = checked-is lines taken (own_route c r) this in
    let own = mine lines c r.line is.own in
    let (second, apart) = second-taken lines c r.line r.second own is.once is.second in
    let line = ap number_or own.number in (
      λ i. record { node = r.node; line = line i; second = second i } ∷ same i,
      All-cons (IsRoute lines) (as_given r) (map as_given routes) (record { line = own.below; second = apart }) each,
    )

-- ---- the nodes of routes

-- a node that none of them has
unrouted : (routes : List GivenRoute) (node : List ℕ)
    → ((k : ℕ) (d : GivenRoute) → k < length routes → (get_or routes k d).node ≢ node)
    → lines_to (map as_given routes) node ≡ None
unrouted [] node differ = refl
unrouted (r ∷ routes) node differ =
    lines_to-cons (as_given r) (map as_given routes) node
    ∙ by (bytes_eq r.node node) refl (unrouted routes node (λ k d below. differ (suc k) d (omega (arith, below))))
  where
    by : (b : Bool) → bytes_eq r.node node ≡ b → lines_to (map as_given routes) node ≡ None
        → cond b (Some (given_lines r)) (lines_to (map as_given routes) node) ≡ None
    by true same rest = absurd (differ 0 r (omega arith) ((bytes_eq-Decides r.node node).0 same))
    by false other rest = rest

-- those before one of them have another node
pub unrouted_before : (routes : List GivenRoute) (i : ℕ) (r : GivenRoute) → AreDistinct (map (λ r. r.node) routes)
    → i < length routes
    → r ≡ get_or routes i r → lines_to (map as_given (take i routes)) r.node ≡ None
unrouted_before routes i r differ within here = unrouted (take i routes) r.node other
  where
    nodes : (k : ℕ) (d : GivenRoute) → k < length routes
        → get_or (map (λ (r : GivenRoute). r.node) routes) k r.node ≡ (get_or routes k d).node
    nodes k d below = get_or-map (λ (r : GivenRoute). r.node) routes k d r.node below

    other : (k : ℕ) (d : GivenRoute) → k < length (take i routes) → (get_or (take i routes) k d).node ≢ r.node
    other k d below same =
        let long : length (take i routes) ≡ i = length-take-le i routes (omega (arith, within)) in
        let before : k < i = omega (arith, below, long) in
        differ k i r.node before (omega (arith, within, length-map routes (λ (r : GivenRoute). r.node)))
        (nodes k d (omega (arith, before, within))
        ∙ ap (λ (x : GivenRoute). x.node) (sym (get_or-take i routes k d before)) ∙ same
        ∙ ap (λ (x : GivenRoute). x.node) here ∙ sym (nodes i r within))

-- one node
alone : (hub : List ℕ) → AreDistinct (hub ∷ [])
alone hub = λ i j d below within. absurd (omega (arith, below, within))

-- the nodes of routes that were checked differ from each other
pub checked-distinct : (t : TableFile) (c : ℕ) (routes : List GivenRoute)
    → routes_checked (entry_of (customer_at t c)) (new_routes_of c routes) ≡ Ok tt
    → AreDistinct (map (λ r. r.node) routes)
checked-distinct t c routes e =
    let entry = entry_of (customer_at t c) in
    let (few, rest) = passed (nat_lt max_routes (length (new_routes_of c routes))) TooMany _ tt e in
    let nodes : AreDistinct (entry.hub ∷ map (λ r. r.node) (new_routes_of c routes)) =
    distinct (length entry.lines) (entry.hub ∷ []) (new_routes_of c routes) (alone entry.hub) rest in
    let given = subst (λ ns. AreDistinct (entry.hub ∷ ns)) (map-map (λ (r : NewRoute). r.node) (own_route c) routes)
    nodes in
    λ i j d below within. given (suc i) (suc j) d (omega (arith, below)) (omega (arith, within))

pub checked-given : (t : TableFile) (c : ℕ) (routes : List GivenRoute)
    → routes_checked (entry_of (customer_at t c)) (new_routes_of c routes) ≡ Ok tt
    → (entries_of_routes (new_routes_of c routes) ≡ map as_given routes)
    × All (IsRoute (length (entry_of (customer_at t c)).lines)) (map as_given routes)
checked-given t c routes e =
    let entry = entry_of (customer_at t c) in
    taken-given (length entry.lines) c (entry.hub ∷ []) routes
    (passed (nat_lt max_routes (length (new_routes_of c routes))) TooMany _ tt e).1

-- ---- the tables with them

entry_lines : (c : NamedCustomer) → length (entry_of c).lines ≡ length c.lines
entry_lines c = length-map c.lines (λ l. l.entry)

with_routes-is : (t : TableFile) (c : ℕ) (routes : List GivenRoute) → IsCustomer (customer_at t c)
    → routes_checked (entry_of (customer_at t c)) (new_routes_of c routes) ≡ Ok tt
    → IsCustomer (record (customer_at t c) { routes = entries_of_routes (new_routes_of c routes) })
with_routes-is t c given was e =
    let customer = customer_at t c in
    let routes = new_routes_of c given in
    let (few, rest) = passed (nat_lt max_routes (length routes)) TooMany _ tt e in
    let (same, each) = checked-given t c given e in
    record {
      quota = was.quota;
      files = was.files;
      lines = was.lines;
      routes = subst (λ n. n ≤ max_routes) (sym (length-map routes taken_route))
          (ltb-false max_routes (length routes) few);
      each_route = subst (λ rs. All (IsRoute (length customer.lines)) rs) (sym same)
          (subst (λ n. All (IsRoute n) (map as_given given)) (entry_lines customer) each);
      nodes = subst (λ ns. AreDistinct (customer.hub ∷ ns))
          (sym (map-map (λ (r : RouteEntry). r.node) taken_route routes))
          (distinct (length (entry_of customer).lines) (customer.hub ∷ []) routes (alone customer.hub) rest);
    }

pub still_accepted : (t : TableFile) (c : ℕ) (routes : List GivenRoute) → IsAccepted t → c < length t.customers
    → routes_checked (entry_of (customer_at t c)) (new_routes_of c routes) ≡ Ok tt
    → IsAccepted (with_routes c (new_routes_of c routes) t)
still_accepted t c routes accepted there e =
    let was : IsCustomer (customer_at t c) = All-get_or IsCustomer t.customers c no_customer there accepted.each in
    let now : NamedCustomer = record (customer_at t c) { routes = entries_of_routes (new_routes_of c routes) } in
    accepted_again t (set t.customers c now)
    (reads_alike (λ (c : NamedCustomer). c.name) t.customers c now no_customer refl)
    (reads_alike (λ (c : NamedCustomer). c.quota) t.customers c now no_customer refl)
    (same_line_names t.customers c now refl)
    (All-set IsCustomer t.customers c now (with_routes-is t c routes was e) accepted.each)
    accepted
