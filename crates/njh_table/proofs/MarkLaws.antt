-- The marks of lines: the tables with others are accepted as before, and of an entry the marks alone are changed.
use Rattle.std.proofs.Common.{◌≡◌, ◌≢◌, ℕ, ◌<◌, ◌≤◌, Bool, false, length, map, get_or, set, All, ap, refl, subst, sym}
use Rattle.std.proofs.Common.{◌∙◌, ⊎_elim, arith}
use Rattle.std.proofs.lemmas.Bool.{cases_lt}
use Rattle.std.proofs.lemmas.List.{get_or_past, get_or-map, get_or-set_other, get_or-set_same, length-map, length-set}
use Rattle.std.proofs.lemmas.List.{map-set}
use Rattle.std.proofs.lemmas.List.Elements.{All-get_or, All-map, All-set, All-weaker}
use Rattle.std.proofs.lemmas.List.Folds.{flat_map-map}
use Rattle.std.proofs.lemmas.Simd.{map-map}
use Rattle.std.specs.List.{flat_map}
use Rattle.njh_table.specs.declared.LineId.{LineId}
use Rattle.njh_table.specs.Accepted.{IsLine, IsRoute, IsCustomer, IsAccepted}
use Rattle.njh_table.specs.Marks.{line_marked, customer_marked, with_mark, customer_unmarked, without_marks}
use Rattle.njh_table.specs.Marks.{entry_marked, entry_unmarked}
use Rattle.njh_table.specs.TableFile.{NamedLine, NamedCustomer, TableFile, customer_at, entry_of, no_customer, no_line}
use Rattle.njh_table.specs.TableFile.{owners_from, HasLine}
use Rattle.njh_table.proofs.Replaced.{accepted_again, reads_alike, same_line_names, same_owners, same_owners_of_all}

-- ---- one mark

-- a line stands with a customer that is there
pub customer_there : (t : TableFile) (id : LineId) → HasLine t id → id.customer < length t.customers
customer_there t id has =
    ⊎_elim (λ (w : id.customer < length t.customers). w)
    (λ (w : length t.customers ≤ id.customer). absurd (omega (
      arith,
      has,
      ap (λ (c : NamedCustomer). length c.lines) (get_or_past t.customers id.customer no_customer w),
    )))
    (cases_lt id.customer (length t.customers))

still_line : (up : Bool) (l : NamedLine) → IsLine l → IsLine (line_marked up l)
still_line up l is = record {
  name = is.name;
  block = is.block;
  streams = is.streams;
  port = is.port;
  peer = is.peer;
  from = is.from;
  few = is.few;
  ranges = is.ranges;
  answers = is.answers;
  calls = is.calls;
}

marked_names : (line : ℕ) (up : Bool) (c : NamedCustomer)
    → map (λ l. l.name) (customer_marked line up c).lines ≡ map (λ l. l.name) c.lines
marked_names line up c = reads_alike (λ (l : NamedLine). l.name) c.lines line
    (line_marked up (get_or c.lines line no_line)) no_line refl

marked_is : (line : ℕ) (up : Bool) (c : NamedCustomer) → line < length c.lines → IsCustomer c
    → IsCustomer (customer_marked line up c)
marked_is line up c there is =
    let l = get_or c.lines line no_line in
    record {
      quota = is.quota;
      files = is.files;
      lines = All-set IsLine c.lines line (line_marked up l)
          (still_line up l (All-get_or IsLine c.lines line no_line there is.lines)) is.lines;
      routes = is.routes;
      each_route = subst (λ n. All (IsRoute n) c.routes) (sym (length-set c.lines line (line_marked up l)))
          is.each_route;
      nodes = is.nodes;
    }

pub marked_accepted : (t : TableFile) (id : LineId) (up : Bool) → HasLine t id → IsAccepted t
    → IsAccepted (with_mark id up t)
marked_accepted t id up has was =
    let there = customer_there t id has in
    let old = customer_at t id.customer in
    let new = customer_marked id.number up old in
    accepted_again t (set t.customers id.customer new)
    (reads_alike (λ (c : NamedCustomer). c.name) t.customers id.customer new no_customer refl)
    (reads_alike (λ (c : NamedCustomer). c.quota) t.customers id.customer new no_customer refl)
    (same_line_names t.customers id.customer new (marked_names id.number up old))
    (All-set IsCustomer t.customers id.customer new
    (marked_is id.number up old has (All-get_or IsCustomer t.customers id.customer no_customer there was.each))
    was.each)
    was

pub marked_owners : (t : TableFile) (id : LineId) (up : Bool)
    → owners_from 0 (set t.customers id.customer (customer_marked id.number up (customer_at t id.customer)))
    ≡ owners_from 0 t.customers
marked_owners t id up =
    same_owners 0 t.customers id.customer (customer_marked id.number up (customer_at t id.customer))
    (marked_names id.number up (customer_at t id.customer))

-- ---- no mark

unmarked_names : (c : NamedCustomer) → map (λ l. l.name) (customer_unmarked c).lines ≡ map (λ l. l.name) c.lines
unmarked_names c = map-map (λ (l : NamedLine). l.name) (line_marked false) c.lines

unmarked_is : (c : NamedCustomer) → IsCustomer c → IsCustomer (customer_unmarked c)
unmarked_is c is = record {
  quota = is.quota;
  files = is.files;
  lines = All-map IsLine (line_marked false) c.lines
      (All-weaker IsLine (λ l. IsLine (line_marked false l)) (still_line false) c.lines is.lines);
  routes = is.routes;
  each_route = subst (λ n. All (IsRoute n) c.routes) (sym (length-map c.lines (line_marked false))) is.each_route;
  nodes = is.nodes;
}

pub unmarked_accepted : (t : TableFile) → IsAccepted t → IsAccepted (without_marks t)
unmarked_accepted t was =
    accepted_again t (map customer_unmarked t.customers)
    (map-map (λ (c : NamedCustomer). c.name) customer_unmarked t.customers)
    (map-map (λ (c : NamedCustomer). c.quota) customer_unmarked t.customers)
    (flat_map-map (λ (c : NamedCustomer). map (λ l. l.name) c.lines) customer_unmarked t.customers
    ∙ (λ i. flat_map (λ (c : NamedCustomer). unmarked_names c i) t.customers))
    (All-map IsCustomer customer_unmarked t.customers
    (All-weaker IsCustomer (λ c. IsCustomer (customer_unmarked c)) unmarked_is t.customers was.each))
    was

pub unmarked_owners : (t : TableFile) → owners_from 0 (map customer_unmarked t.customers) ≡ owners_from 0 t.customers
unmarked_owners t = same_owners_of_all customer_unmarked unmarked_names 0 t.customers

-- ---- of an entry

entry-marked : (line : ℕ) (up : Bool) (c : NamedCustomer)
    → entry_of (customer_marked line up c) ≡ entry_marked line up (entry_of c)
entry-marked line up c =
    let l = line_marked up (get_or c.lines line no_line) in
    let lines = reads_alike (λ (l : NamedLine). l.entry) c.lines line l no_line refl in
    let marks = map-set (λ (l : NamedLine). l.up) c.lines line l in
    λ i. record { hub = c.hub; quota = c.quota; files = c.files; lines = lines i; up = marks i; routes = c.routes }

pub own_entry-marked : (t : TableFile) (id : LineId) (up : Bool) → id.customer < length t.customers
    → entry_of (customer_at (with_mark id up t) id.customer) ≡ entry_marked id.number up
    (entry_of (customer_at t id.customer))
own_entry-marked t id up there =
    let old = customer_at t id.customer in
    ap entry_of (get_or-set_same t.customers id.customer (customer_marked id.number up old) no_customer there)
    ∙ entry-marked id.number up old

pub others-marked : (t : TableFile) (id : LineId) (up : Bool) (c : ℕ) → c ≢ id.customer
    → customer_at (with_mark id up t) c ≡ customer_at t c
others-marked t id up c apart =
    get_or-set_other t.customers id.customer c (customer_marked id.number up (customer_at t id.customer)) no_customer
    apart

entry-unmarked : (c : NamedCustomer) → entry_of (customer_unmarked c) ≡ entry_unmarked (entry_of c)
entry-unmarked c =
    let lines = map-map (λ (l : NamedLine). l.entry) (line_marked false) c.lines in
    let marks = map-map (λ (l : NamedLine). l.up) (line_marked false) c.lines
    ∙ sym (map-map (λ _. false) (λ (l : NamedLine). l.entry) c.lines) in
    λ i. record { hub = c.hub; quota = c.quota; files = c.files; lines = lines i; up = marks i; routes = c.routes }

pub each_entry-unmarked : (t : TableFile) (c : ℕ) → c < length t.customers
    → entry_of (customer_at (without_marks t) c) ≡ entry_unmarked (entry_of (customer_at t c))
each_entry-unmarked t c there =
    ap entry_of (get_or-map customer_unmarked t.customers c no_customer no_customer there)
    ∙ entry-unmarked (customer_at t c)
