-- Lines that are called, those that are woken, and until when the attendant waits.
use Rattle.std.proofs.Common.{◌≡◌, ◌≢◌, ℕ, ◌<◌, ◌≤◌, ◌⊎◌, List, length, set, get_or, min, refl, sym, ap, ◌∙◌, arith}
use Rattle.std.proofs.Common.{subst, ⊎_elim, inl, inr, Some}
use Rattle.std.specs.Prelude.{◌+◌, ◌&&◌, slice_get, IsTrue}
use Rattle.std.proofs.lemmas.Bool.{cases_eq, cases_lt}
use Rattle.std.proofs.lemmas.List.{get_or-set_same, get_or-set_other, get_or_read}
use Rattle.njh_hub.specs.WholeHub.{Part}
use Rattle.njh_sight.specs.Prompting.{may_prompt}
use Rattle.njh_sight.specs.Waking.{is_wanted, look_moment, IsFirstLook}
use Rattle.njh_sight.specs.declared.customers.Row.{Row}
use Rattle.njh_lines.specs.Resting.{AreServedBy, AreWoken, IsCustomersMoment, IsLinesMoment, IsServedBy, WaitsForFirst}
use Rattle.njh_lines.specs.Watching.{IsToBeWoken, Noted, ServedLine, Watched}
use Rattle.njh_lines.specs.declared.attention.Watch.{Watch}
use Rattle.njh_lines.specs.Attention.{at_once, called, watch_at, AreCalled}

-- one line
pub one_called : (now : ℕ) (w : List Watch) (at : ℕ) (was new : Watch) → at < length w → was ≡ get_or w at was
    → new ≡ called now was → AreCalled now w (set w at new)
one_called now w at was new there read is = λ place. ⊎_elim
    (λ (here : place ≡ at).
    let new_is : watch_at (set w at new) place ≡ new =
    ap (λ (k : ℕ). watch_at (set w at new) k) here ∙ get_or-set_same w at new at_once there in
    let was_is : was ≡ watch_at w place =
    get_or_read w at was there read at_once ∙ ap (λ (k : ℕ). watch_at w k) (sym here) in
    inr (new_is ∙ (is ∙ ap (called now) was_is)))
    (λ (other : place ≢ at). inl (get_or-set_other w at place new at_once other))
    (cases_eq place at)

-- and it is looked at at this moment, if not before
pub one_early : (now : ℕ) (w : List Watch) (at : ℕ) (was new : Watch) → at < length w → new ≡ called now was
    → (watch_at (set w at new) at).moment ≤ now
one_early now w at was new there is =
    let moment : (watch_at (set w at new) at).moment ≡ min was.moment now =
    ap (λ (x : Watch). x.moment) (get_or-set_same w at new at_once there ∙ is) in
    omega (arith, moment)

-- what is to be looked at by now still is, once some were woken
pub still_early : (seen : Watched) (parts : List Part) (place : ℕ) (new_w : List Watch) → AreWoken seen parts new_w
    → (watch_at seen.watches place).moment ≤ seen.now → (watch_at new_w place).moment ≤ seen.now
still_early seen parts place new_w woken early = ⊎_elim
    (λ (same : watch_at new_w place ≡ watch_at seen.watches place).
    let is = ap (λ (x : Watch). x.moment) same in omega (arith, is, early))
    (λ (it : (customer : ℕ) × (IsToBeWoken seen place customer parts)
    × (watch_at new_w place ≡ called seen.now (watch_at seen.watches place))).
    let is : (watch_at new_w place).moment ≡ min (watch_at seen.watches place).moment seen.now =
    ap (λ (x : Watch). x.moment) it.2 in
    omega (arith, is))
    (woken place)

-- a line is to be woken by what is seen of it
pub to_be_woken : (a b : Watched) (parts : List Part) (place customer : ℕ) → b.lines ≡ a.lines → b.noted ≡ a.noted
    → b.now ≡ a.now → IsToBeWoken a place customer parts → IsToBeWoken b place customer parts
to_be_woken a b parts place customer lines noted time wanted = record {
  line = wanted.line;
  noted = wanted.noted;
  there = ap (λ (xs : List ServedLine). slice_get xs place) lines ∙ wanted.there;
  known = ap (λ (xs : List Noted). slice_get xs place) noted ∙ wanted.known;
  own = wanted.own;
  may = subst (λ (n : ℕ). IsTrue (wanted.noted.traffic.seen.rests && may_prompt wanted.noted.traffic n)) (sym time)
      wanted.may;
  has = wanted.has;
}

-- and so it is called
pub as_woken : (a b : Watched) (parts : List Part) (place : ℕ) {watch new_watch : Watch} → b.lines ≡ a.lines
    → b.noted ≡ a.noted → b.now ≡ a.now
    → (new_watch ≡ watch) ⊎ ((customer : ℕ) × (IsToBeWoken a place customer parts) × (new_watch ≡ called a.now watch))
    → (new_watch ≡ watch) ⊎ ((customer : ℕ) × (IsToBeWoken b place customer parts) × (new_watch ≡ called b.now watch))
as_woken a b parts place lines noted time (inl same) = inl same
as_woken a b parts place {watch} lines noted time (inr (customer, wanted, is)) = inr (
  customer,
  to_be_woken a b parts place customer lines noted time wanted,
  is ∙ ap (λ (n : ℕ). called n watch) (sym time),
)

pub all_woken : (a b : Watched) (parts : List Part) (new_w : List Watch) → b.lines ≡ a.lines → b.noted ≡ a.noted
    → b.now ≡ a.now → b.watches ≡ a.watches → AreWoken a parts new_w → AreWoken b parts new_w
all_woken a b parts new_w lines noted time watches woken = λ place.
    let On : List Watch → Type 0 = λ w. (watch_at new_w place ≡ watch_at w place)
    ⊎ ((customer : ℕ) × (IsToBeWoken b place customer parts)
    × (watch_at new_w place ≡ called b.now (watch_at w place))) in
    subst On (sym watches) (as_woken a b parts place lines noted time (woken place))

-- none is
pub none_woken : (seen : Watched) (parts : List Part) → AreWoken seen parts seen.watches
none_woken seen parts = λ place. inl refl

-- one is
pub one_woken : (seen : Watched) (parts : List Part) (at customer : ℕ) (new_w : List Watch)
    → IsToBeWoken seen at customer parts → AreCalled seen.now seen.watches new_w
    → ((other : ℕ) → other ≢ at → watch_at new_w other ≡ watch_at seen.watches other) → AreWoken seen parts new_w
one_woken seen parts at customer new_w wanted calls others = λ place. ⊎_elim
    (λ (here : place ≡ at). ⊎_elim
    (λ (same : watch_at new_w place ≡ watch_at seen.watches place). inl same)
    (λ (it : watch_at new_w place ≡ called seen.now (watch_at seen.watches place)).
    let At : ℕ → Type 0 = λ k. IsToBeWoken seen k customer parts in
    inr (customer, subst At (sym here) wanted, it))
    (calls place))
    (λ (other : place ≢ at). inl (others place other))
    (cases_eq place at)

called_twice : (now : ℕ) (watch : Watch) → called now (called now watch) ≡ called now watch
called_twice now watch =
    let twice : min (min watch.moment now) now ≡ min watch.moment now = omega arith in
    ap (λ (m : ℕ). record watch { moment = m }) twice

-- some, and then more
pub woken_after : (seen mid : Watched) (parts : List Part) (new_w : List Watch) → mid.lines ≡ seen.lines
    → mid.noted ≡ seen.noted → mid.now ≡ seen.now → AreWoken seen parts mid.watches → AreWoken mid parts new_w
    → AreWoken seen parts new_w
woken_after seen mid parts new_w lines noted time first then = λ place. ⊎_elim
    (λ (same : watch_at new_w place ≡ watch_at mid.watches place). ⊎_elim
    (λ (was : watch_at mid.watches place ≡ watch_at seen.watches place). inl (same ∙ was))
    (λ (it : (customer : ℕ) × (IsToBeWoken seen place customer parts)
    × (watch_at mid.watches place ≡ called seen.now (watch_at seen.watches place))). inr (it.0, it.1, same ∙ it.2))
    (first place))
    (λ (it : (customer : ℕ) × (IsToBeWoken seen place customer parts)
    × (watch_at new_w place ≡ called seen.now (watch_at mid.watches place))). ⊎_elim
    (λ (was : watch_at mid.watches place ≡ watch_at seen.watches place).
    inr (it.0, it.1, it.2 ∙ ap (λ (x : Watch). called seen.now x) was))
    (λ (before : (customer : ℕ) × (IsToBeWoken seen place customer parts)
    × (watch_at mid.watches place ≡ called seen.now (watch_at seen.watches place))).
    inr (
      it.0,
      it.1,
      it.2 ∙ (ap (λ (x : Watch). called seen.now x) before.2
          ∙ called_twice seen.now (watch_at seen.watches place)),
    ))
    (first place))
    (as_woken mid seen parts place (sym lines) (sym noted) (sym time) (then place))

-- one line more was woken if it is to be
pub woken_more : (seen now new : Watched) (customer first place : ℕ) (parts : List Part) → now.lines ≡ seen.lines
    → now.noted ≡ seen.noted → now.now ≡ seen.now → AreWoken now parts new.watches
    → (IsToBeWoken now place customer parts → (watch_at new.watches place).moment ≤ now.now)
    → ((p : ℕ) → first ≤ p → p < place → IsToBeWoken seen p customer parts
    → (watch_at now.watches p).moment ≤ seen.now)
    → (p : ℕ) → first ≤ p → p < place + 1 → IsToBeWoken seen p customer parts
    → (watch_at new.watches p).moment ≤ seen.now
woken_more seen now new customer first place parts lines noted time calls own before p from last wanted =
    let early : (watch_at new.watches p).moment ≤ now.now = ⊎_elim
    (λ (earlier : p < place).
    let was = before p from earlier wanted in
    still_early now parts p new.watches calls (omega (arith, was, time)))
    (λ (later : place ≤ p).
    let here : place ≡ p = omega (arith, later, last) in
    let Own : ℕ → Type 0 = λ k. IsToBeWoken now k customer parts → (watch_at new.watches k).moment ≤ now.now in
    subst Own here own (to_be_woken seen now parts p customer lines noted time wanted))
    (cases_lt p place) in
    omega (arith, early, time)

-- ---- customers

-- the lines of one customer more were woken if they are to be
pub served_more : (seen now new : Watched) (customer : ℕ) (parts : List Part) → now.lines ≡ seen.lines
    → now.noted ≡ seen.noted → now.now ≡ seen.now
    → slice_get now.customers customer ≡ slice_get seen.customers customer → AreWoken now parts new.watches
    → IsServedBy now parts customer new.watches → AreServedBy seen parts customer now.watches
    → AreServedBy seen parts (customer + 1) new.watches
served_more seen now new customer parts lines noted time rows calls own before k last row p found wants from end its =
    let early : (watch_at new.watches p).moment ≤ now.now = ⊎_elim
    (λ (earlier : k < customer).
    let was = before k earlier row p found wants from end its in
    still_early now parts p new.watches calls (omega (arith, was, time)))
    (λ (later : customer ≤ k).
    let here : customer ≡ k = omega (arith, later, last) in
    let Of : ℕ → Type 0 = λ n. slice_get seen.customers n ≡ Some row in
    let At : ℕ → Type 0 = λ n. IsTrue (is_wanted row n) in
    own row p (rows ∙ subst Of (sym here) found) (subst At (sym time) wants) from end
    (to_be_woken seen now parts p row.customer lines noted time its))
    (cases_lt k customer) in
    omega (arith, early, time)

-- the same of what is seen alike
pub served_as : (a b : Watched) (customers : ℕ) (parts : List Part) (w : List Watch) → b.lines ≡ a.lines
    → b.noted ≡ a.noted → b.now ≡ a.now → b.customers ≡ a.customers → AreServedBy a parts customers w
    → AreServedBy b parts customers w
served_as a b customers parts w lines noted time rows served k last row p found wants from end wanted =
    let At : ℕ → Type 0 = λ n. IsTrue (is_wanted row n) in
    let early = served k last row p (ap (λ (xs : List Row). slice_get xs k) (sym rows) ∙ found)
    (subst At time wants) from end (to_be_woken b a parts p row.customer (sym lines) (sym noted) (sym time) wanted) in
    omega (arith, early, time)

-- none so far
pub none_served : (seen : Watched) (parts : List Part) (w : List Watch) → AreServedBy seen parts 0 w
none_served seen parts w k last row p found wants from end wanted =
    let none : ⊥ = omega (arith, last) in absurd none

-- ---- until when the attendant waits

-- until the first of the moments of lines and customers
pub waits_for_first : (seen : Watched) (next moment : ℕ) → seen.next ≡ min next moment
    → ((place : ℕ) → place < length seen.lines → next ≤ (watch_at seen.watches place).moment)
    → IsLinesMoment seen next → IsFirstLook seen.customers moment → WaitsForFirst seen
waits_for_first seen next moment is waits first looks =
    let Of : ℕ → Type 0 = λ n. IsLinesMoment seen n ⊎ IsCustomersMoment seen n in record {
      lines = λ place line. let early = waits place line in omega (arith, early, is);
      customers = λ customer row found. let early = looks.least customer row found in omega (arith, early, is);
      wanted = ⊎_elim
          (λ (less : moment < next).
          let same : moment ≡ seen.next = omega (arith, less, is) in
          subst Of same (⊎_elim
          (λ (never : moment ≡ 18446744073709551615). inl (inl never))
          (λ (one : (customer : ℕ) × ((row : Row) × (slice_get seen.customers customer ≡ Some row)
          × (look_moment row ≡ moment))). inr one)
          looks.wanted))
          (λ (more : next ≤ moment).
          let same : next ≡ seen.next = omega (arith, more, is) in
          subst Of same (inl first))
          (cases_lt moment next);
    }
