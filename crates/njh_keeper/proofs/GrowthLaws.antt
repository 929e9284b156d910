-- What a step of a customer, new routes of it, or an order for it, make of its files: the whole ones go on, and all of
-- them grow.
use Rattle.njh_keeper.proofs.Words
use Words.{◌≡◌, ℕ, ◌<◌, ◌≤◌, ◌==◌, List, [], ◌++◌, length, Option, Some, None, refl, sym, ap, subst, ◌∙◌, append-nil}
use Words.{arith, Kind, Stored, RouteEntry, CustomerSpool, PartialFile, max_arrived, partial_numbered, partial_records}
use Words.{IsSound, FilesGrow, HasShortRests, entry_with, part_after_routes, part_after_order, outgoing, OwnSignal}
use Words.{OwnOrder, IsLed, GoOnIn}
use Words.{AreNumbered, get_or, count_by, Contains, recursion_from_All, AllByRecursion}
use Words.{SpoolContents, WholeFile, AreFronts, AllGoOn, AllUpToDate, GoesOn, IsRerouted}
use Words.{IsUpToDate, KeptPartial, OwnFiles, IsFrontWhere}
use Rattle.njh_stream.{proofs.ReceivingLaws.find_counts, specs.Holding.unrouted_held}
use Rattle.njh_customer.proofs.{FileListLaws.found_one, GrowingLaws.{many_go_on, orders_grow, quiet}}
use Rattle.njh_customer.proofs.{GrowingLaws.partials_numbered}
use Rattle.njh_customer.proofs.{GrowingLaws.rerouted_count, RestLengths.{events_short, takes_short}}
use Rattle.njh_customer.proofs.{StepsGrow.{signals_grow, takes_grow}, SurvivingLaws.{events_keep_files, held_still}}
use Rattle.njh_customer.{proofs.SurvivingLaws.takes_keep_files, specs.{Growing.{HasCome, HasBecomeWhole}, Part.Part}}
use Rattle.njh_customer.specs.{Part.{part_after_bytes, part_after_signal}, Surviving.FilesGoOn}
use Rattle.njh_customer.specs.declared.{given_order.GivenOrder.GivenOrder, signal.Signal.Signal}
use Rattle.njh_turns.specs.Keeping.{by_bytes, by_order, by_routes, by_signal}
use Rattle.njh_keeper.proofs.{KnowingLaws.{front_of_whole, still_goes_on}, ListLaws.all_both, NumberedLaws.equal_to}
use Rattle.njh_keeper.proofs.{UsesLaws.keyed_at}
use Rattle.{njh_keeper.proofs.WalkLaws.{are_numbered, no_more_numbered, as_counted}, std.proofs.Common.⊎_elim}
use Rattle.std.proofs.{lemmas.List.Elements.{Contains-append_cases, Contains-get_or}}

-- ---- a step

-- What holds after bytes of a line, after a signal, after new routes and after an order holds wherever the part is led.
record HoldsBehind (p : Part) (P : Part → Type 0) : Type 0 where
  bytes : (l : ℕ) (piece : List ℕ) → l < length p.rests → P (part_after_bytes p l piece).after
  signal : (l : ℕ) (signal : Signal) → P (part_after_signal p l signal).after
  routes : (routes : List RouteEntry) → P (part_after_routes routes p)
  order : (order : GivenOrder) → P (part_after_order order p)

led : (p : Part) (P : Part → Type 0) → HoldsBehind p P → (after : Part) → IsLed p after → P after
led p P behind after (by_bytes l piece there is) = subst P (sym is) (behind.bytes l piece there)
led p P behind after (by_signal l signal is) = subst P (sym is) (behind.signal l signal)
led p P behind after (by_routes routes is) = subst P (sym is) (behind.routes routes)
led p P behind after (by_order order is) = subst P (sym is) (behind.order order)

-- by new routes some files are held, and no other has come
routes_go_on : (routes : List RouteEntry) (p : Part)
    → FilesGoOn (outgoing p.customer) (outgoing (part_after_routes routes p).customer)
routes_go_on routes p =
    let now = outgoing (part_after_routes routes p).customer in
    record {
      still = now.files;
      new = [];
      files = sym (append-nil now.files);
      survive = held_still (entry_with routes p.customer.entry) p.customer.spool.whole;
      counted = omega arith;
    }

-- the whole files are those that there were, but for such as left, and after them others, at most as many as were
-- counted
pub led_files_go_on : (p after : Part) → IsLed p after
    → after.customer.spool.arrived < max_arrived → FilesGoOn (outgoing p.customer) (outgoing after.customer)
led_files_go_on p after =
    led p (λ x. x.customer.spool.arrived < max_arrived → FilesGoOn (outgoing p.customer) (outgoing x.customer)) (record {
      bytes = takes_keep_files p;
      signal = λ l signal. events_keep_files p (OwnSignal signal l);
      routes = λ routes below. routes_go_on routes p;
      order = λ order. events_keep_files p (OwnOrder order);
    }) after

-- fewer than 1,366 records have come
pub led_grows : (p after : Part) → IsLed p after → HasShortRests p
    → (k : ℕ) × (k < 1366) × FilesGrow k p.customer.spool after.customer.spool
led_grows p after is_led short =
    led p (λ x. (k : ℕ) × (k < 1366) × FilesGrow k p.customer.spool x.customer.spool) (record {
      bytes = λ l piece there. takes_grow p l piece (short l);
      signal = λ l signal. (0, omega arith, signals_grow p l signal);
      routes = λ routes.
          let entry = entry_with routes p.customer.entry in
          let s = p.customer.spool in
          (0, omega arith, quiet s (unrouted_held entry s) (held_still entry s.whole) refl refl);
      order = λ order. (0, omega arith, orders_grow p order);
    }) after is_led

-- and of no line's next frame has more come than a text may have
pub led_rests : (p after : Part) → IsLed p after → HasShortRests p → HasShortRests after
led_rests p after is_led short =
    led p HasShortRests (record {
      bytes = λ l piece there. takes_short p l piece short;
      signal = λ l signal. events_short p (OwnSignal signal l) short;
      routes = λ routes. short;
      order = λ order. short;
    }) after is_led

-- ---- the numbers of files

pub numbered_of_sound : (s : CustomerSpool) → IsSound s → AreNumbered s.whole
numbered_of_sound s sound = are_numbered s.whole (λ n. let apart = sound.apart n in omega (arith, apart))

-- the whole files that there were go on to be those that there are
pub goes_on_in : (p after : Part) → IsSound p.customer.spool → IsLed p after
    → GoOnIn p.customer.spool.arrived p.customer.spool.whole after.customer
goes_on_in p after sound is_led = record {
  numbered = numbered_of_sound p.customer.spool sound;
  goes = λ below.
      let go_on = led_files_go_on p after is_led below in
      record {
        still = go_on.still;
        new = go_on.new;
        files = go_on.files;
        survive = go_on.survive;
        counted = go_on.counted;
      };
}

-- ---- the records of a file that isn't whole

-- these are the records of the file of that number, and after them others
abbrev pub GoesOnFromPartial : CustomerSpool → ℕ → List Stored → Type 0
GoesOnFromPartial x n records = (rest : List Stored) × (records ≡ partial_records n x ++ rest)

-- more records than came go on from the file of their number
pub many_go_on_from_partial : (k : ℕ) (x : CustomerSpool) (n : ℕ) (kind : Kind) (records : List Stored) → IsSound x
    → k < length records → HasCome k x.partial n kind records → GoesOnFromPartial x n records
many_go_on_from_partial k x n kind records sound many come =
    let from = many_go_on k n x.partial kind records many come in
    let apart = sound.apart from.file.number in
    let found : partial_numbered from.file.number x ≡ Some from.file =
    partials_numbered x.partial from.file (omega (arith, apart)) from.there in
    let is : from.file.records ≡ partial_records n x =
    sym (ap (λ (o : Option PartialFile). elim o as (λ _. List Stored) [ Some f ↦ f.records | None ↦ [] ]) found)
    ∙ ap (λ m. partial_records m x) from.same_number in
    (from.more, from.records_are ∙ ap (λ rs. rs ++ from.more) is)

-- so the files do that aren't whole now either
pub partial_goes_on : (k : ℕ) (x y : CustomerSpool) → k < 1366 → FilesGrow k x y → IsSound x → (n : ℕ)
    → 1366 ≤ length (partial_records n y) → GoesOnFromPartial x n (partial_records n y)
partial_goes_on k x y few grow sound n = at_file (partial_numbered n y) refl
  where
    at_file : (o : Option PartialFile) → partial_numbered n y ≡ o
        → 1366 ≤ length (elim o as (λ _. List Stored) [ Some f ↦ f.records | None ↦ [] ])
        → GoesOnFromPartial x n (elim o as (λ _. List Stored) [ Some f ↦ f.records | None ↦ [] ])
    at_file None is many = absurd (omega (arith, many))
    at_file (Some f) is many =
        let there = found_one (λ (g : PartialFile). g.number == n) y.partial f is in
        many_go_on_from_partial k x n f.kind f.records sound (omega (arith, few, many))
        (subst (λ m. HasCome k x.partial m f.kind f.records) (equal_to f.number n there.1) (grow.partial f there.0))

-- ---- the number of a file that isn't whole

-- a file that isn't whole and has records is there
has_partial : (n : ℕ) (x : CustomerSpool) → 0 < length (partial_records n x)
    → 1 ≤ count_by (λ f. f.number == n) x.partial
has_partial n x = at_file (partial_numbered n x) refl
  where
    at_file : (o : Option PartialFile) → partial_numbered n x ≡ o
        → 0 < length (elim o as (λ _. List Stored) [ Some f ↦ f.records | None ↦ [] ])
        → 1 ≤ count_by (λ f. f.number == n) x.partial
    at_file None is some = absurd (omega (arith, some))
    at_file (Some f) is some = find_counts (λ (g : PartialFile). g.number == n) x.partial f is

-- ---- one step

module _ (k : ℕ) (x y : CustomerSpool) (few : k < 1366) (grow : FilesGrow k x y) (sound : IsSound x) where
  -- a file that wasn't whole is none of the whole ones that are still there
  is_new : (f : WholeFile) → 0 < length (partial_records f.number x) → Contains y.whole f → Contains grow.new f
  is_new f some at = ⊎_elim (λ (still : Contains grow.still f). absurd
      (let here = keyed_at (λ (g : WholeFile). g.number) grow.still still.0 f still.1 (sym still.2) in
      let less = no_more_numbered f.number x.whole grow.still grow.survive in
      let counted = as_counted f.number x.whole in
      omega (arith, sound.apart f.number, has_partial f.number x some, here, less, counted)))
      (λ (new : Contains grow.new f). new) (Contains-append_cases grow.still grow.new f
      (subst (λ (files : List WholeFile). Contains files f) grow.files at))

  -- its records are the first that came of the file that it became, which may have been sent elsewhere since
  became : (f : WholeFile) → HasBecomeWhole k x.partial f → 1366 ≤ length f.records
      → (rest : List Stored) × IsRerouted f.kind (partial_records f.number x ++ rest) f.records
  became f whole many =
      let counts : length f.records ≡ length whole.came = rerouted_count f.kind whole.came f.records whole.records in
      let from = many_go_on_from_partial k x f.number f.kind whole.came sound (omega (arith, few, many, counts))
      whole.has_come in
      (from.0, subst (λ rs. IsRerouted f.kind rs f.records) from.1 whole.records)

  front_of : (s : SpoolContents) (p : KeptPartial) → IsUpToDate x p → GoesOn x s p → (f : WholeFile)
      → Contains y.whole f → IsFrontWhere s p f
  front_of s p up go_on f at number seen =
      let some : 0 < length (partial_records f.number x) =
      subst (λ n. 0 < length (partial_records n x)) (sym number) (omega (arith, up.seen, up.many)) in
      let whole = grow.became_whole f (is_new f some at) in
      front_of_whole x s p f.kind f.records (λ many. subst (λ n. (rest : List Stored)
      × IsRerouted f.kind (partial_records n x ++ rest) f.records) number (became f whole many)) up go_on seen

  module _ (s : SpoolContents) (own : OwnFiles) (up : AllUpToDate x own) (go_on : AllGoOn x s own) where
    -- what is kept of files that aren't whole yet is a front of them still,
    pub partials_go_on : AllGoOn y s own
    partials_go_on =
        all_both (IsUpToDate x) (GoesOn x s) (GoesOn y s)
        (λ p up go_on. still_goes_on x y s p (partial_goes_on k x y few grow sound p.number) up go_on) own.partial up
        go_on

    -- and of those that became whole a front of these, as they were before they were sent elsewhere
    pub fronts_of_step : AreFronts s own.partial y.whole
    fronts_of_step =
        all_both (IsUpToDate x) (GoesOn x s)
        (λ p. AllByRecursion (IsFrontWhere s p) y.whole)
        (λ p up go_on. recursion_from_All (IsFrontWhere s p) y.whole (λ i f there. front_of s p up go_on
        (get_or y.whole i f) (Contains-get_or y.whole i f there))) own.partial up go_on
