-- The keeper of a spool file goes on to know a hub's files: by a customer's step, and by a commit.
use Rattle.njh_keeper.proofs.Words
use Words.{◌≡◌, ◌≢◌, ◌⊎◌, inl, inr, ℕ, zero, suc, ◌<◌, true, List, [], ◌∷◌, length, get_or, set, map, Result, Ok, Err}
use Words.{OnOk, refl, sym, ap, subst, ◌∙◌, arith, get_or-set_same, get_or_default, length-map, map-set, map-map}
use Words.{set-get_or}
use Words.{AllByRecursion, AllZip, Database, HasCleanDisk, State, Ghosts, CommitState, Stands, Holds, SpoolContents}
use Words.{kept, shown, Stays, AreDistinct, NamedCustomer, TableFile, CustomerSpool, KeptFile, IsSound, HaveHeaders}
use Words.{HasShortRests, Part, no_part, part, IsLed, kept_file, kept_of, AreNamedApart, HasOwn, HasSpool, IsSoundPart}
use Words.{Knows, LeadsStep, StepGoes, own_memory_of, own_of, AllAreFound, AllAreRead, HasBegun, name_at, OwnFiles}
use Words.{Keeping, KnowsHub, KnowsNow, MayLeave, MayLeaveOf, left_in, AllAreBack, hub_opened, is_name_of, own_files}
use Words.{part_opened, IfOk, AllUpToDate, KeepsOn, Leads, Survives, clean_before}
use Rattle.std.{proofs.{Math.Seq.map-set_same, lemmas.Slice.Zip.AllZip-long}, specs.Prelude.string_bytes}
use Rattle.{njh_table.specs.TableFile.entry_of, njh_turns.specs.Keeping.{LeadsHub, LeavesEither, LeavesOnly}}
use Rattle.{njh_turns.specs.Keeping.kept_files, njh_keeper.proofs.BegunLaws.{all_by_place, begun_is_known}}
use Rattle.njh_keeper.proofs.{BegunLaws.{opened_rests, others_by_place}, GrowthLaws.led_rests, HubLaws.apart}
use Rattle.njh_keeper.proofs.{KnowingLaws.{uses_of_one, known_is_left, known_still}, ListLaws.{all-set, all-map}}
use Rattle.njh_keeper.proofs.{ListLaws.at_place, NumberedLaws.all_at, OpeningFound.{all_found, all_read_from}}
use Rattle.njh_keeper.specs.{Keeper.{IsKeptNow, memory_in, owns_in}, code.Remembered.OwnMemory}
use Rattle.njh_keeper.specs.declared.own_files.OwnFiles as own_files_type

-- ---- what it leaves

abbrev spools_of : List Part → List CustomerSpool
spools_of parts = map (λ (p : Part). p.customer.spool) parts

kept_of_spools : (parts : List Part) → map (λ (s : CustomerSpool). map kept_file s.whole) (spools_of parts)
    ≡ kept_of parts
kept_of_spools parts = map-map (λ (s : CustomerSpool). map kept_file s.whole) (λ (p : Part). p.customer.spool) parts

-- what is left of the customers is what the hub has
pub known_leaves : {S : Type 0} (g : Ghosts S) (keeper : Keeping S) (parts : List Part) (k : KnowsNow g keeper parts)
    → left_in keeper.names k.standing.now ≡ kept_of parts
known_leaves g keeper parts k =
    ap (λ ns. left_in ns k.standing.now) k.names ∙ known_is_left keeper.numbers (owns_in keeper) (spools_of parts)
    k.standing.now k.knows ∙ kept_of_spools parts

-- ---- a commit

module _ {T E : Type 0} where
  pub ok_given : (r : Result T E) (A C P Q : Type 0) → OnOk r A → (C → OnOk r P) → (A → (C → P) → Q) → OnOk r Q
  ok_given (Ok x) A C P Q one led f = f one led
  ok_given (Err e) A C P Q one led f = tt

  pub if_ok_given : (r : Result T E) (A C P : Type 0) (R Q : T → Type 0) → OnOk r A → (C → OnOk r P) → IfOk r R
      → ((x : T) → A → (C → P) → R x → Q x) → IfOk r Q
  if_ok_given (Ok x) A C P R Q one led holds f = f x one led holds
  if_ok_given (Err e) A C P R Q one led holds f = tt

pub known_settled : {S : Type 0} (g : Ghosts S) (old new : Keeping S) (parts : List Part) (k : KnowsNow g old parts)
    → new.names ≡ old.names → new.numbers ≡ old.numbers → new.customers ≡ old.customers
    → IsKeptNow g new k.standing.now → KnowsNow g new parts
known_settled g old new parts k names numbers customers done = record {
  standing = record { now = k.standing.now; kept = done.kept };
  stands = done.stands;
  as_kept = λ unchanged. done.same;
  names = names ∙ k.names ∙ sym (ap (λ ms. map (λ own. own.name) (map (λ (m : OwnMemory). m.own) ms)) customers);
  distinct = subst AreDistinct (sym names) k.distinct;
  texts = subst (AllByRecursion (λ (m : OwnMemory). is_name_of m.text m.own.name ≡ true)) (sym customers) k.texts;
  knows = rw (numbers, customers) k.knows;
  sound = k.sound;
}

-- where it is broken off, what was kept before is left, or all
pub either_leaves : {S : Type 0} (g : Ghosts S) (found : SpoolContents → Type 0) (old new : Keeping S)
    (before parts : List Part) → (HasCleanDisk (shown g new.store) → HasCleanDisk (shown g old.store))
    → ((left : List (List KeptFile)) → MayLeave g new left
    → MayLeave g old left ⊎ ((now : SpoolContents) → Holds now (shown g old.store).now.trees
    → left ≡ left_in old.names now)) → LeavesOnly (MayLeaveOf g found old) before → KnowsHub g found old parts
    → LeavesEither (MayLeaveOf g found new) before parts
either_leaves g found old new before parts early crash only knows left m = elim (crash left m.0) [
  | inl may ↦ inl (only left (may, m.1))
  | inr made ↦ inr (let k = knows (early m.0.clean) m.1.0 m.1.1 in made k.standing.now k.stands.now
      ∙ known_leaves g old parts k)
]

-- the same spool file, and the same names
pub may_leave_same : {S : Type 0} (g : Ghosts S) (old new : Keeping S) (left : List (List KeptFile))
    → new.store ≡ old.store → new.names ≡ old.names → MayLeave g new left → MayLeave g old left
may_leave_same g old new left store names m = record {
  clean = subst (λ s. HasCleanDisk (shown g s)) store m.clean;
  trees = m.trees;
  may = subst (λ s. (shown g s).may_leave m.trees) store m.may;
  spool = m.spool;
  holds = m.holds;
  is = m.is ∙ ap (λ ns. left_in ns m.spool) names;
}

-- nothing was committed between
pub may_leave_before : {S : Type 0} (g : Ghosts S) (old new : Keeping S) (left : List (List KeptFile))
    → Survives (shown g old.store) (shown g new.store) (λ _. ⊥) → new.names ≡ old.names → MayLeave g new left
    → MayLeave g old left
may_leave_before g old new left call names m = record {
  clean = clean_before call m.clean;
  trees = m.trees;
  may = elim (call.crash m.clean m.trees m.may) [ inl may ↦ may | inr none ↦ absurd none ];
  spool = m.spool;
  holds = m.holds;
  is = m.is ∙ ap (λ ns. left_in ns m.spool) names;
}

-- ---- the opening

owns_are : (owns : List own_files_type.OwnFiles)
    → map (λ (m : OwnMemory). m.own) (map own_memory_of owns) ≡ map own_of owns
owns_are owns = map-map (λ (m : OwnMemory). m.own) own_memory_of owns

names_in : (owns : List own_files_type.OwnFiles)
    → map (λ (own : OwnFiles). own.name) (map (λ (m : OwnMemory). m.own) (map own_memory_of owns))
    ≡ map (λ own. own.name) owns
names_in owns =
    ap (map (λ (own : OwnFiles). own.name)) (owns_are owns) ∙ map-map (λ (own : OwnFiles). own.name) own_of owns

pub begun_known : {S : Type 0} (g : Ghosts S) (new : Keeping S) (names : List (List ℕ)) (hub : List Part)
    (owns : List own_files_type.OwnFiles) (t : SpoolContents) → new.customers ≡ map own_memory_of owns
    → new.names ≡ names → map (λ own. own.name) owns ≡ names → HasBegun names hub (map own_of owns) new.numbers t
    → Stands (record { now = t; kept = t }) (shown g new.store) → AreDistinct names
    → length names ≡ length hub → AllByRecursion (λ own. is_name_of (string_bytes own.text) own.name ≡ true) owns
    → ((c : ℕ) → c < length names → IsSound (part c hub).customer.spool × HaveHeaders (part c hub).customer.spool.whole)
    → AllByRecursion HasShortRests hub → KnowsNow g new hub
begun_known g new names hub owns t customers names_is each begun stands distinct long texts sound rests = record {
  standing = record { now = t; kept = t };
  stands = stands;
  as_kept = λ unchanged. refl;
  names = names_is ∙ sym each ∙ sym (names_in owns)
      ∙ sym (ap (λ ms. map (λ (own : OwnFiles). own.name) (map (λ (m : OwnMemory). m.own) ms)) customers);
  distinct = subst AreDistinct (sym names_is) distinct;
  texts = subst (AllByRecursion (λ (m : OwnMemory). is_name_of m.text m.own.name ≡ true)) (sym customers)
      (all-map (λ (m : OwnMemory). is_name_of m.text m.own.name ≡ true) own_memory_of owns texts);
  knows = rw (customers, owns_are owns)
      (begun_is_known names hub (map own_of owns) new.numbers t begun distinct long).0;
  sound = all_by_place IsSoundPart hub (λ c p low is.
      let here : part c hub ≡ p = get_or_default hub c no_part p low ∙ sym is in
      let one = sound c (omega (arith, low, long)) in
      record {
        sound = subst (λ (x : Part). IsSound x.customer.spool) here one.0;
        headers = subst (λ (x : Part). HaveHeaders x.customer.spool.whole) here one.1;
        rests = all_at HasShortRests hub c p rests low is;
      });
}

-- what is read of the customers' files when a hub is opened
pub opened_so : (table : TableFile) (spool : SpoolContents) (names : List (List ℕ)) (hub : List Part)
    → names ≡ map (λ c. c.name) table.customers → hub ≡ hub_opened table spool → AllAreBack table (kept spool)
    → AllAreFound names hub × AllAreRead names hub spool × (length names ≡ length hub)
    × AllByRecursion HasShortRests hub
opened_so table spool names hub each hub_is back = (
  subst (λ (ps : List Part). AllAreFound names ps) (sym hub_is) (all_found table spool back names each),
  subst (λ (ps : List Part). AllAreRead names ps spool) (sym hub_is) (all_read_from table spool back names each),
  (omega (
    arith,
    ap length each,
    ap length hub_is,
    length-map table.customers (λ (x : NamedCustomer). x.name),
    length-map table.customers (λ (x : NamedCustomer). part_opened (entry_of x) (own_files x.name spool)),
  )),
  subst (AllByRecursion HasShortRests) (sym hub_is) (opened_rests table spool),
)

-- what the spool file shows stays
pub stood_still : (s : CommitState) (old new : State) → Stays old new → Stands s old → Stands s new
stood_still s old new stays stands = record {
  is_open = stays.is_open stands.is_open;
  now = subst (λ (d : Database). Holds s.now d.trees) (sym stays.now) stands.now;
  kept = subst (λ (d : Database). Holds s.kept d.trees) (sym stays.committed) stands.kept;
}

-- ---- a customer's step

all_zip_at : {X Y : Type 0} (R : X → Y → Type 0) (xs : List X) (ys : List Y) (i : ℕ) (x : X) (y : Y) → AllZip R xs ys
    → i < length xs → x ≡ get_or xs i x → y ≡ get_or ys i y → R x y
all_zip_at R [] ys i x y all there is at = absurd (omega (arith, there))
all_zip_at R (a ∷ xs) [] i x y all there is at = absurd all
all_zip_at R (a ∷ xs) (b ∷ ys) zero x y all there is at = subst (λ z. R z y) (sym is) (subst (R a) (sym at) all.0)
all_zip_at R (a ∷ xs) (b ∷ ys) (suc i) x y all there is at = all_zip_at R xs ys i x y all.1 (omega (arith, there)) is at

named_apart : (owns : List OwnFiles) → AreDistinct (map (λ (own : OwnFiles). own.name) owns) → AreNamedApart owns
named_apart owns distinct c own there is =
    let names = map (λ (o : OwnFiles). o.name) owns in
    let long = length-map owns (λ (o : OwnFiles). o.name) in
    let name_is : (i : ℕ) (o : OwnFiles) → i < length owns → o ≡ get_or owns i o → o.name ≡ name_at names i =
    (λ i o low at. at_place (λ (x : OwnFiles). x.name) owns i o low at
    ∙ get_or_default names i o.name [] (omega (arith, low, long))) in
    others_by_place (λ o. o.name ≢ own.name) owns c (λ i o low at other same.
    other (apart names distinct i c (omega (arith, low, long)) (omega (arith, there, long))
    (sym (name_is i o low at) ∙ same ∙ name_is c own there is)))

module _ {S : Type 0} (g : Ghosts S) (old new : Keeping S) (before : List Part) (c : ℕ) (k : KnowsNow g old before)
    (there : c < length old.customers) where
  abbrev owns : List OwnFiles
  owns = owns_in old

  within : c < length owns
  within = omega (arith, there, length-map old.customers (λ (x : OwnMemory). x.own))

  in_hub : c < length before
  in_hub = omega (
    arith,
    within,
    AllZip-long (HasSpool k.standing.now) owns (spools_of before) k.knows.each,
    length-map before (λ (p : Part). p.customer.spool),
  )

  part_is : part c before ≡ get_or before c (part c before)
  part_is = get_or_default before c no_part (part c before) in_hub

  sound_before : IsSoundPart (part c before)
  sound_before = all_at IsSoundPart before c (part c before) k.sound in_hub part_is

  module _ (now : Part) (sound : IsSoundPart now) (m m2 : OwnMemory) (is : m ≡ get_or old.customers c m)
      (customers : new.customers ≡ set old.customers c m2) (names : new.names ≡ old.names) where
    here : m.own ≡ get_or owns c m.own
    here = at_place (λ (x : OwnMemory). x.own) old.customers c m there is

    has : HasOwn (memory_in old m) k.standing.now (part c before).customer.spool
    has = record {
      ordered = k.knows.ordered;
      below = k.knows.below;
      apart = λ n. (omega (arith, uses_of_one n owns c m.own within here, k.knows.apart n));
      named = all_at (λ (x : OwnMemory). is_name_of x.text x.own.name ≡ true) old.customers c m k.texts there is;
      has = all_zip_at (HasSpool k.standing.now) owns (spools_of before) c m.own (part c before).customer.spool
          k.knows.each within here (at_place (λ (p : Part). p.customer.spool) before c (part c before) in_hub part_is);
    }

    owns_new : owns_in new ≡ set owns c m2.own
    owns_new = ap (map (λ (x : OwnMemory). x.own)) customers ∙ map-set (λ (x : OwnMemory). x.own) old.customers c m2

    -- the customers' names are what they were
    module _ (t : SpoolContents) (goes : StepGoes (memory_in old m) (memory_in new m2) old.is_changed new.is_changed
        (part c before).customer.spool now.customer.spool k.standing.now t)
        (stands : Stands (record { now = t; kept = k.standing.kept }) (shown g new.store)) where
      knows_new : Knows new.numbers (owns_in new) (spools_of (set before c now)) t
      knows_new =
          rw (owns_new, map-set (λ (p : Part). p.customer.spool) before c now)
          (known_still old.numbers new.numbers owns c m.own m2.own within here k.standing.now t goes.moves
          (spools_of before) k.knows (named_apart owns (subst AreDistinct k.names k.distinct)) now.customer.spool
          goes.has)

      names_new : map (λ (own : OwnFiles). own.name) (owns_in new) ≡ map (λ (own : OwnFiles). own.name) owns
      names_new =
          ap (map (λ (own : OwnFiles). own.name)) owns_new ∙ map-set_same (λ (own : OwnFiles). own.name) owns c m2.own
          m.own (goes.moves.name ∙ ap (λ (own : OwnFiles). own.name) here)

      left_new : left_in new.names t ≡ kept_of (set before c now)
      left_new =
          ap (λ ns. left_in ns t) (names ∙ k.names ∙ sym names_new)
          ∙ known_is_left new.numbers (owns_in new) (spools_of (set before c now)) t knows_new
          ∙ kept_of_spools (set before c now)

      known_new : KnowsNow g new (set before c now)
      known_new = record {
        standing = record { now = t; kept = k.standing.kept };
        stands = stands;
        as_kept = λ unchanged.
            let still = goes.still unchanged in
            ap (λ ns. left_in ns k.standing.kept) names ∙ k.as_kept still.0 ∙ known_leaves g old before k
            ∙ sym (map-set_same kept_files before c now (part c before) (sym still.1 ∙ ap kept_files part_is))
            ∙ sym left_new;
        names = names ∙ k.names ∙ sym names_new;
        distinct = subst AreDistinct (sym names) k.distinct;
        texts = subst (AllByRecursion (λ (x : OwnMemory). is_name_of x.text x.own.name ≡ true)) (sym customers)
            (all-set (λ (x : OwnMemory). is_name_of x.text x.own.name ≡ true) old.customers c m2 k.texts goes.named);
        knows = knows_new;
        sound = all-set IsSoundPart before c now k.sound sound;
      }

    known_set : IsLed (part c before) now → LeadsStep (memory_in old m) (memory_in new m2) old.is_changed new.is_changed
        now (shown g old.store) (shown g new.store) → KnowsNow g new (set before c now)
    known_set led leads = let one = (leads (part c before) led sound_before).leads k.standing k.stands in known_new
        one.0 (one.2 has) one.1

  -- by a step of customer c
  pub known_after : (hub : List Part) → LeadsHub c before hub → IsSound (part c hub).customer.spool
      → HaveHeaders (part c hub).customer.spool.whole → (m m2 : OwnMemory) → m ≡ get_or old.customers c m
      → new.customers ≡ set old.customers c m2 → new.names ≡ old.names
      → LeadsStep (memory_in old m) (memory_in new m2) old.is_changed new.is_changed (part c hub) (shown g old.store)
      (shown g new.store) → KnowsNow g new hub
  known_after hub leads sound headers m m2 is customers names step =
      let now : part c hub ≡ leads.0 = ap (part c) leads.2 ∙ get_or-set_same before c leads.0 no_part in_hub in
      let by = subst (λ (p : Part). IsLed (part c before) p × (hub ≡ set before c p)) (sym now) (leads.1, leads.2) in
      subst (KnowsNow g new) (sym by.1) (known_set (part c hub) (record {
        sound = sound;
        headers = headers;
        rests = led_rests (part c before) (part c hub) by.0 sound_before.rests;
      }) m m2 is customers names by.0 step)

  -- rows of files of customer c that have left are dropped
  pub known_swept : (m m2 : OwnMemory) → m ≡ get_or old.customers c m → new.customers ≡ set old.customers c m2
      → new.names ≡ old.names → m2 ≡ record m { own = record m.own { sweeps = m2.own.sweeps } }
      → new.is_changed ≡ old.is_changed
      → Leads (KeepsOn old.numbers m.own new.numbers m2.own (part c before).customer.spool) (shown g old.store)
      (shown g new.store) → KnowsNow g new before
  known_swept m m2 is customers names same unchanged leads =
      let p = part c before in
      let had = has p sound_before m m2 is customers names in
      let one = leads.leads k.standing k.stands in
      let goes = one.2 p.customer.spool.whole had.ordered had.apart had.has.mirrored had.has.go_on in
      let still : set before c p ≡ before = ap (set before c) part_is ∙ set-get_or before c p in
      subst (KnowsNow g new) still (known_new p sound_before m m2 is customers names one.0 (record {
        moves = goes.moves;
        named = subst (λ (x : OwnMemory). is_name_of x.text x.own.name ≡ true) (sym same) had.named;
        has = record {
          arrived = ap (λ (x : OwnMemory). x.own.arrived) same ∙ had.has.arrived;
          mirrored = goes.mirrored;
          up_to_date = subst (λ (x : OwnMemory). AllUpToDate p.customer.spool x.own) (sym same) had.has.up_to_date;
          go_on = goes.go_on;
        };
        still = λ quiet. (sym unchanged ∙ quiet, refl);
      }) one.1)
