-- The hub's whole files beside those that are kept: which were there, and which one is at a place.
use Rattle.njh_keeper.proofs.Words
use Words.{◌≡◌, ◌≢◌, ℕ, zero, suc, ◌+◌, ◌-◌, ◌^◌, ◌<◌, ◌≤◌, ◌==◌, inl, inr, Bool, true, false, cond, List, [], ◌∷◌}
use Words.{◌++◌, length, get_or, set, remove, take, Option, Some, None, min, refl, sym, ap, subst, ◌∙◌, arith, cases_lt, ⊤}
use Words.{get_or-take, get_or_default, length-take-le, take_more, AllByRecursion, In, Stored, HasHeaders}
use Words.{SpoolContents, records_of, contents_in, CustomerSpool, WholeFile, max_arrived, partial_numbered, Ready}
use Words.{records_in, HaveHeaders, outgoing, Survive, leaves, none, FileSummaryView, file_summary, Part, part}
use Words.{AreFronts, GoesTo, GoOnIn, IsAt, IsStillAt, LeadsFiles, HasFiles, Memory, Remain, Stage, KeptPartial}
use Words.{KeptWhole, one_if, AreNumbered, IsWalkedTo, IsFrontWhere, leads_then, leads_weaker}
use Rattle.std.{proofs.Common.find, specs.Option.{option_map, option_or}}
use Rattle.njh_customer.{proofs.SurvivingLaws.first_files, specs.Customer.Customer}
use Rattle.njh_keeper.proofs.{FollowingLaws.{all_remain, goes_then}, ListLaws.all_both, NumberedLaws.all_weaker}
use Rattle.njh_keeper.proofs.{NumberedLaws.{equal, all_at}, UsesLaws.keyed_at}
use Rattle.njh_keeper.proofs.WalkLaws.{as_many, kept_at, walk_drops, walk_ends, walk_finds, walk_goes_on}
use Rattle.njh_keeper.specs.code.Following.{IsHubFile}
use Rattle.njh_keeper.specs.declared.own_files.HubFile.{HubFile}

pub all_have_gone : (fs : List WholeFile) → Survive fs []
all_have_gone [] = none
all_have_gone (f ∷ fs) = leaves f fs [] (all_have_gone fs)

-- ---- the file of a number

not_first : (f g : WholeFile) (fs : List WholeFile) (b : Bool) → (f.number == g.number) ≡ b
    → one_if (f.number == g.number) ≡ 0 → find (λ x. x.number == g.number) fs ≡ Some g
    → find (λ x. x.number == g.number) (f ∷ fs) ≡ Some g
not_first f g fs true test other rest = absurd
    (let one : one_if (f.number == g.number) ≡ 1 = ap one_if test in omega (arith, one, other))
not_first f g fs false test other rest = ap (λ b. cond b (Some f) (find (λ x. x.number == g.number) fs)) test ∙ rest

found_at : (fs : List WholeFile) (i : ℕ) (g : WholeFile) → AreNumbered fs → i < length fs → g ≡ get_or fs i g
    → find (λ f. f.number == g.number) fs ≡ Some g
found_at [] i g once there is = absurd (omega (arith, there))
found_at (f ∷ fs) zero g once there is =
    let test : (f.number == g.number) ≡ true = ap (λ (x : WholeFile). f.number == x.number) is ∙ equal f.number in
    ap (λ b. cond b (Some f) (find (λ x. x.number == g.number) fs)) test ∙ ap Some (sym is)
found_at (f ∷ fs) (suc i) g once there is =
    let all = once g.number in
    let has = keyed_at (λ (x : WholeFile). x.number) fs i g (omega (arith, there)) is in
    let rest = found_at fs i g (λ n. omega (arith, once n)) (omega (arith, there)) is in
    not_first f g fs (f.number == g.number) refl (omega (arith, all, has)) rest

pub records_at : (s : CustomerSpool) (i : ℕ) (g : WholeFile) → AreNumbered s.whole → i < length s.whole
    → g ≡ get_or s.whole i g → records_in g.number s ≡ g.records
records_at s i g once there is =
    ap (λ (o : Option WholeFile). elim (option_or (option_map (λ f. f.records) o)
    (option_map (λ f. f.records) (partial_numbered g.number s))) as (λ _. List Stored) [
      | Some records ↦ records
      | None ↦
          []
    ]) (found_at s.whole i g once there is)

-- ---- what is kept of files that aren't whole

pub fronts_stay : (s t : SpoolContents) (files : List WholeFile) (before now : List KeptPartial) → Remain before now
    → AllByRecursion (λ p. records_of p.key t ≡ records_of p.key s) now
    → AreFronts s before files → AreFronts t now files
fronts_stay s t files before now remain same fronts =
    all_both (λ p. AllByRecursion (IsFrontWhere s p) files) (λ p. records_of p.key t ≡ records_of p.key s)
    (λ p. AllByRecursion (IsFrontWhere t p) files) (λ p all still. all_weaker (IsFrontWhere s p) (IsFrontWhere t p)
    (λ f front number seen. let x = front number seen in record {
      before = x.before;
      within = x.within;
      stored = (λ i. contents_in (still i)) ∙ x.stored;
      rerouted = x.rerouted;
    }) files all) now (all_remain (λ p. AllByRecursion (IsFrontWhere s p) files) before now remain fronts) same

pub front_at : (s : SpoolContents) (partial : List KeptPartial) (files : List WholeFile) (i : ℕ) (g : WholeFile)
    → i < length files → g ≡ get_or files i g → AreFronts s partial files → AreFronts s partial (g ∷ [])
front_at s partial files i g there is =
    all_weaker (λ p. AllByRecursion (IsFrontWhere s p) files) (λ p. AllByRecursion (IsFrontWhere s p) (g ∷ []))
    (λ p all. (all_at (IsFrontWhere s p) files i g all there is, tt)) partial

-- ---- the file at a place

abbrev pub any_file : WholeFile
any_file = record { number = 0; kind = In; records = []; state = Ready }

pub hub_file_at : (parts : List Part) (file : HubFile) (summary : FileSummaryView) (index : ℕ) (f : WholeFile) → let s =
    (part file.customer parts).customer.spool in
    AreNumbered s.whole → HaveHeaders s.whole → IsAt s.whole index f → file.number ≡ f.number → summary ≡ file_summary f
    → IsHubFile parts file summary f
hub_file_at parts file summary index f numbered headers here number summary_is =
    let s = (part file.customer parts).customer.spool in
    record {
      summary_is = summary_is;
      number_is = number;
      records_are = ap (λ n. records_in n s) number ∙ records_at s index f numbered here.there here.is;
      headers = subst (λ x. HasHeaders x.kind x.records) (sym here.is) (headers index f here.there);
    }

pub is_at : (files : List WholeFile) (i : ℕ) → i < length files → IsAt files i (get_or files i any_file)
is_at files i there = record { there = there; is = get_or_default files i any_file (get_or files i any_file) there }

pub is_at_of_first : (files : List WholeFile) (n i : ℕ) (f : WholeFile) → n ≤ length files → i < n → IsAt files i f
    → IsAt (take n files) i f
is_at_of_first files n i f within low here = record {
  there = omega (arith, length-take-le n files within, low);
  is = here.is ∙ sym (get_or-take n files i f low);
}

-- ---- the calls one after the other

-- what a call makes of the files says more
pub says_more : {a b : Stage} {Given : SpoolContents → List WholeFile → Type 0}
    {P Q : List WholeFile → List WholeFile → Type 0} → LeadsFiles Given P a b
    → ((t : SpoolContents) (files now : List WholeFile) → HasFiles b.memory t now → P files now → Q files now)
    → LeadsFiles Given Q a b
says_more one more = leads_weaker one (λ s t first files has given.
    let x = first files has given in (x.0, more t files x.0 x.2.has x.1, x.2))

-- after the last of them, where none is remembered
pub walked_to_end : {a b : Stage} {Given : SpoolContents → List WholeFile → Type 0} (still : List WholeFile) (i : ℕ)
    → length still ≤ i → length b.memory.own.whole ≤ i → LeadsFiles Given (λ files now. IsWalkedTo still now i) a b
    → LeadsFiles Given (λ files now. now ≡ still) a b
walked_to_end {a} {b} still i last none_left one =
    says_more one (λ t files now has walk.
    let long = as_many b.memory t now has in
    walk_ends still now i walk last (omega (arith, long, none_left)))

-- the file that is remembered at a place
module _ {a b c : Stage} {Given : SpoolContents → List WholeFile → Type 0} (still : List WholeFile) (i : ℕ)
    (one : LeadsFiles Given (λ files now. IsWalkedTo still now i) a b) (k : KeptWhole)
    (there : i < length b.memory.own.whole) (is : k ≡ get_or b.memory.own.whole i k) where
  -- is there still, and becomes what the hub has
  pub walked_on : (f : WholeFile) → IsAt still i f → k.number ≡ f.number
      → LeadsFiles (λ s files. IsStillAt files i f) (λ files now. now ≡ set files i f) b c
      → LeadsFiles Given (λ files now. IsWalkedTo still now (i + 1)) a c
  walked_on f here same more =
      leads_then one more (λ s t u first second files has given.
      let x = first files has given in
      let at = kept_at b.memory t x.0 x.2.has i k there is in
      let numbers : at.third.number ≡ f.number = sym at.holds.remembers.number ∙ same in
      let y = second x.0 x.2.has (record {
        before = at.third;
        is = at.third_is;
        still = walk_finds still x.0 i x.1 at.third at.third_there at.third_is f here.there here.is numbers;
      }) in (
        y.0,
        subst (λ fs. IsWalkedTo still fs (i + 1)) (sym y.1)
            (walk_goes_on still x.0 i x.1 at.third at.third_there at.third_is f here.there here.is numbers),
        goes_then a.memory b.memory c.memory s t u x.0 y.0 x.2 y.2,
      ))

  -- has left
  pub walked_past : ((f : WholeFile) → IsAt still i f → k.number ≢ f.number)
      → LeadsFiles (λ s files. ⊤) (λ files now. now ≡ remove files i) b c
      → LeadsFiles Given (λ files now. IsWalkedTo still now i) a c
  walked_past other more =
      leads_then one more (λ s t u first second files has given.
      let x = first files has given in
      let at = kept_at b.memory t x.0 x.2.has i k there is in
      let y = second x.0 x.2.has tt in (
        y.0,
        subst (λ fs. IsWalkedTo still fs i) (sym y.1)
            (walk_drops still x.0 i x.1 at.third at.third_there at.third_is
            (λ f here same. other f here (at.holds.remembers.number ∙ same))),
        goes_then a.memory b.memory c.memory s t u x.0 y.0 x.2 y.2,
      ))

module _ {a b c : Stage} where
  -- one more is added
  pub added_further : (whole : List WholeFile) (before index : ℕ) (f : WholeFile) → IsAt whole index f
      → LeadsFiles (λ s files. (files ≡ take before whole) × AreFronts s a.memory.own.partial whole)
      (λ files now. now ≡ take index whole) a b
      → LeadsFiles (λ s files. AreFronts s b.memory.own.partial (f ∷ [])) (λ files now. now ≡ files ++ f ∷ []) b c
      → LeadsFiles (λ s files. (files ≡ take before whole) × AreFronts s a.memory.own.partial whole)
      (λ files now. now ≡ take (index + 1) whole) a c
  added_further whole before index f here one more =
      leads_then one more (λ s t u first second files has given.
      let x = first files has given in
      let y = second x.0 x.2.has (front_at t b.memory.own.partial whole index f here.there here.is
      (fronts_stay s t whole a.memory.own.partial b.memory.own.partial x.2.remain x.2.records given.1)) in (
        y.0,
        y.1 ∙ (λ i. x.1 i ++ here.is i ∷ []) ∙ sym (take_more whole index f here.there),
        goes_then a.memory b.memory c.memory s t u x.0 y.0 x.2 y.2,
      ))

-- ---- which were there

pub first_survive : (c : Customer) (files : List WholeFile) (before count new old : ℕ)
    → count ≡ length c.spool.whole → count < 4294967296 → c.spool.arrived < 18446744073709551616
    → (c.spool.arrived ≡ max_arrived → new ≡ 2 ^ 32 - 1)
    → (c.spool.arrived < max_arrived → new ≡ min (c.spool.arrived - before) (2 ^ 32 - 1)) → old ≡ count - new
    → GoOnIn before files c → Survive files (take old c.spool.whole)
first_survive c files before count new old counted few fits all some is go_on =
    elim (cases_lt c.spool.arrived max_arrived) [
      | inl less ↦
          let here = some less in
          let same : length c.spool.whole - (c.spool.arrived - before) ≡ old = omega (arith, here, counted, few, is) in
          subst (λ n. Survive files (take n c.spool.whole)) same
          (first_files (record (outgoing c) { files = files; arrived = before }) (outgoing c) (go_on.goes less))
      | inr more ↦
          let here = all (omega (arith, more, fits)) in
          let none_is : 0 ≡ old = omega (arith, here, few, is) in
          subst (λ n. Survive files (take n c.spool.whole)) none_is (all_have_gone files)
    ]

goes_arrived : (a : ℕ) (m m2 : Memory) (s t : SpoolContents) (files : List WholeFile) → GoesTo m m2 s t files
    → GoesTo m (record { numbers = m2.numbers; own = record m2.own { arrived = a }; text = m2.text }) s t files
goes_arrived a m m2 s t files one = record {
  moves = one.moves;
  has = record {
    ordered = one.has.ordered;
    below = one.has.below;
    apart = one.has.apart;
    named = one.has.named;
    mirrored = one.has.mirrored;
    headers = one.has.headers;
  };
  remain = one.remain;
  records = one.records;
}

-- so many have become whole then
abbrev pub with_arrived : ℕ → Stage → Stage
with_arrived n at = record {
  memory = record {
    numbers = at.memory.numbers;
    own = record at.memory.own { arrived = n };
    text = at.memory.text;
  };
  shows = at.shows;
}

pub followed_all : (n : ℕ) {a b d : Stage} (c : Customer) (before old : ℕ)
    → ((files : List WholeFile) → GoOnIn before files c → Survive files (take old c.spool.whole))
    → LeadsFiles (λ s files. Survive files (take old c.spool.whole) × AreNumbered files)
    (λ files now. now ≡ take old c.spool.whole) a b
    → LeadsFiles (λ s files. (files ≡ take old c.spool.whole) × AreFronts s b.memory.own.partial c.spool.whole)
    (λ files now. now ≡ c.spool.whole) b d
    → LeadsFiles (λ s files. GoOnIn before files c × AreFronts s a.memory.own.partial c.spool.whole)
    (λ files now. now ≡ c.spool.whole) a (with_arrived n d)
followed_all n {a} {b} {d} c before old survive one more =
    leads_then one more (λ s t u was_led is_led files has given.
    let x = was_led files has (survive files given.0, given.0.numbered) in
    let y = is_led x.0 x.2.has (
      x.1,
      fronts_stay s t c.spool.whole a.memory.own.partial b.memory.own.partial x.2.remain x.2.records given.1,
    ) in (
      y.0,
      y.1,
      goes_arrived n a.memory d.memory s u y.0
          (goes_then a.memory b.memory d.memory s t u x.0 y.0 x.2 y.2),
    ))
