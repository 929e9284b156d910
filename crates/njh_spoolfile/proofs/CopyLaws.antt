-- Calls on spool files one after the other, and records that come under a key.
use Rattle.std.proofs.Common.{◌≡◌, ℕ, zero, suc, ◌+◌, ◌^◌, ◌==◌, ◌<◌, nat_le, nat_lt, ◌&&◌, Bool, true, false, not}
use Rattle.std.proofs.Common.{cond, List, [], ◌∷◌, ◌++◌, map, filter, length, take, get_or, refl, sym, ap, subst, ◌∙◌}
use Rattle.std.proofs.Common.{arith, inl}
use Rattle.std.specs.List.{AllByRecursion}
use Rattle.std.proofs.lemmas.List.{map-append, take_more}
use Rattle.std.proofs.lemmas.Bool.Decides.{nat_tests}
use Rattle.sqlite.specs.Effect.{Database}
use Rattle.sqlite.specs.State.{HasCleanDisk, State, Survives}
use Rattle.sqlite.proofs.StateLemmas.{survives_then}
use Rattle.sqlite_trees.specs.Tree.{Trees}
use Rattle.njh_spoolfile.specs.Kept.{Record, SpoolContents, Holds, Rise, IsNumbered, as_stands, record_number}
use Rattle.njh_spoolfile.specs.Kept.{records_of, with_record, without, without_records}
use Rattle.njh_spoolfile.specs.Steps.{Changes, Stays}
use Rattle.njh_spoolfile.specs.code.CopySteps.{Fills, FillsEmpty, LeadsTo, Rising, record_under}
use Rattle.njh_spoolfile.proofs.ListLaws.{equal, last, skips, stays}
use Rattle.njh_spoolfile.proofs.ReadingLaws.{of_key}

-- ---- one step after the other

pub leads_by : {change : SpoolContents → SpoolContents} {old new : State} → Changes change old new
    → LeadsTo (λ s t. t ≡ change s) old new
leads_by {change} by = record { leads = λ s held. (change s, by.holds s held, refl) }

pub leads_nothing : {P : SpoolContents → SpoolContents → Type 0} {at : State} → ((s : SpoolContents) → P s s)
    → LeadsTo P at at
leads_nothing holds = record { leads = λ s held. (s, held, holds s) }

pub leads_then : {P Q R : SpoolContents → SpoolContents → Type 0} {old mid new : State} → LeadsTo P old mid
    → LeadsTo Q mid new → ((s t u : SpoolContents) → Holds s old.now.trees → Holds t mid.now.trees → P s t → Q t u
    → R s u) → LeadsTo R old new
leads_then one more both = record {
  leads = λ s held.
      let first = one.leads s held in
      let next = more.leads first.0 first.1 in
      (next.0, next.1, both s first.0 next.0 held first.1 first.2 next.2);
}

-- ---- what a crash leaves

pub survives_here : (at : State) (P : Trees → Type 0) → Survives at at P
survives_here at P = record {
  clean = omega arith;
  shield = λ h. h;
  counts = omega arith;
  limit = refl;
  closes = λ clean h. inl h;
  crash = λ clean db h. inl h;
}

-- a disk that is clean after a call was clean before it
pub clean_before : {old new : State} {P : Trees → Type 0} → Survives old new P → HasCleanDisk new → HasCleanDisk old
clean_before call clean = omega (arith, call.clean, clean)

-- the first of two calls doesn't commit
pub survives_both : {old mid new : State} {P : Trees → Type 0} → Survives old mid (λ _. ⊥) → Survives mid new P
    → Survives old new P
survives_both {old} {mid} {new} {P} =
    survives_then old mid new (λ _. ⊥) P P (λ clean db none. absurd none) (λ clean db may. may)

-- neither changed what a connection shows
pub stays_both : {old mid new : State} → Stays old mid → Stays mid new → Stays old new
stays_both one more = record {
  is_open = λ h. more.is_open (one.is_open h);
  now = more.now ∙ one.now;
  committed = more.committed ∙ one.committed;
  mode = more.mode ∙ one.mode;
}

pub stays_here : (at : State) → Stays at at
stays_here at = record { is_open = λ h. h; now = refl; committed = refl; mode = refl }

-- so a spool is still there
pub holds_still : {spool : SpoolContents} {old new : State} → Stays old new → Holds spool old.now.trees
    → Holds spool new.now.trees
holds_still {spool} stays held = subst (λ (d : Database). Holds spool d.trees) (sym stays.now) held

-- ---- records in the order of their places

all_at : (n : ℕ) (all : List (ℕ × ℕ × List ℕ)) (at : ℕ) (x : ℕ × ℕ × List ℕ) → at < length all → x ≡ get_or all at x
    → AllByRecursion (λ y. n < y.0) all → n < x.0
all_at n [] at x within here up = absurd (omega (arith, within))
all_at n (y ∷ ys) zero x within here up = subst (λ (z : ℕ × ℕ × List ℕ). n < z.0) (sym here) up.0
all_at n (y ∷ ys) (suc at) x within here up = all_at n ys at x (omega (arith, within)) here up.1

front_lower : (all : List (ℕ × ℕ × List ℕ)) (at : ℕ) (x : ℕ × ℕ × List ℕ) → at < length all → x ≡ get_or all at x
    → Rising all → AllByRecursion (λ y. y.0 < x.0) (take at all)
front_lower [] at x within here up = absurd (omega (arith, within))
front_lower (y ∷ ys) zero x within here up = tt
front_lower (y ∷ ys) (suc at) x within here up =
    (all_at y.0 ys at x (omega (arith, within)) here up.0, front_lower ys at x (omega (arith, within)) here up.1)

lower_places : (key p : ℕ) (es : List (ℕ × Record))
    → AllByRecursion (λ y. y.0 < p) (map as_stands (filter (λ e. e.1.key == key) es))
    → AllByRecursion (λ e. e.1.key ≡ key → e.1.place < p) es
lower_places key p [] low = tt
lower_places key p (e ∷ es) low = split (e.1.key == key) refl low (lower_places key p es)
  where
    split : (b : Bool) → (e.1.key == key) ≡ b → AllByRecursion (λ y. y.0 < p)
        (map as_stands (cond b (e ∷ filter (λ x. x.1.key == key) es) (filter (λ x. x.1.key == key) es)))
        → (AllByRecursion (λ y. y.0 < p) (map as_stands (filter (λ x. x.1.key == key) es))
        → AllByRecursion (λ x. x.1.key ≡ key → x.1.place < p) es)
        → AllByRecursion (λ x. x.1.key ≡ key → x.1.place < p) (e ∷ es)
    split true is here rest = ((λ same. here.0), rest here.1)
    split false is here rest = (
      (λ same. absurd (let is_mine = equal key in
          let is_other = subst (λ (k : ℕ). (k == key) ≡ false) same is in cc)),
      rest here,
    )

later_places : (key : ℕ) (e : ℕ × Record) (es : List (ℕ × Record)) → IsNumbered e → e.1.key ≡ key
    → AllByRecursion (λ x. e.0 < x.0) es → AllByRecursion IsNumbered es
    → AllByRecursion (λ y. e.1.place < y.0) (map as_stands (filter (λ x. x.1.key == key) es))
later_places key e [] h same up all = tt
later_places key e (x ∷ es) h same up all = split (x.1.key == key) refl (later_places key e es h same up.1 all.1)
  where
    split : (b : Bool) → (x.1.key == key) ≡ b
        → AllByRecursion (λ y. e.1.place < y.0) (map as_stands (filter (λ z. z.1.key == key) es))
        → AllByRecursion (λ y. e.1.place < y.0)
        (map as_stands (cond b (x ∷ filter (λ z. z.1.key == key) es) (filter (λ z. z.1.key == key) es)))
    split true is rest =
        let mine : x.1.key ≡ key = grind (arith, nat_tests, is) in
        (omega (arith, mine, same, h.0, all.0.0, up.0), rest)
    split false is rest = rest

pub rising_records : (key : ℕ) (es : List (ℕ × Record)) → Rise es → AllByRecursion IsNumbered es
    → Rising (map as_stands (filter (λ e. e.1.key == key) es))
rising_records key [] up all = tt
rising_records key (e ∷ es) up all = split (e.1.key == key) refl (rising_records key es up.1 all.1)
  where
    split : (b : Bool) → (e.1.key == key) ≡ b → Rising (map as_stands (filter (λ x. x.1.key == key) es))
        → Rising (map as_stands (cond b (e ∷ filter (λ x. x.1.key == key) es) (filter (λ x. x.1.key == key) es)))
    split true is rest =
        let mine : e.1.key ≡ key = grind (arith, nat_tests, is) in
        (later_places key e es all.0 mine up.0 all.1, rest)
    split false is rest = rest

-- ---- records come under a key under which there are none

pub fills_nothing : (key : ℕ) (all : List (ℕ × ℕ × List ℕ)) (s : SpoolContents) → FillsEmpty key all [] s s
fills_nothing key all s empty up = record {
  files = refl;
  others = λ k other. refl;
  records = ap (map as_stands) empty;
}

pub fills_more : (key at : ℕ) (all : List (ℕ × ℕ × List ℕ)) (x : ℕ × ℕ × List ℕ) → at < length all
    → x ≡ get_or all at x → x.0 < 2 ^ 23 → (s t : SpoolContents) → AllByRecursion IsNumbered t.records → Rise t.records
    → FillsEmpty key all (take at all) s t
    → FillsEmpty key all (take (at + 1) all) s (with_record (record_under key x) t)
fills_more key at all x within here low s t numbers rise so_far empty up =
    let done = so_far empty up in
    let r = record_under key x in
    let lower : AllByRecursion (λ e. e.1.key ≡ key → e.1.place < x.0) t.records =
    lower_places key x.0 t.records (subst (AllByRecursion (λ (y : ℕ × ℕ × List ℕ). y.0 < x.0)) (sym done.records)
    (front_lower all at x within here up)) in
    record {
      files = done.files;
      others = λ k other. skips k r low (λ h. other (sym h)) t.records numbers ∙ done.others k other;
      records = ap (map as_stands) (last r low t.records numbers rise lower)
          ∙ map-append as_stands (records_of key t) ((record_number key x.0, r) ∷ [])
          ∙ (λ i. done.records i ++ here i ∷ [])
          ∙ sym (take_more all at x within);
    }

none_left : (key : ℕ) (es : List (ℕ × Record)) → AllByRecursion IsNumbered es
    → filter (λ e. e.1.key == key)
    (without (λ n. nat_le (record_number key 0) n && nat_lt n (record_number key (2 ^ 23))) es) ≡ []
none_left key [] all = refl
none_left key (e ∷ es) all =
    split (nat_le (record_number key 0) e.0 && nat_lt e.0 (record_number key (2 ^ 23))) refl (none_left key es all.1)
  where
    split : (b : Bool) → (nat_le (record_number key 0) e.0 && nat_lt e.0 (record_number key (2 ^ 23))) ≡ b
        → filter (λ x. x.1.key == key)
        (without (λ n. nat_le (record_number key 0) n && nat_lt n (record_number key (2 ^ 23))) es) ≡ []
        → filter (λ x. x.1.key == key) (cond (not b)
        (e ∷ without (λ n. nat_le (record_number key 0) n && nat_lt n (record_number key (2 ^ 23))) es)
        (without (λ n. nat_le (record_number key 0) n && nat_lt n (record_number key (2 ^ 23))) es)) ≡ []
    split true is rest = rest
    split false is rest =
        let others = filter (λ (x : ℕ × Record). x.1.key == key)
        (without (λ n. nat_le (record_number key 0) n && nat_lt n (record_number key (2 ^ 23))) es) in
        ap (λ c. cond c (e ∷ others) others) (sym (of_key key e all.0) ∙ is) ∙ rest

-- what stood there is dropped, and these come
pub fills_after : (key : ℕ) (records : List (ℕ × ℕ × List ℕ)) (s t u : SpoolContents)
    → AllByRecursion IsNumbered s.records → t ≡ without_records key 0 (2 ^ 23) s → Rising records
    → FillsEmpty key records records t u → Fills key records s u
fills_after key records s t u numbers is up fills =
    let done = subst (λ v. FillsEmpty key records records v u) is fills (none_left key s.records numbers) up in
    record {
      files = done.files;
      others = λ k other. done.others k other ∙ stays k key 0 (2 ^ 23) (omega arith) other s.records numbers;
      records = done.records;
    }
