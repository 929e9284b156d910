-- What a writer's calls do to a spool, one after the other.
use Rattle.njh_keeper.proofs.Words
use Words.{◌≡◌, ℕ, suc, ◌+◌, ◌-◌, ◌<◌, ◌≤◌, ◌^◌, ◌&&◌, min, nat_le, nat_lt, Bool, true, false, not, cond, List, []}
use Words.{◌∷◌, ◌++◌, filter, length, slice_index_or, refl, inl, inr, sym, ap, subst, ◌∙◌, arith, cases_lt, nat_tests}
use Words.{Database, State, CommitState, Stands, Record, SpoolContents, Holds, without_records, Changes, is_marked}
use Words.{clean_before, HasCleanDisk, numbers_but, ShowsNow, Survives, unmarked, without_keys}
use Rattle.sqlite.proofs.StateLemmas.{survives_then}
use Rattle.{std.proofs.lemmas.List.{append-nil, append_assoc}, njh_spoolfile.specs.Steps.Commits}
use Rattle.njh_spoolfile.specs.Kept.{record_number, records_between}
use Rattle.njh_keeper.specs.code.Writing.{below, Drops, HoldChanged, is_due}

-- a change that waits
stands_changed : (change : SpoolContents → SpoolContents) (s : CommitState) (old new : State)
    → Changes change old new → Stands s old → Stands (record s { now = change s.now }) new
stands_changed change s old new made at = record {
  is_open = made.is_open;
  now = made.holds s.now at.now;
  kept = subst (λ (d : Database). Holds s.kept d.trees) (sym made.committed) at.kept;
}

-- what waits is committed
pub stands_kept : (s : CommitState) (old new : State) → Commits old new → Stands s old
    → Stands (record { now = s.now; kept = s.now }) new
stands_kept s old new by at = record {
  is_open = by.is_open;
  now = subst (λ (d : Database). Holds s.now d.trees) (sym by.now) at.now;
  kept = subst (λ (d : Database). Holds s.now d.trees) (sym by.committed) at.now;
}

-- ---- how many wait

-- those that leave and those that stay are all
parted : {X : Type 0} (p : X → Bool) (xs : List X)
    → length (filter (λ x. not (p x)) xs) + length (filter p xs) ≡ length xs
parted p [] = refl
parted p (x ∷ xs) = by (p x) (parted p xs)
  where
    by : (b : Bool) → length (filter (λ y. not (p y)) xs) + length (filter p xs) ≡ length xs
        → length (cond (not b) (x ∷ filter (λ y. not (p y)) xs) (filter (λ y. not (p y)) xs))
        + length (cond b (x ∷ filter p xs) (filter p xs)) ≡ length (x ∷ xs)
    by true rest = omega (arith, rest)
    by false rest = omega (arith, rest)

few_wait : (kept now left count waited waiting : ℕ) → left + count ≡ now → waiting ≡ min (waited + count) (2 ^ 32 - 1)
    → waiting < 4096 → kept ≤ now + waited → kept ≤ left + waiting
few_wait kept now left count waited waiting all is few within = omega (arith, all, is, few, within)

pub not_due : (is_changed : Bool) (waiting : ℕ) → is_due is_changed waiting ≡ false → waiting < 4096
not_due true waiting is = absurd (cc is)
not_due false waiting is = let low : nat_le 4096 waiting ≡ false = is in grind (arith, nat_tests, low)

-- The records under a number are dropped. They wait, or all is committed.
module _ (key : ℕ) (s : CommitState) (old mid : State) (count waited waiting : ℕ)
    (made : Changes (without_records key 0 (2 ^ 23)) old mid)
    (counted : (spool : SpoolContents) → Holds spool old.now.trees
    → count ≡ length (records_between key 0 (2 ^ 23) spool)) (at : Stands s old) where
  pub drops_waiting : waiting ≡ min (waited + count) (2 ^ 32 - 1) → waiting < 4096
      → Drops (without_records key 0 (2 ^ 23)) waited waiting s mid
  drops_waiting is few =
      let left = length (without_records key 0 (2 ^ 23) s.now).records in
      let all : left + count ≡ length s.now.records = ap (λ n. left + n) (counted s.now at.now)
      ∙ parted (λ (e : ℕ × Record). nat_le (record_number key 0) e.0 && nat_lt e.0 (record_number key (2 ^ 23)))
      s.now.records in
      record {
        kept = s.kept;
        stands = stands_changed (without_records key 0 (2 ^ 23)) s old mid made at;
        few = few_wait (length s.kept.records) (length s.now.records) left count waited waiting all is few;
      }

  pub drops_kept : (new : State) → Commits mid new → Drops (without_records key 0 (2 ^ 23)) waited waiting s new
  drops_kept new by = record {
    kept = without_records key 0 (2 ^ 23) s.now;
    stands = stands_kept (record s { now = without_records key 0 (2 ^ 23) s.now }) mid new by
        (stands_changed (without_records key 0 (2 ^ 23)) s old mid made at);
    few = λ within. omega arith;
  }

-- ---- numbers without a mark

-- one number more
pub keys_more : (keys : List ℕ) (key : ℕ) (s : SpoolContents)
    → without_keys (keys ++ key ∷ []) s ≡ without_records key 0 (2 ^ 23) (without_keys keys s)
keys_more [] key s = refl
keys_more (k ∷ ks) key s = keys_more ks key (without_records k 0 (2 ^ 23) s)

one_more : (n : ℕ) → suc n ≡ n + 1
one_more n = omega arith

pub passes_more : (passes : ℕ → Bool) (key : ℕ) → passes key ≡ true
    → numbers_but passes (key + 1) ≡ numbers_but passes key
passes_more passes key is = subst (λ n. numbers_but passes n ≡ numbers_but passes key) (one_more key) (rw is refl)

pub fails_more : (passes : ℕ → Bool) (key : ℕ) → passes key ≡ false
    → numbers_but passes (key + 1) ≡ numbers_but passes key ++ key ∷ []
fails_more passes key is = subst (λ n. numbers_but passes n ≡ numbers_but passes key ++ key ∷ []) (one_more key)
    (rw is refl)

pub marked_more : (marks : List Bool) (key : ℕ) → slice_index_or marks key false ≡ true
    → unmarked marks (key + 1) ≡ unmarked marks key
marked_more marks key is = passes_more (is_marked marks) key is

pub unmarked_more : (marks : List Bool) (key : ℕ) → slice_index_or marks key false ≡ false
    → unmarked marks (key + 1) ≡ unmarked marks key ++ key ∷ []
unmarked_more marks key is = fails_more (is_marked marks) key is

pub dropped_more : (marks : List Bool) (key : ℕ) (s : SpoolContents) → slice_index_or marks key false ≡ false
    → without_records key 0 (2 ^ 23) (without_keys (unmarked marks key) s) ≡ without_keys (unmarked marks (key + 1)) s
dropped_more marks key s is = sym (keys_more (unmarked marks key) key s)
    ∙ ap (λ keys. without_keys keys s) (sym (unmarked_more marks key is))

pub emptied_more : (marks : List Bool) (key waited waiting : ℕ) (s : CommitState) (mid new : State)
    → slice_index_or marks key false ≡ false → ShowsNow (without_keys (unmarked marks key)) s mid
    → ((t : CommitState) → Stands t mid → Drops (without_records key 0 (2 ^ 23)) waited waiting t new)
    → ShowsNow (without_keys (unmarked marks (key + 1))) s new
emptied_more marks key waited waiting s mid new is at made =
    let more = made (record { now = without_keys (unmarked marks key) s.now; kept = at.0 }) at.1 in (
      more.kept,
      subst (λ now. Stands (record { now = now; kept = more.kept }) new) (dropped_more marks key s.now is) more.stands,
    )

-- ---- what may be committed on the way

-- a change that waits is
pub changed_kept : (change : SpoolContents → SpoolContents) (old mid new : State)
    → (HasCleanDisk mid → Changes change old mid) → Survives old mid (λ _. ⊥)
    → Survives mid new (λ trees. trees ≡ mid.now.trees)
    → Survives old new (HoldChanged change old)
changed_kept change old mid new made one more =
    survives_then old mid new (λ _. ⊥) (λ trees. trees ≡ mid.now.trees) (HoldChanged change old)
    (λ clean db none. absurd none)
    (λ clean db is s at. subst (Holds (change s.now)) (sym is) ((made (clean_before more clean)).holds s.now at.now))
    one more

-- what is dropped under one more number
pub emptied_kept : (marks : List Bool) (key : ℕ) (old mid new : State) → slice_index_or marks key false ≡ false
    → (HasCleanDisk mid → (s : CommitState) → Stands s old
    → ShowsNow (without_keys (unmarked marks key)) s mid)
    → Survives old mid (λ trees. (n : ℕ) × HoldChanged (without_keys (unmarked marks n)) old trees)
    → Survives mid new (HoldChanged (without_records key 0 (2 ^ 23)) mid)
    → Survives old new (λ trees. (n : ℕ) × HoldChanged (without_keys (unmarked marks n)) old trees)
emptied_kept marks key old mid new is so_far one more =
    survives_then old mid new _ (HoldChanged (without_records key 0 (2 ^ 23)) mid) _ (λ clean db made. made)
    (λ clean db made. (
      key + 1,
      λ s at. let here = so_far (clean_before more clean) s at in
          subst (λ now. Holds now db) (dropped_more marks key s.now is)
          (made (record { now = without_keys (unmarked marks key) s.now; kept = here.0 }) here.1),
    )) one more

-- of the numbers below another one too
low : (a b : ℕ) → a < b → (min a b ≡ a) × (min (a + 1) b ≡ a + 1) × (below b a ≡ a ∷ [])
low a b less = (omega (arith, less), omega (arith, less), grind (arith, less))

high : (a b : ℕ) → b ≤ a → (min a b ≡ b) × (min (a + 1) b ≡ b) × (below b a ≡ [])
high a b less = (omega (arith, less), omega (arith, less), grind (arith, less))

pub marked_below : (marks : List Bool) (key next : ℕ) → slice_index_or marks key false ≡ true
    → unmarked marks (min (key + 1) next) ≡ unmarked marks (min key next)
marked_below marks key next is = elim (cases_lt key next) [
  | inl less ↦ let h = low key next less in rw (h.0, h.1) (marked_more marks key is)
  | inr more ↦ let h = high key next more in rw (h.0, h.1) refl
]

pub unmarked_below : (marks : List Bool) (key next : ℕ) → slice_index_or marks key false ≡ false
    → unmarked marks (min (key + 1) next) ≡ unmarked marks (min key next) ++ below next key
unmarked_below marks key next is = elim (cases_lt key next) [
  | inl less ↦ let h = low key next less in rw (h.0, h.1, h.2) (unmarked_more marks key is)
  | inr more ↦ let h = high key next more in rw (h.0, h.1, h.2) (sym (append-nil (unmarked marks next)))
]

pub free_more : (marks : List Bool) (key next next_now : ℕ) (free now new : List ℕ)
    → slice_index_or marks key false ≡ false → next_now ≡ next
    → now ≡ free ++ unmarked marks (min key next) → new ≡ now ++ below next_now key
    → new ≡ free ++ unmarked marks (min (key + 1) next)
free_more marks key next next_now free now new is same so_far more =
    let assoc = append_assoc free (unmarked marks (min key next)) (below next key) in
    let here = unmarked_below marks key next is in
    cc
