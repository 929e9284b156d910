-- Records of files that aren't whole are kept, one call after the other.
use Rattle.njh_keeper.proofs.Words
use Words.{◌≡◌, ℕ, ◌+◌, ◌-◌, ◌^◌, ◌<◌, ◌≤◌, min, Bool, true, false, cond}
use Words.{List, [], ◌∷◌, ◌++◌, length, get_or, set, remove, take, map, slice_get, refl, sym, ap, subst, ◌∙◌, arith}
use Words.{append-nil, length-append, map-append, map-set, nat_tests, take_all, HasCleanDisk, Ghosts, Stored}
use Words.{SpoolContents}
use Words.{without_records, shown, Changes, CustomerSpool, partial_records, Writes, Leads, numbers_of, own_of}
use Words.{partial_of, sweep_in, HasRecords, IsOrdered, WritesUnder, AllClosed, AllSeen, IsSeen, IsUpToDate, KeepsNew}
use Words.{KeepsOn, KeepsPartly, IsPartlyKept, KeptPartial, Numbers, OwnFiles, IsTaken, SpoolWriter}
use Rattle.std.proofs.{Common.{if◌then◌else◌, IsSomeAnd}, lemmas.{Bool.false≢true, Option.slice_get-get_or}}
use Rattle.njh_keeper.proofs.CountingLaws.{rows_as_partial_changes, rows_as_partial_is_swept}
use Rattle.njh_keeper.proofs.CountingLaws.{rows_as_partial_comes, sum-push}
use Rattle.njh_keeper.proofs.LeadingLaws.{leads_by, leads_nothing, leads_then, leads_weaker}
use Rattle.njh_keeper.proofs.ListLaws.{all_remove, all_set, at_place, map-remove, within_seen}
use Rattle.njh_keeper.proofs.NumberedLaws.{all-push, all_weaker}
use Rattle.njh_keeper.proofs.PartlyLaws.{Halves, halves_at, halves_remove, halves_set, keeps_begun, keeps_closed}
use Rattle.njh_keeper.proofs.PartlyLaws.{keeps_gone_on, keeps_on_nothing, keeps_on_then, keeps_swept, keeps_while_swept}
use Rattle.njh_keeper.proofs.{PartlyLaws.keeps_taken, UsesLaws.uses_as_key_is_taken}
use Rattle.njh_keeper.specs.code.Counting.{CountsMore, rows_for, rows_in, rows_of}
use Rattle.njh_keeper.specs.code.Partly.{IsSameButNumbers, IsSameButPartial, KeepsPartlyNew, KeepsStill}
use Rattle.njh_keeper.specs.code.Writing.{behind_of, dead_in, dead_of, end_of, first_of, freed_by, is_left, left_of}
use Rattle.njh_keeper.specs.code.Writing.{rest_of, without_swept}
use Rattle.njh_keeper.specs.declared.own_files.KeptPartial as kept_partial
use Rattle.njh_keeper.specs.declared.own_files.OwnFiles as own_files
use Rattle.njh_keeper.specs.declared.own_files.Sweep as sweep

never : {A : Type 0} (b : Bool) → b ≡ false → b ≡ true → A
never b closed about = absurd (false≢true (sym closed ∙ about))

-- ---- what is remembered

partly_only : (own own1 : own_files.OwnFiles) → own1 ≡ record own { partial = own1.partial } → IsSameButPartial own own1
partly_only own own1 same = same ∙ (λ j. record own
    { partial = own1.partial; sweeps = sym (ap (λ (x : own_files.OwnFiles). x.sweeps) same) j })

swept_only : (own own1 : own_files.OwnFiles) → own1 ≡ record own { sweeps = own1.sweeps } → IsSameButPartial own own1
swept_only own own1 same = same ∙ (λ j. record own
    { sweeps = own1.sweeps; partial = sym (ap (λ (x : own_files.OwnFiles). x.partial) same) j })

partly_then : (own own1 own2 : own_files.OwnFiles) → IsSameButPartial own own1 → IsSameButPartial own1 own2
    → IsSameButPartial own own2
partly_then own own1 own2 one more =
    more ∙ ap (λ (x : own_files.OwnFiles). record x { partial = own2.partial; sweeps = own2.sweeps }) one

-- ---- one call after the other

module _ {S : Type 0} (g : Ghosts S) (now : CustomerSpool) where
  same_then : (w w1 w2 : SpoolWriter S) → IsSameButNumbers w w1 → IsSameButNumbers w1 w2 → IsSameButNumbers w w2
  same_then w w1 w2 one more = more ∙ ap (λ (x : SpoolWriter S). record x
      { store = w2.store; next_key = w2.next_key; free_keys = w2.free_keys; waiting = w2.waiting })
      one

  -- one call after the other
  pub keeps_then : (w w1 w2 : SpoolWriter S) (own own1 own2 : own_files.OwnFiles)
      → (HasCleanDisk (shown g w2.store) → HasCleanDisk (shown g w1.store))
      → KeepsPartly g now w own w1 own1 → KeepsPartly g now w1 own1 w2 own2 → KeepsPartly g now w own w2 own2
  keeps_then w w1 w2 own own1 own2 early one more = record {
    led = λ clean. leads_then (one.led (early clean)) (more.led clean)
        (λ s t u. keeps_on_then now (numbers_of w) (own_of own) (numbers_of w1) (numbers_of w2) (own_of own1)
        (own_of own2) s t u);
    seen = λ seen. more.seen (one.seen seen);
    grows = omega (arith, one.grows, more.grows);
    numbers = same_then w w1 w2 one.numbers more.numbers;
    others = partly_then own own1 own2 one.others more.others;
  }

  -- a number is taken first
  pub keeps_with_taken : (w w1 w2 : SpoolWriter S) (own own2 : own_files.OwnFiles) (key : ℕ)
      → (HasCleanDisk (shown g w2.store) → HasCleanDisk (shown g w1.store))
      → IsTaken w.free_keys.items w.next_key key w1.free_keys.items w1.next_key
      → w1 ≡ record w { store = w1.store; free_keys = w1.free_keys; next_key = w1.next_key }
      → (HasCleanDisk (shown g w1.store) → Changes (without_records key 0 (2 ^ 23)) (shown g w.store)
      (shown g w1.store)) → KeepsPartlyNew g key now w1 own w2 own2 → KeepsPartly g now w own w2 own2
  keeps_with_taken w w1 w2 own own2 key early taken same emptied new =
      let n = numbers_of w in
      let n1 : Numbers = record n { free_keys = w1.free_keys.items; next_key = w1.next_key } in
      let is : numbers_of w1 ≡ n1 = ap numbers_of same in
      record {
        led = λ clean. leads_then (leads_by (emptied (early clean)))
            (subst (λ (m : Numbers). Leads (KeepsNew key m (own_of own) (numbers_of w2) (own_of own2) now)
            (shown g w1.store) (shown g w2.store)) is (new.led clean)) (λ s t u here wrote.
            keeps_taken now n (own_of own) n1 (numbers_of w2) (own_of own2) key s u refl
            (uses_as_key_is_taken n (own_of own) key w1.free_keys.items w1.next_key taken)
            (subst (λ (x : SpoolContents). KeepsNew key n1 (own_of own) (numbers_of w2) (own_of own2) now x u) here
            wrote));
        seen = new.seen;
        grows = let waits = ap (λ (x : SpoolWriter S). x.waiting) same in omega (arith, waits, new.grows);
        numbers = new.numbers ∙ ap (λ (x : SpoolWriter S). record x {
          store = w2.store;
          next_key = w2.next_key;
          free_keys = w2.free_keys;
          waiting = w2.waiting;
        }) same;
        others = new.others;
      }

  -- ---- one file

  -- only records are written
  module _ (w w1 : SpoolWriter S) (own own1 : own_files.OwnFiles)
      (same : w1 ≡ record w { store = w1.store; waiting = w1.waiting })
      (others : own1 ≡ record own { partial = own1.partial }) where
    numbers_still : numbers_of w1 ≡ numbers_of w
    numbers_still = ap numbers_of same

    is_same : IsSameButNumbers w w1
    is_same =
        same ∙ (λ i. record w {
          store = w1.store;
          waiting = w1.waiting;
          next_key = sym (ap (λ (x : SpoolWriter S). x.next_key) same) i;
          free_keys = sym (ap (λ (x : SpoolWriter S). x.free_keys) same) i;
        })

    -- those of one come for the first time
    pub keeps_first : (p : kept_partial.KeptPartial) → own1.partial.items ≡ own.partial.items ++ p ∷ []
        → p.is_open ≡ true → p.seen ≡ length (partial_records p.number now) → 1366 ≤ p.seen
        → p.written ≡ length (partial_records p.number now) → CountsMore p.written w w1
        → (HasCleanDisk (shown g w1.store) → Leads (λ s t. IsOrdered s → HasRecords p.key [] s
        → WritesUnder p.key s t × HasRecords p.key (partial_records p.number now) t) (shown g w.store)
        (shown g w1.store)) → KeepsPartlyNew g p.key now w own w1 own1
    keeps_first p items is_open seen many whole counted wrote =
        let own' : OwnFiles = record (own_of own) { partial = (own_of own).partial ++ partial_of p ∷ [] } in
        let partial : map partial_of own1.partial.items ≡ (own_of own).partial ++ partial_of p ∷ [] =
        ap (map partial_of) items ∙ map-append partial_of own.partial.items (p ∷ []) in
        let is : own_of own1 ≡ own' = ap own_of others ∙ (λ i. record (own_of own) { partial = partial i }) in
        record {
          led = λ clean.
              subst (λ (x : OwnFiles). Leads (KeepsNew p.key (numbers_of w) (own_of own) (numbers_of w1) x now)
              (shown g w.store) (shown g w1.store)) (sym is)
              (subst (λ (m : Numbers). Leads (KeepsNew p.key (numbers_of w) (own_of own) m own' now) (shown g w.store)
              (shown g w1.store)) (sym numbers_still) (leads_weaker (wrote clean)
              (λ s t written. keeps_begun now (numbers_of w) (own_of own) (partial_of p) s t whole written)));
          seen = λ all. subst (AllSeen now) (sym is)
              (all-push (IsSeen now) (own_of own).partial (partial_of p) all (λ about. (seen, many)));
          grows = let rows = ap rows_of others ∙ rows_as_partial_comes own p own1.partial.items items in omega
              (arith, rows, counted);
          numbers = is_same;
          others = partly_only own own1 others;
        }

    -- more of one come, or none
    pub keeps_more : (i : ℕ) (p q : kept_partial.KeptPartial) (n : ℕ) → i < length own.partial.items
        → p ≡ get_or own.partial.items i p → own1.partial.items ≡ set own.partial.items i q
        → p.number ≡ n → q.key ≡ p.key → q.number ≡ p.number → p.seen ≤ length (partial_records n now)
        → q.seen ≡ length (partial_records n now) → 1366 ≤ q.seen → CountsMore (q.written - p.written) w w1
        → (HasCleanDisk (shown g w1.store)
        → Leads (λ s t. IsOrdered s → IsPartlyKept s (partial_of p) (partial_records n now)
        → WritesUnder p.key s t × IsPartlyKept t (partial_of q) (partial_records n now))
        (shown g w.store) (shown g w1.store)) → KeepsPartly g now w own w1 own1
    keeps_more i p q n there at items mine key number grown seen many counted wrote =
        let ps = (own_of own).partial in
        let own' : OwnFiles = record (own_of own) { partial = set ps i (partial_of q) } in
        let partial : map partial_of own1.partial.items ≡ set ps i (partial_of q) =
        ap (map partial_of) items ∙ map-set partial_of own.partial.items i q in
        let is : own_of own1 ≡ own' = ap own_of others ∙ (λ j. record (own_of own) { partial = partial j }) in
        let within : i < length ps = within_seen partial_of own.partial.items i there in
        let here : partial_of p ≡ get_or ps i (partial_of p) = at_place partial_of own.partial.items i p there at in
        record {
          led = λ clean. subst (λ (x : OwnFiles). Leads (KeepsOn (numbers_of w) (own_of own) (numbers_of w1) x now)
              (shown g w.store) (shown g w1.store)) (sym is)
              (subst (λ (m : Numbers). Leads (KeepsOn (numbers_of w) (own_of own) m own' now) (shown g w.store)
              (shown g w1.store)) (sym numbers_still) (leads_weaker (wrote clean)
              (λ s t written. keeps_gone_on now (numbers_of w) (own_of own) i (partial_of p) within here (partial_of q)
              s t key number (subst (λ m. p.seen ≤ length (partial_records m now)) (sym mine) grown)
              (subst (λ m. IsOrdered s → IsPartlyKept s (partial_of p) (partial_records m now)
              → WritesUnder p.key s t × IsPartlyKept t (partial_of q) (partial_records m now)) (sym mine) written))));
          seen = λ all. subst (AllSeen now) (sym is)
              (all_set (IsSeen now) ps i (partial_of q) (all_remove (IsSeen now) ps i all)
              (λ about. (subst (λ m. q.seen ≡ length (partial_records m now)) (sym (number ∙ mine)) seen, many)));
          grows =
              let is_now = ap rows_of others ∙ ap (λ xs. rows_in own.whole.items xs own.sweeps.items) items in
              let changed = rows_as_partial_changes own i p there at q in
              omega (arith, is_now, changed, counted);
          numbers = is_same;
          others = partly_only own own1 others;
        }

  -- nothing is written
  pub keeps_still : (w : SpoolWriter S) (own own1 : own_files.OwnFiles) → KeepsStill now own own1
      → KeepsPartly g now w own w own1
  keeps_still w own own1 still = record {
    led = λ clean. leads_nothing (λ s. still.keeps (numbers_of w) s);
    seen = still.seen;
    grows = omega (arith, still.rows);
    numbers = refl;
    others = still.others;
  }

-- ---- files that were given up

module _ (now : CustomerSpool) where
  pub closed_are_seen : (own : OwnFiles) → AllClosed own → AllSeen now own
  closed_are_seen own all = all_weaker (λ (p : KeptPartial). p.is_open ≡ false) (IsSeen now)
      (λ p closed. never p.is_open closed) own.partial all

  pub still_nothing : (own : own_files.OwnFiles) → KeepsStill now own own
  still_nothing own =
      record { keeps = λ w s. keeps_on_nothing now w (own_of own) s; seen = λ seen. seen; rows = refl; others = refl }

  pub still_then : (own own1 own2 : own_files.OwnFiles) → KeepsStill now own own1 → KeepsStill now own1 own2
      → KeepsStill now own own2
  still_then own own1 own2 one more = record {
    keeps = λ w s. keeps_on_then now w (own_of own) w w (own_of own1) (own_of own2) s s s (one.keeps w s)
        (more.keeps w s);
    seen = λ seen. more.seen (one.seen seen);
    rows = more.rows ∙ one.rows;
    others = partly_then own own1 own2 one.others more.others;
  }

  -- the same is to be dropped
  pub still_swept : (own own1 : own_files.OwnFiles) → own1 ≡ record own { sweeps = own1.sweeps }
      → own1.sweeps.items ≡ own.sweeps.items → KeepsStill now own own1
  still_swept own own1 others same =
      let is : own_of own1 ≡ own_of own = ap own_of others
      ∙ (λ j. record (own_of own) { sweeps = map sweep_in (same j) }) in
      record {
        keeps = λ w s. subst (λ (x : OwnFiles). KeepsOn w (own_of own) w x now s s) (sym is)
            (keeps_on_nothing now w (own_of own) s);
        seen = λ all. subst (AllSeen now) (sym is) all;
        rows = ap rows_of others ∙ ap (rows_in own.whole.items own.partial.items) same;
        others = swept_only own own1 others;
      }

  module _ (own own1 : own_files.OwnFiles) (i : ℕ) (p : kept_partial.KeptPartial) (there : i < length own.partial.items)
      (at : p ≡ get_or own.partial.items i p) where
    abbrev ps : List KeptPartial
    ps = (own_of own).partial

    within : i < length ps
    within = within_seen partial_of own.partial.items i there

    here : partial_of p ≡ get_or ps i (partial_of p)
    here = at_place partial_of own.partial.items i p there at

    module _ (q : kept_partial.KeptPartial) (items : own1.partial.items ≡ set own.partial.items i q)
        (closed : q ≡ record p { is_open = false }) where
      partial_set : map partial_of own1.partial.items ≡ set ps i (partial_of q)
      partial_set = ap (map partial_of) items ∙ map-set partial_of own.partial.items i q

      -- it is not known any more whether a stream is about it
      pub still_shut : own1 ≡ record own { partial = own1.partial } → KeepsStill now own own1
      still_shut others =
          let own' : OwnFiles = record (own_of own) { partial = set ps i (partial_of q) } in
          let is : own_of own1 ≡ own' = ap own_of others ∙ (λ j. record (own_of own) { partial = partial_set j }) in
          record {
            keeps = λ w s. subst (λ (x : OwnFiles). KeepsOn w (own_of own) w x now s s) (sym is)
                (keeps_closed now w (own_of own) i (partial_of p) within here (partial_of q) s (ap partial_of closed));
            seen = λ all. subst (AllSeen now) (sym is)
                (all_set (IsSeen now) ps i (partial_of q) (all_remove (IsSeen now) ps i all)
                (never q.is_open (ap (λ x. x.is_open) closed)));
            rows =
                let is_now = ap rows_of others ∙ ap (λ xs. rows_in own.whole.items xs own.sweeps.items) items in
                let changed = rows_as_partial_changes own i p there at q in
                let same = ap (λ x. x.written) closed in
                omega (arith, is_now, changed, same);
            others = partly_only own own1 others;
          }

      pub halves_shut : p.is_open ≡ true → Halves (IsUpToDate now) (IsSeen now) i ps
          → Halves (IsUpToDate now) (IsSeen now) (i + 1) (own_of own1).partial
      halves_shut about h =
          let seen = halves_at (IsUpToDate now) (IsSeen now) i ps (partial_of p) within here h about in
          let known : IsUpToDate now (partial_of (record p { is_open = false })) =
          record { closed = refl; seen = seen.0; many = seen.1 } in
          subst (Halves (IsUpToDate now) (IsSeen now) (i + 1)) (sym partial_set)
          (halves_set (IsUpToDate now) (IsSeen now) i ps (partial_of q) h
          (subst (λ x. IsUpToDate now (partial_of x)) (sym closed) known))

    module _ (items : own1.partial.items ≡ remove own.partial.items i) where
      partial_removed : map partial_of own1.partial.items ≡ remove ps i
      partial_removed = ap (map partial_of) items ∙ map-remove partial_of own.partial.items i

      -- its records are to be dropped
      pub still_dropped : (gone : sweep.Sweep) → IsSameButPartial own own1
          → own1.sweeps.items ≡ own.sweeps.items ++ gone ∷ [] → gone.key ≡ p.key → dead_in gone ≡ rows_for p.written
          → KeepsStill now own own1
      still_dropped gone others later key all_of_it =
          let own' : OwnFiles = record (own_of own)
          { partial = remove ps i; sweeps = (own_of own).sweeps ++ sweep_in gone ∷ [] } in
          let swept : map sweep_in own1.sweeps.items ≡ (own_of own).sweeps ++ sweep_in gone ∷ [] =
          ap (map sweep_in) later ∙ map-append sweep_in own.sweeps.items (gone ∷ []) in
          let is : own_of own1 ≡ own' = ap own_of others
          ∙ (λ j. record (own_of own) { partial = partial_removed j; sweeps = swept j }) in
          record {
            keeps = λ w s. subst (λ (x : OwnFiles). KeepsOn w (own_of own) w x now s s) (sym is)
                (keeps_swept now w (own_of own) i (partial_of p) within here (sweep_in gone) s key);
            seen = λ all. subst (AllSeen now) (sym is) (all_remove (IsSeen now) ps i all);
            rows = ap rows_of others ∙ rows_as_partial_is_swept own i p there at own1.partial.items items gone all_of_it
                own1.sweeps.items later;
            others = others;
          }

      pub halves_gone : Halves (IsUpToDate now) (IsSeen now) i ps
          → Halves (IsUpToDate now) (IsSeen now) i (own_of own1).partial
      halves_gone h = subst (Halves (IsUpToDate now) (IsSeen now) i) (sym partial_removed)
          (halves_remove (IsUpToDate now) (IsSeen now) i ps h)

-- ---- files that have left

left_in_memory : (b : Bool) (rest : sweep.Sweep)
    → map sweep_in (if b then rest ∷ [] else []) ≡ cond b (sweep_in rest ∷ []) []
left_in_memory true rest = refl
left_in_memory false rest = refl

freed_in_memory : (b : Bool) (key : ℕ) → (if b then [] else key ∷ []) ≡ cond b [] (key ∷ [])
freed_in_memory true key = refl
freed_in_memory false key = refl

-- records of the last of them are dropped
module _ {S : Type 0} (g : Ghosts S) (now : CustomerSpool) (w w1 : SpoolWriter S) (own own1 : own_files.OwnFiles)
    (same : w1 ≡ record w { store = w1.store; free_keys = w1.free_keys; waiting = w1.waiting })
    (others : own1 ≡ record own { sweeps = own1.sweeps }) where
  only_swept : IsSameButNumbers w w1
  only_swept =
      same ∙ (λ j. record w {
        store = w1.store;
        free_keys = w1.free_keys;
        waiting = w1.waiting;
        next_key = sym (ap (λ (x : SpoolWriter S). x.next_key) same) j;
      })

  pub keeps_one_swept : (most : ℕ) (before : List sweep.Sweep) (last : sweep.Sweep)
      → own.sweeps.items ≡ before ++ last ∷ [] → own1.sweeps.items ≡ before ++ left_of most last
      → w1.free_keys.items ≡ w.free_keys.items ++ freed_by most last → CountsMore 0 w w1
      → dead_of own1.sweeps.items ≤ dead_of own.sweeps.items
      → (HasCleanDisk (shown g w1.store) → Changes (without_swept most last) (shown g w.store) (shown g w1.store))
      → KeepsPartly g now w own w1 own1
  keeps_one_swept most before last are left freed counts less dropped =
      let n = numbers_of w in
      let b = is_left most last in
      let rest = rest_of most last in
      let n' : Numbers = record n { free_keys = n.free_keys ++ cond b [] (last.key ∷ []) } in
      let own' : OwnFiles =
      record (own_of own) { sweeps = map sweep_in before ++ cond b (sweep_in rest ∷ []) [] } in
      let sweeps : map sweep_in own1.sweeps.items ≡ own'.sweeps =
      ap (map sweep_in) left ∙ map-append sweep_in before (left_of most last)
      ∙ ap (λ xs. map sweep_in before ++ xs) (left_in_memory b rest) in
      let free : w1.free_keys.items ≡ n'.free_keys =
      freed ∙ ap (λ xs. w.free_keys.items ++ xs) (freed_in_memory b last.key) in
      let numbers : numbers_of w1 ≡ n' = ap numbers_of same ∙ (λ j. record n { free_keys = free j }) in
      let files : own_of own1 ≡ own' = ap own_of others ∙ (λ j. record (own_of own) { sweeps = sweeps j }) in
      let mine : (own_of own).sweeps ≡ map sweep_in before ++ sweep_in last ∷ [] =
      ap (map sweep_in) are ∙ map-append sweep_in before (last ∷ []) in
      record {
        led = λ clean. subst (λ (x : OwnFiles). Leads (KeepsOn n (own_of own) (numbers_of w1) x now) (shown g w.store)
            (shown g w1.store)) (sym files)
            (subst (λ (m : Numbers). Leads (KeepsOn n (own_of own) m own' now) (shown g w.store) (shown g w1.store))
            (sym numbers) (leads_weaker (leads_by (dropped clean)) (λ s t is.
            keeps_while_swept now n (own_of own) (map sweep_in before) (sweep_in last) (sweep_in rest) b
            (first_of last) (behind_of most last) s t mine refl (omega arith) is)));
        seen = λ seen. subst (AllSeen now) (sym files) seen;
        grows = let rows = ap rows_of others in omega (arith, rows, less, counts);
        numbers = only_swept;
        others = swept_only own own1 others;
      }

-- ---- how many records are to be dropped

-- as many fewer as are dropped
pub dead_after : (most : ℕ) (before : List sweep.Sweep) (last : sweep.Sweep)
    → dead_of (before ++ left_of most last) + min most (dead_in last) ≡ dead_of before + dead_in last
dead_after most before last = by (is_left most last) refl
  where
    by : (b : Bool) → is_left most last ≡ b
        → dead_of (before ++ (if b then rest_of most last ∷ [] else [])) + min most (dead_in last)
        ≡ dead_of before + dead_in last
    by true is =
        let more = sum-push dead_in before (rest_of most last) in
        let less : behind_of most last < end_of last = grind (arith, nat_tests, is) in
        omega (arith, more, less)
    by false is =
        let none : end_of last ≤ behind_of most last = grind (arith, nat_tests, is) in
        let same : dead_of (before ++ []) ≡ dead_of before = ap dead_of (append-nil before) in
        omega (arith, none, same)

-- one fewer file, or no more than are dropped
pub sweeps_fewer : (most : ℕ) (before : List sweep.Sweep) (last : sweep.Sweep) → 0 < most
    → length (before ++ left_of most last) + (most - min most (dead_in last)) < length (before ++ last ∷ []) + most
sweeps_fewer most before last some = by (is_left most last) refl
  where
    by : (b : Bool) → is_left most last ≡ b
        → length (before ++ (if b then rest_of most last ∷ [] else [])) + (most - min most (dead_in last))
        < length (before ++ last ∷ []) + most
    by true is =
        let less : behind_of most last < end_of last = grind (arith, nat_tests, is) in
        let now = length-append before (rest_of most last ∷ []) in
        let all = length-append before (last ∷ []) in
        omega (arith, some, less, now, all)
    by false is =
        let now = ap length (append-nil before) in
        let all = length-append before (last ∷ []) in
        omega (arith, now, all)

-- what stands of one
module _ (p q : kept_partial.KeptPartial) (rs : List Stored) (key : q.key ≡ p.key) (s : SpoolContents) where
  -- nothing is written of it
  pub waits_still : q.written ≡ p.written → IsOrdered s → IsPartlyKept s (partial_of p) rs
      → WritesUnder p.key s s × IsPartlyKept s (partial_of q) rs
  waits_still same h one = (
    record { files = refl; ordered = h; others = λ other apart. refl },
    record {
      written = omega (arith, same, one.written);
      stored = subst (λ k. HasRecords k (take q.written rs) s) (sym key)
          (subst (λ n. HasRecords p.key (take n rs) s) (sym same) one.stored);
    },
  )

  -- all that is left is written
  pub rest_is_written : (t : SpoolContents) → q.written ≡ length rs → Writes p.key p.written rs s t → IsOrdered s
      → IsPartlyKept s (partial_of p) rs → WritesUnder p.key s t × IsPartlyKept t (partial_of q) rs
  rest_is_written t whole wrote h one =
      let done = wrote rs refl h one.stored in (
        done.0,
        record {
          written = omega (arith, whole);
          stored = subst (λ k. HasRecords k (take q.written rs) t) (sym key) (subst (λ xs. HasRecords p.key xs t)
              (sym (ap (λ n. take n rs) whole ∙ take_all (length rs) rs (omega arith))) done.1);
        },
      )

-- one that is found at a place
pub found_at : {X : Type 0} (P : X → Type 0) (xs : List X) (i : ℕ) (x : X) → i < length xs → x ≡ get_or xs i x
    → IsSomeAnd (slice_get xs i) P → P x
found_at P xs i x there is found = subst P (sym is) (subst (λ o. IsSomeAnd o P) (slice_get-get_or xs i x there) found)
