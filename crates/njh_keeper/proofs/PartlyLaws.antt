-- What is remembered of files that aren't whole, and what stands of them on a spool file, call by call.
use Rattle.njh_keeper.proofs.Words
use Words.{◌≡◌, ◌≢◌, ℕ, zero, suc, ◌+◌, ◌^◌, ◌<◌, ◌≤◌, Bool, false, cond, List, [], ◌∷◌, ◌++◌, length, get_or, set}
use Words.{remove, take, refl, sym, ap, subst, ◌∙◌, arith, take_all, AllByRecursion, ⊤, SpoolContents, contents_in}
use Words.{records_of, without_records, CustomerSpool, partial_records, HasRecords, IsOrdered, WritesUnder, GoesOn}
use Words.{KeepsNew, KeepsOn, IsPartlyKept, KeptPartial, Numbers, OwnFiles, Sweep, claim, uses, with_key, Mirrored}
use Words.{Moves, WholeFile, AreApart}
use Rattle.njh_keeper.proofs.{FrameLaws.drops_records, ListLaws.{all_remove, all_set, all_both}}
use Rattle.njh_keeper.proofs.MirrorLaws.{mirrored_under, moves_memory, moves_nothing, moves_then, moves_under}
use Rattle.njh_keeper.proofs.{MirrorLaws.still_apart, NumberedLaws.{all-push, all_at}, RecordLaws.all_leave}
use Rattle.njh_keeper.proofs.UsesLaws.{in_hand_alone, in_hand_is_used, partial_is_apart, sweep_is_apart}
use Rattle.njh_keeper.proofs.UsesLaws.{uses_as_one_is_swept, uses_as_partial_changes, uses_as_partial_comes}
use Rattle.njh_keeper.proofs.UsesLaws.{uses_as_partial_is_swept}

-- P of those before a place, and Q of the others
module _ {X : Type 0} (P Q : X → Type 0) where
  abbrev pub Halves : ℕ → List X → Type 0
  Halves zero xs = AllByRecursion Q xs
  Halves (suc i) [] = ⊤
  Halves (suc i) (x ∷ xs) = P x × Halves i xs

  pub halves_at : (i : ℕ) (xs : List X) (x : X) → i < length xs → x ≡ get_or xs i x → Halves i xs → Q x
  halves_at i [] x there is h = absurd (omega (arith, there))
  halves_at zero (y ∷ xs) x there is h = subst Q (sym is) h.0
  halves_at (suc i) (y ∷ xs) x there is h = halves_at i xs x (omega (arith, there)) is h.1

  pub halves_set : (i : ℕ) (xs : List X) (x : X) → Halves i xs → P x → Halves (i + 1) (set xs i x)
  halves_set i xs x h one = subst (λ n. Halves n (set xs i x)) (more i) (go i xs h)
    where
      more : (n : ℕ) → suc n ≡ n + 1
      more n = omega arith

      go : (n : ℕ) (ys : List X) → Halves n ys → Halves (suc n) (set ys n x)
      go n [] all = tt
      go zero (y ∷ ys) all = (one, all.1)
      go (suc n) (y ∷ ys) all = (all.0, go n ys all.1)

  pub halves_remove : (i : ℕ) (xs : List X) → Halves i xs → Halves i (remove xs i)
  halves_remove zero [] h = tt
  halves_remove (suc i) [] h = tt
  halves_remove zero (y ∷ xs) h = h.1
  halves_remove (suc i) (y ∷ xs) h = (h.0, halves_remove i xs h.1)

  pub halves_end : (i : ℕ) (xs : List X) → length xs ≤ i → Halves i xs → AllByRecursion P xs
  halves_end i [] past h = tt
  halves_end zero (y ∷ xs) past h = absurd (omega (arith, past))
  halves_end (suc i) (y ∷ xs) past h = (h.0, halves_end i xs (omega (arith, past)) h.1)

-- ---- records of files that aren't whole stay

module _ (now : CustomerSpool) (s t : SpoolContents) where
  goes_on_still : (p : KeptPartial) → records_of p.key t ≡ records_of p.key s → GoesOn now s p → GoesOn now t p
  goes_on_still p same goes more = let one =
      goes more in record { written = one.written; stored = ap contents_in same ∙ one.stored }

  pub still_all : (ps : List KeptPartial) → AllByRecursion (λ p. records_of p.key t ≡ records_of p.key s) ps
      → AllByRecursion (GoesOn now s) ps → AllByRecursion (GoesOn now t) ps
  still_all =
      all_both (λ p. records_of p.key t ≡ records_of p.key s) (GoesOn now s) (GoesOn now t) goes_on_still

  under_all : (key : ℕ) → WritesUnder key s t → (ps : List KeptPartial) → AllByRecursion (λ p. p.key ≢ key) ps
      → AllByRecursion (GoesOn now s) ps → AllByRecursion (GoesOn now t) ps
  under_all key under = all_both (λ p. p.key ≢ key) (GoesOn now s) (GoesOn now t)
      (λ p other. goes_on_still p (under.others p.key other))

-- ---- a number is taken

module _ (w : Numbers) (own : OwnFiles) (s : SpoolContents) (files : List WholeFile) (h : IsOrdered s)
    (all : Mirrored s own files) where
  -- a number is taken, under which no records stand then
  module _ (w' : Numbers) (key : ℕ) (taken : (n : ℕ) → (with_key key (claim w' own)).uses n ≡ uses n w own) where
    abbrev emptied : SpoolContents
    emptied = without_records key 0 (2 ^ 23) s

    writes : WritesUnder key s emptied
    writes = drops_records key 0 (2 ^ 23) s h (omega arith)

    pub taken_is_empty : HasRecords key [] emptied
    taken_is_empty = all_leave key s h

    pub take_follows : w'.next_id ≡ w.next_id → AreApart (claim w own)
        → Moves (claim w own) (with_key key (claim w' own)) s emptied × Mirrored emptied own files
    take_follows next apart = (
      moves_under (claim w own) (with_key key (claim w' own)) s refl
          (λ n. let same = taken n in omega (arith, same)) key emptied writes
          (let same = taken key in let busy = in_hand_is_used w' own key in omega (arith, same, busy)) next,
      mirrored_under s emptied own files all key writes
          (in_hand_alone w' own key (λ n. let same = taken n in let once = apart n in omega (arith, same, once))).0,
    )

-- ---- one after the other

module _ (now : CustomerSpool) (w : Numbers) (own : OwnFiles) where
  pub keeps_on_nothing : (s : SpoolContents) → KeepsOn w own w own now s s
  keeps_on_nothing s files h apart all go_on =
      record { moves = moves_nothing (claim w own) s h; mirrored = all; go_on = go_on }

  pub keeps_on_then : (w1 w2 : Numbers) (own1 own2 : OwnFiles) (s t u : SpoolContents) → KeepsOn w own w1 own1 now s t
      → KeepsOn w1 own1 w2 own2 now t u → KeepsOn w own w2 own2 now s u
  keeps_on_then w1 w2 own1 own2 s t u one more files h apart all go_on =
      let first = one files h apart all go_on in
      let then = more files first.moves.ordered (still_apart (claim w own) (claim w1 own1) s t first.moves apart)
      first.mirrored first.go_on in
      record {
        moves = moves_then (claim w own) (claim w1 own1) (claim w2 own2) s t u first.moves then.moves;
        mirrored = then.mirrored;
        go_on = then.go_on;
      }

  -- a number is taken, under which no records stand then, and records of a file come to stand there
  pub keeps_taken : (w1 w2 : Numbers) (own2 : OwnFiles) (key : ℕ) (s u : SpoolContents) → w1.next_id ≡ w.next_id
      → ((n : ℕ) → (with_key key (claim w1 own)).uses n ≡ uses n w own)
      → KeepsNew key w1 own w2 own2 now (without_records key 0 (2 ^ 23) s) u → KeepsOn w own w2 own2 now s u
  keeps_taken w1 w2 own2 key s u next taken new files h apart all go_on =
      let t = without_records key 0 (2 ^ 23) s in
      let first = take_follows w own s files h all w1 key taken next apart in
      let mid = still_apart (claim w own) (with_key key (claim w1 own)) s t first.0 apart in
      let then = new files first.0.ordered mid (taken_is_empty w own s files h all w1 key taken) first.1
      (under_all now s t key (drops_records key 0 (2 ^ 23) s h (omega arith)) own.partial
      (in_hand_alone w1 own key mid).1 go_on) in
      record {
        moves = moves_then (claim w own) (with_key key (claim w1 own)) (claim w2 own2) s t u first.0 then.moves;
        mirrored = then.mirrored;
        go_on = then.go_on;
      }

  -- ---- the calls

  -- one comes
  pub keeps_begun : (p : KeptPartial) (s t : SpoolContents) → p.written ≡ length (partial_records p.number now)
      → (IsOrdered s → HasRecords p.key [] s
      → WritesUnder p.key s t × HasRecords p.key (partial_records p.number now) t)
      → KeepsNew p.key w own w (record own { partial = own.partial ++ p ∷ [] }) now s t
  keeps_begun p s t whole written files h apart empty all go_on =
      let wrote = written h empty in
      let alone = in_hand_alone w own p.key apart in
      record {
        moves =
            moves_under (with_key p.key (claim w own)) (claim w (record own { partial = own.partial ++ p ∷ [] })) s refl
            (λ n. let same = uses_as_partial_comes w own p n in omega (arith, same)) p.key t wrote.0
            (in_hand_is_used w own p.key) refl;
        mirrored = mirrored_under s t own files all p.key wrote.0 alone.0;
        go_on = all-push (GoesOn now t) own.partial p (under_all now s t p.key wrote.0 own.partial alone.1 go_on)
            (λ more. record {
              written = omega (arith, whole);
              stored = subst (λ rs. HasRecords p.key rs t) (sym (ap (λ n. take n (partial_records p.number now)) whole
                  ∙ take_all (length (partial_records p.number now)) (partial_records p.number now) (omega arith)))
                  wrote.1;
            });
      }

  -- some of what a file left that has left are dropped
  pub keeps_while_swept : (rest : List Sweep) (sweep further : Sweep) (b : Bool) (first end : ℕ) (s t : SpoolContents)
      → own.sweeps ≡ rest ++ sweep ∷ [] → further.key ≡ sweep.key → end ≤ 2 ^ 23
      → t ≡ without_records sweep.key first end s
      → KeepsOn w own (record w { free_keys = w.free_keys ++ cond b [] (sweep.key ∷ []) })
      (record own { sweeps = rest ++ cond b (further ∷ []) [] }) now s t
  keeps_while_swept rest sweep further b first end s t are same within dropped files h apart all go_on =
      let w' : Numbers = record w { free_keys = w.free_keys ++ cond b [] (sweep.key ∷ []) } in
      let own' : OwnFiles = record own { sweeps = rest ++ cond b (further ∷ []) [] } in
      let under : WritesUnder sweep.key s t =
      subst (λ u. WritesUnder sweep.key s u) (sym dropped) (drops_records sweep.key first end s h within) in
      let alone = sweep_is_apart w own rest sweep are apart in
      record {
        moves = moves_under (claim w own) (claim w' own') s refl
            (λ n. let used = uses_as_one_is_swept w own rest sweep further b are same n in omega (arith, used))
            sweep.key t under alone.2 refl;
        mirrored = mirrored_under s t own files all sweep.key under alone.0;
        go_on = under_all now s t sweep.key under own.partial alone.1 go_on;
      }

  module _ (i : ℕ) (p : KeptPartial) (there : i < length own.partial) (is : p ≡ get_or own.partial i p) where
    -- of one more records come
    pub keeps_gone_on : (q : KeptPartial) (s t : SpoolContents) → q.key ≡ p.key → q.number ≡ p.number
        → p.seen ≤ length (partial_records p.number now)
        → (IsOrdered s → IsPartlyKept s p (partial_records p.number now)
        → WritesUnder p.key s t × IsPartlyKept t q (partial_records p.number now))
        → KeepsOn w own w (record own { partial = set own.partial i q }) now s t
    keeps_gone_on q s t key number grown written files h apart all go_on =
        let here = all_at (GoesOn now s) own.partial i p go_on there is in
        let wrote = written h (here grown) in
        let alone = partial_is_apart w own i p there is apart in
        record {
          moves = moves_under (claim w own) (claim w (record own { partial = set own.partial i q })) s refl
              (λ n. let same = uses_as_partial_changes w own i p q there is key n in omega (arith, same)) p.key t
              wrote.0 alone.2 refl;
          mirrored = mirrored_under s t own files all p.key wrote.0 alone.0;
          go_on = all_set (GoesOn now t) own.partial i q (under_all now s t p.key wrote.0 (remove own.partial i) alone.1
              (all_remove (GoesOn now s) own.partial i go_on))
              (λ more. subst (λ n. IsPartlyKept t q (partial_records n now)) (sym number) wrote.1);
        }

    -- no stream is known to be about it
    pub keeps_closed : (q : KeptPartial) (s : SpoolContents) → q ≡ record p { is_open = false }
        → KeepsOn w own w (record own { partial = set own.partial i q }) now s s
    keeps_closed q s closed files h apart all go_on =
        let here = all_at (GoesOn now s) own.partial i p go_on there is in
        record {
          moves = moves_memory (claim w own) (claim w (record own { partial = set own.partial i q })) s refl
              (λ n. let same = uses_as_partial_changes w own i p q there is (ap (λ x. x.key) closed) n in omega
              (arith, same)) h (omega arith);
          mirrored = all;
          go_on = all_set (GoesOn now s) own.partial i q (all_remove (GoesOn now s) own.partial i go_on)
              (subst (GoesOn now s) (sym closed)
              (λ more. let one = here more in record { written = one.written; stored = one.stored }));
        }

    -- it is swept
    pub keeps_swept : (sweep : Sweep) (s : SpoolContents) → sweep.key ≡ p.key
        → KeepsOn w own w (record own { partial = remove own.partial i; sweeps = own.sweeps ++ sweep ∷ [] }) now s s
    keeps_swept sweep s same files h apart all go_on = record {
      moves = moves_memory (claim w own)
          (claim w (record own { partial = remove own.partial i; sweeps = own.sweeps ++ sweep ∷ [] })) s refl
          (λ n. uses_as_partial_is_swept w own i p sweep there is same n) h (omega arith);
      mirrored = all;
      go_on = all_remove (GoesOn now s) own.partial i go_on;
    }
