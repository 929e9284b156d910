-- What the calls make of a customer's spool, by its lists of numbers and its files.
use Rattle.std.proofs.Common.{◌≡◌, ◌≢◌, ℕ, ◌+◌, ◌<◌, ◌≤◌, Bool, true, false, cond, not, eqb, ◌||◌, List}
use Rattle.std.proofs.Common.{length, count_by, sum_by, refl, sym, ap, ◌∙◌, inl, inr, arith}
use Rattle.std.proofs.Common.{eq-eqb, ne_eqb}
use Rattle.std.proofs.lemmas.Bool.{cases_eq, cases_lt}
use Rattle.std.proofs.lemmas.List.{length-map}
use Rattle.njh_spool.specs.declared.file_slot.Stage.{Stage}
use Rattle.njh_spool.specs.declared.file_slot.Stage.TheVariants.{Free, Partial, Whole}
use Rattle.njh_spool.specs.declared.customer_files.CustomerFiles.{CustomerFiles}
use Rattle.njh_spool.specs.CustomerSpool.{CustomerSpool, WholeFile, PartialFile, cost, used_blocks}
use Rattle.njh_spool.specs.Spools.{files_numbered}
use Rattle.njh_spool.specs.code.Slots.{Content, is_partial, is_whole_stage, is_free, state_of, whole_file, partial_file}
use Rattle.njh_spool.specs.code.Slots.{spool_of, IsOwn}
use Rattle.njh_spool.proofs.IndexLaws.{put, put_same}
use Rattle.njh_spool.proofs.CountLaws.{is_at, sum_map, sum_off, Turns}

abbrev pub is_whole_at : ℕ → WholeFile → Bool
is_whole_at n f = eqb f.number n

abbrev pub is_partial_at : ℕ → PartialFile → Bool
is_partial_at n f = eqb f.number n

abbrev pub whole_from : ℕ → Content → WholeFile
whole_from n x = record { number = n; kind = x.kind; records = x.records; state = state_of x.stage }

abbrev pub partial_from : ℕ → Content → PartialFile
partial_from n x = record { number = n; kind = x.kind; records = x.records }

abbrev pub costs : (ℕ → Content) → ℕ → ℕ
costs files m = cost (files m).records

abbrev pub spool_with : CustomerFiles → List WholeFile → List PartialFile → CustomerSpool
spool_with own whole partial =
    record { quota = own.quota; limit = own.limit; whole = whole; partial = partial; arrived = own.arrived }

by_stage : (stage : Stage) (k : ℕ)
    → cond (is_whole_stage stage) k 0 + cond (is_partial stage) k 0 ≡ cond (is_free stage) 0 k
by_stage Free k = refl
by_stage Partial k = omega arith
by_stage (Whole state) k = omega arith

no_more : (b : Bool) → cond {A = ℕ} b 0 0 ≡ 0
no_more true = refl
no_more false = refl

one_most : (b : Bool) → cond {A = ℕ} b 0 1 ≤ 1
one_most true = omega arith
one_most false = omega arith

pub either : (stage : Stage) → (is_whole_stage stage || is_partial stage) ≡ not (is_free stage)
either Free = refl
either Partial = refl
either (Whole state) = refl

pub free_is : (stage : Stage) → is_free stage ≡ true → stage ≡ Free
free_is Free e = refl
free_is Partial e = cc
free_is (Whole state) e = cc

pub put_off : (files : ℕ → Content) (n : ℕ) (x : Content) (m : ℕ) → m ≢ n → put files n x m ≡ files m
put_off files n x m other = rw (ne_eqb m n other) refl

pub used_is : (own : CustomerFiles) (files : ℕ → Content) →
    used_blocks (spool_of own files) ≡ sum_by (costs files) own.whole + sum_by (costs files) own.partial
used_is own files =
    omega (
      arith,
      sum_map (λ (f : WholeFile). cost f.records) (whole_file files) own.whole,
      sum_map (λ (f : PartialFile). cost f.records) (partial_file files) own.partial,
    )

-- what a list of numbers has of each stage, where one file is another
turned : (test : Stage → Bool) (files : ℕ → Content) (n : ℕ) (x : Content) (s s' : Stage) (xs ys : List ℕ) →
    (files n).stage ≡ s → x.stage ≡ s' → ((m : ℕ) → count_by (is_at m) xs ≡ cond (test (files m).stage) 1 0) →
    Turns n (test s) (test s') xs ys → (m : ℕ) → count_by (is_at m) ys ≡ cond (test (put files n x m).stage) 1 0
turned test files n x s s' xs ys was now once turns m =
    let sums = turns.sums (λ k. cond {A = ℕ} (eqb k m) 1 0) in
    elim (cases_eq m n) [
      | inl same ↦
          let one : eqb n m ≡ true = eq-eqb n m (sym same) in
          let before : ◌≡◌ {A = ℕ} (cond (test (files m).stage) 1 0) (cond (test s) 1 0) = rw (same, was) refl in
          let after : ◌≡◌ {A = ℕ} (cond (test (put files n x m).stage) 1 0) (cond (test s') 1 0) =
          rw (same, eq-eqb n n refl, now) refl in
          let sums' : count_by (is_at m) ys + cond (test s) 1 0 ≡ count_by (is_at m) xs + cond (test s') 1 0 =
          rw one at sums in
          omega (arith, once m)
      | inr other ↦
          let none : eqb n m ≡ false = ne_eqb n m (λ e. other (sym e)) in
          let after : ◌≡◌ {A = ℕ} (cond (test (put files n x m).stage) 1 0) (cond (test (files m).stage) 1 0) =
          rw (ne_eqb m n other) refl in
          let sums' : count_by (is_at m) ys + cond (test s) 0 0 ≡ count_by (is_at m) xs + cond (test s') 0 0 =
          rw none at sums in
          omega (arith, once m, no_more (test s), no_more (test s'))
    ]

-- how many files have a number
count_is : (own : CustomerFiles) (files : ℕ → Content) (m : ℕ) →
    count_by (is_at m) own.whole ≡ cond (is_whole_stage (files m).stage) 1 0 →
    count_by (is_at m) own.partial ≡ cond (is_partial (files m).stage) 1 0 →
    files_numbered m (spool_of own files) ≡ cond (is_free (files m).stage) 0 1
count_is own files m whole partial =
    omega (
      arith,
      sum_map (λ (f : WholeFile). cond {A = ℕ} (eqb f.number m) 1 0) (whole_file files) own.whole,
      sum_map (λ (f : PartialFile). cond {A = ℕ} (eqb f.number m) 1 0) (partial_file files) own.partial,
      by_stage (files m).stage 1,
    )

module _ (own : CustomerFiles) (files : ℕ → Content) (is : IsOwn own files) where
  -- a file's number is below the limit
  pub numbered : (n : ℕ) → is_free (files n).stage ≡ false → n < own.limit
  numbered n used =
      let here : ◌≡◌ {A = ℕ} (cond (is_free (files n).stage) 0 1) 1 = rw used refl in
      let count = count_is own files n (is.whole_once n) (is.partial_once n) in
      elim (cases_lt n own.limit) [
        | inl below ↦ below
        | inr above ↦ absurd (omega (arith, is.sound.numbered n above))
      ]

  pub fits : own.used ≤ own.quota
  fits = omega (arith, is.counted, is.sound.within_quota)

  pub few : length own.whole + length own.partial ≤ own.limit
  few = omega (
    arith,
    is.sound.within_limit,
    length-map own.whole (whole_file files),
    length-map own.partial (partial_file files),
  )

  -- one file is another, and the lists and what is used are as it says
  pub changed : (own' : CustomerFiles) (n : ℕ) (x : Content) (s s' : Stage) → (files n).stage ≡ s → x.stage ≡ s' →
      Turns n (is_whole_stage s) (is_whole_stage s') own.whole own'.whole →
      Turns n (is_partial s) (is_partial s') own.partial own'.partial → own'.quota ≡ own.quota → own'.limit ≡ own.limit
      →
      own'.used + cond (is_free s) 0 (cost (files n).records) ≡ own.used + cond (is_free s') 0 (cost x.records) →
      own'.used ≤ own.quota → length own'.whole + length own'.partial ≤ own.limit → n < own.limit
      → IsOwn own' (put files n x)
  changed own' n x s s' was now whole partial quota limit used fits few below =
      let new = put files n x in
      let whole_once = turned is_whole_stage files n x s s' own.whole own'.whole was now is.whole_once whole in
      let partial_once = turned is_partial files n x s s' own.partial own'.partial was now is.partial_once partial in
      let here : (test : Stage → Bool) (k : ℕ) → k ≡ cond (test (put files n x n).stage) 1 0 → k ≡ cond (test s') 1 0 =
      λ test k e. e ∙ ap (λ (y : Content). cond {A = ℕ} (test y.stage) 1 0) (put_same files n x)
      ∙ ap (λ (t : Stage). cond {A = ℕ} (test t) 1 0) now in
      let off : (m : ℕ) → m ≢ n → costs new m ≡ costs files m = λ m other. ap (λ (y : Content). cost y.records)
      (put_off files n x m other) in
      let cost_now : costs new n ≡ cost x.records = ap (λ (y : Content). cost y.records) (put_same files n x) in
      let sum_whole = sum_off n (costs new) (costs files) own'.whole (is_whole_stage s') off
      (here is_whole_stage (count_by (is_at n) own'.whole) (whole_once n)) in
      let sum_partial = sum_off n (costs new) (costs files) own'.partial (is_partial s') off
      (here is_partial (count_by (is_at n) own'.partial) (partial_once n)) in
      let blocks : own'.used ≡ used_blocks (spool_of own' new) =
      omega (
        arith,
        used_is own files,
        used_is own' new,
        is.counted,
        whole.sums (costs files),
        partial.sums (costs files),
        sum_whole,
        sum_partial,
        by_stage s (costs files n),
        by_stage s' (costs files n),
        by_stage s' (costs new n),
        ap (λ (k : ℕ). cond (is_free s') 0 k) cost_now,
      ) in
      let count = λ (m : ℕ). count_is own' new m (whole_once m) (partial_once m) in
      record {
        counted = blocks;
        sound = record {
          within_quota = omega arith;
          within_limit =
              omega (arith, length-map own'.whole (whole_file new), length-map own'.partial (partial_file new));
          apart = λ m. omega (arith, count m, one_most (is_free (new m).stage));
          numbered = λ m high.
              let other : m ≢ n = λ same. omega arith in
              let same = ap (λ (y : Content). cond {A = ℕ} (is_free y.stage) 0 1) (put_off files n x m other) in
              omega (
                arith,
                count m,
                count_is own files m (is.whole_once m) (is.partial_once m),
                is.sound.numbered m (omega arith),
              );
          quota_limit = omega (arith, is.sound.quota_limit);
          files_limit = omega (arith, is.sound.files_limit);
        };
        whole_once = whole_once;
        partial_once = partial_once;
      }
