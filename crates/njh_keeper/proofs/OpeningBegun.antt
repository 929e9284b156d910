-- The memory of the keeper as it begins: what is dropped then is no file's.
use Rattle.njh_keeper.proofs.Words
use Words.{◌≡◌, ℕ, ◌+◌, ◌-◌, ◌<◌, ◌≤◌, ◌^◌, ◌==◌, min, nat_le, nat_lt, Bool, true, false, cond, List, [], ◌∷◌, length}
use Words.{AllZip}
use Words.{get_or, inl, inr, refl, sym, ap, subst, ◌∙◌, arith, cases_Bool, eqb-false, nat_tests, AllByRecursion}
use Words.{StoredFile, File, SpoolContents, entry_of, records_of, without_records, AreDistinct, Part, AreFilesApart}
use Words.{contents_in, file_in, have_low_ids, kept_file, map, own_files, Some, suc, Whole, whole_in, zero}
use Words.{IsOrdered, own_rows, AreRemembered, HasBegun, IsOpened, entries, files_at, keyed_rows, name_at, KeptWhole}
use Words.{Numbers, OwnFiles, keyed, one_if, emptied_at, free_at, id_behind, is_used, key_behind, without_keys}
use Rattle.njh_keeper.proofs.{FrameLaws.drops_records, ListLaws.{all_both, all-map}, MirrorLaws.mirrored_still}
use Rattle.njh_keeper.proofs.{LeftLaws.mirrored_is_read_back, NumberedLaws.all_weaker, RowLaws.own_files_are}
use Rattle.njh_keeper.proofs.OpeningApart.{all_are_apart, few_unused, own_and_others}
use Rattle.njh_keeper.proofs.{OpeningApart.{rows_count, used_is}, OpeningNumbers.after_all, UsesLaws.each_counts}
use Rattle.{std.proofs.lemmas.Bool.true_from_ne_false, njh_keeper.specs.code.Writing.AreUnused}
use Rattle.njh_keeper.specs.code.Opening.{IsRowStill, IsWritten}

-- ---- records under other numbers stay

pub record IsEmptied (keys : List ℕ) (s t : SpoolContents) : Type 0 where
  pub files : t.files ≡ s.files
  pub ordered : IsOrdered t
  pub others : (key : ℕ) → keyed (λ k. k) key keys ≡ 0 → records_of key t ≡ records_of key s

emptied : (keys : List ℕ) (s : SpoolContents) → IsOrdered s → IsEmptied keys s (without_keys keys s)
emptied [] s h = record { files = refl; ordered = h; others = λ key none. refl }
emptied (k ∷ ks) s h =
    let one = drops_records k 0 (2 ^ 23) s h (omega arith) in
    let rest = emptied ks (without_records k 0 (2 ^ 23) s) one.ordered in
    record {
      files = rest.files ∙ one.files;
      ordered = rest.ordered;
      others = λ key none. elim (cases_Bool (k == key)) [
        | inl same ↦ absurd (omega (arith, ap one_if same, none))
        | inr other ↦ rest.others key (omega (arith, none)) ∙ one.others key (λ same. eqb-false k key other (sym same))
      ];
    }

-- the numbers of rows
low_ids : (files : List StoredFile) → have_low_ids files ≡ true → AllByRecursion (λ f. f.id < 2 ^ 63 - 1) files
low_ids [] low = tt
low_ids (f ∷ fs) low = by (nat_le (2 ^ 63 - 1) f.id) refl low (low_ids fs)
  where
    by : (b : Bool) → nat_le (2 ^ 63 - 1) f.id ≡ b → cond b false (have_low_ids fs) ≡ true
        → (have_low_ids fs ≡ true → AllByRecursion (λ f. f.id < 2 ^ 63 - 1) fs)
        → AllByRecursion (λ f. f.id < 2 ^ 63 - 1) (f ∷ fs)
    by true is low rest = absurd (cc low)
    by false is low rest = (grind (arith, nat_tests, is), rest low)

-- ---- what is there of the customers' files, if all is dropped under numbers that none of them has

alike : {X Y : Type 0} (f g : X → Y) (xs : List X) → AllByRecursion (λ x. f x ≡ g x) xs → map f xs ≡ map g xs
alike f g [] all = refl
alike f g (x ∷ xs) all = λ i. all.0 i ∷ alike f g xs all.1 i

pub item_at : {X : Type 0} (xs : List X) (i : ℕ) → i < length xs → (x : X) × (x ≡ get_or xs i x)
item_at [] i there = absurd (omega (arith, there))
item_at (x ∷ xs) zero there = (x, refl)
item_at (x ∷ xs) (suc i) there = let rest = item_at xs i (omega (arith, there)) in (rest.0, rest.1)

module _ (files : List StoredFile) (names : List (List ℕ)) (hub : List Part) (owns : List OwnFiles)
    (s t : SpoolContents) (rows : entries files ≡ s.files) (long : length owns ≡ length names)
    (all : AreRemembered names hub owns s t) (keys : List ℕ) (unused : AreUnused files keys) where
  abbrev u : SpoolContents
  u = without_keys keys t

  abbrev count : ℕ → ℕ
  count n = keyed (λ (f : StoredFile). f.file.key) n files

  pub empty : IsEmptied keys t u
  empty = emptied keys t all.ordered

  same_rows : (name : List ℕ) → own_rows name u ≡ own_rows name t
  same_rows name i = own_rows name (record { files = empty.files i; records = u.records })

  stays : (key : ℕ) → 1 ≤ count key → records_of key u ≡ records_of key t
  stays key least = empty.others key (unused key
      (true_from_ne_false (is_used files key) (λ is. absurd (omega (arith, least, used_is files key is)))))

  most : (name : List ℕ) (n : ℕ) → keyed_rows n (own_rows name s) ≤ count n
  most name n = omega (arith, own_and_others n name s.files, ap (keyed_rows n) rows, rows_count n files)

  pub opened : (c : ℕ) → (own : OwnFiles) → c < length owns → own ≡ get_or owns c own → IsOpened names hub u c own
  opened c own there is =
      let one = all.each c own there is in
      let counted : (n : ℕ) → keyed (λ (k : KeptWhole). k.key) n own.whole ≤ count n =
      (λ n. omega (arith, one.keys n, most (name_at names c) n)) in
      record {
        owned = one.opened.owned;
        mirrored = mirrored_still t u own (files_at c hub) one.opened.mirrored (same_rows own.name)
            (all_weaker (λ (k : KeptWhole). 1 ≤ count k.key) (λ k. records_of k.key u ≡ records_of k.key t)
            (λ k least. stays k.key least)
            own.whole (each_counts (λ (k : KeptWhole). k.key) count own.whole counted));
      }

  -- those of a customer that the hub doesn't have
  foreign : (name : List ℕ) → own_rows name t ≡ own_rows name s → own_files name u ≡ own_files name s
  foreign name same =
      let mine = own_rows name s in
      own_files_are name u ∙ ap (map (whole_in u)) (same_rows name ∙ same)
      ∙ alike (whole_in u) (whole_in s) mine (all_weaker (λ (e : ℕ × File). 1 ≤ count e.1.key)
      (λ e. whole_in u e ≡ whole_in s e) (λ e least.
      let here : records_of e.1.key u ≡ records_of e.1.key s =
      stays e.1.key least ∙ (λ i. records_of e.1.key (record { files = t.files; records = all.records i })) in
      (λ i. record { id = e.0; file = e.1; records = contents_in (here i) })) mine
      (each_counts (λ (e : ℕ × File). e.1.key) count mine (most name)))
      ∙ sym (own_files_are name s)

  pub is_written : IsWritten names hub s u
  is_written = record {
    each = λ c low.
        let there : c < length owns = omega (arith, low, long) in
        let found = item_at owns c there in
        let one = opened c found.0 there found.1 in
        subst (λ name. map (λ (w : Whole). file_in w.file w.records) (own_files name u)
        ≡ map Some (map kept_file (files_at c hub))) one.owned.name_is
        (mirrored_is_read_back u found.0 (files_at c hub) one.mirrored);
    others = λ name out. foreign name (all.others name (λ c low. out c (omega (arith, low, long))));
    still = subst (λ es. AllZip IsRowStill s.files es) (sym empty.files) all.still;
    records = all_weaker (λ (e : ℕ × File). 1 ≤ count e.1.key) (λ e. records_of e.1.key u ≡ records_of e.1.key s)
        (λ e least. stays e.1.key least
        ∙ (λ i. records_of e.1.key (record { files = t.files; records = all.records i }))) s.files
        (each_counts (λ (e : ℕ × File). e.1.key) count s.files
        (λ n. omega (arith, ap (keyed_rows n) rows, rows_count n files)));
  }

-- ---- all of it

module _ (files : List StoredFile) (names : List (List ℕ)) (hub : List Part) (owns : List OwnFiles)
    (s t : SpoolContents) (w : Numbers) (id key : ℕ) (each : AreFilesApart files) (low : have_low_ids files ≡ true)
    (rows : entries files ≡ s.files) (distinct : AreDistinct names) (long : length owns ≡ length names)
    (all : AreRemembered names hub owns s t) where
  abbrev emptied_keys : List ℕ
  emptied_keys = emptied_at files (key_behind key files)

  none_used : AreUnused files emptied_keys
  none_used = few_unused files (nat_lt 200000 (key_behind key files)) (key_behind key files + 64)

  pub has_begun : w.free_keys ≡ free_at files w.next_key → w.next_key ≡ key_behind key files
      → w.next_id ≡ id_behind id files → HasBegun names hub owns w (without_keys emptied_keys t)
  has_begun free next next_id =
      let nothing_else = empty files names hub owns s t rows long all emptied_keys none_used in
      record {
        count = long;
        each = opened files names hub owns s t rows long all emptied_keys none_used;
        apart = all_are_apart files names hub owns s t w key each rows distinct long all free next;
        ordered = nothing_else.ordered;
        below = subst (λ (es : List (ℕ × File)). AllByRecursion (λ e. e.0 < w.next_id) es) (sym nothing_else.files)
            (all.below w.next_id (subst (λ (es : List (ℕ × File)). AllByRecursion (λ e. e.0 < w.next_id) es) rows
            (all-map (λ (e : ℕ × File). e.0 < w.next_id) entry_of files
            (all_both (λ (f : StoredFile). f.id < 2 ^ 63 - 1) (λ f. min (f.id + 1) (2 ^ 63 - 1) ≤ w.next_id)
            (λ f. f.id < w.next_id) (λ f low most. omega (arith, low, most)) files (low_ids files low)
            (after_all (2 ^ 63 - 1) (λ f. f.id) id files w.next_id (omega (arith, next_id))).1))));
      }
