-- What becomes of the records under each key.
use Rattle.njh_keeper.proofs.Words
use Words.{◌≡◌, ◌≢◌, ℕ, suc, ◌+◌, ◌^◌, ◌<◌, ◌≤◌, ◌==◌, nat_le, nat_lt, ◌&&◌, true, false, not, List, [], ◌∷◌}
use Words.{◌++◌, length, map, Some, refl, sym, ap, ◌∙◌, arith, nat_tests, length-map, map-append}
use Words.{All-filter, All-from_recursion, filter_passes, recursion_from_All, AllByRecursion, Kind}
use Words.{Stored, all_put, put_rises, without_rises, File, Record, SpoolContents, contents_in, put}
use Words.{records_of, with_record, without_records, FitsHub, HasRecords, IsOrdered, contents_from}
use Words.{as_stored, are_records_from, are_records_of, file_in, kind_of_word, records_now}
use Rattle.njh_spoolfile.specs.{Kept.{IsNumbered, record_number}, Packed.{placed_from, unpacked_row}}
use Rattle.njh_keeper.proofs.{FileLaws.{is_file, is_whole}}
use Rattle.njh_keeper.proofs.{NumberedLaws.{all_filter, all_weaker, equal, equal_to, filter_none}}
use Rattle.njh_keeper.proofs.NumberedLaws.{filter-put, filter-put_other, filter-without, filter-without_other}
use Rattle.njh_keeper.proofs.{NumberedLaws.{unequal}, PackedRows.{IsUnder, row_comes}}
use Rattle.njh_keeper.specs.code.Mirrored.{as_packed}

-- ---- the order stays

pub with_record_ordered : (r : Record) (spool : SpoolContents) → IsOrdered spool → r.place < 2 ^ 23
    → IsOrdered (with_record r spool)
with_record_ordered r spool h low = record {
  files_rise = h.files_rise;
  records_rise = put_rises (record_number r.key r.place, r) spool.records h.records_rise;
  numbered = all_put IsNumbered (record_number r.key r.place, r) spool.records (refl, low) h.numbered;
}

pub without_records_ordered : (key first end : ℕ) (spool : SpoolContents) → IsOrdered spool
    → IsOrdered (without_records key first end spool)
without_records_ordered key first end spool h = record {
  files_rise = h.files_rise;
  records_rise = without_rises _ spool.records h.records_rise;
  numbered = all_filter _ IsNumbered spool.records h.numbered;
}

-- ---- records under another key

same_key : (a b p q : ℕ) → p < 2 ^ 23 → q < 2 ^ 23 → record_number a p ≡ record_number b q → a ≡ b
same_key a b p q lp lq h = omega (arith, lp, lq, h)

pub records_of_another_come : (key : ℕ) (r : Record) (spool : SpoolContents) → IsOrdered spool → r.place < 2 ^ 23
    → key ≢ r.key → records_of key (with_record r spool) ≡ records_of key spool
records_of_another_come key r spool h low other =
    let number = record_number r.key r.place in
    filter-put_other (λ e. e.1.key == key) (number, r) spool.records (unequal r.key key (λ mine. other (sym mine)))
    (all_weaker IsNumbered (λ e. e.0 ≡ number → (e.1.key == key) ≡ false)
    (λ e one here. unequal e.1.key key (λ mine. other
    (sym mine ∙ same_key e.1.key r.key e.1.place r.place one.1 low (sym one.0 ∙ here)))) spool.records h.numbered)

apart : (key j first end : ℕ) (e : ℕ × Record) → key ≢ j → end ≤ 2 ^ 23 → IsNumbered e → (e.1.key == key) ≡ true
    → (nat_le (record_number j first) e.0 && nat_lt e.0 (record_number j end)) ≡ false
apart key j first end e other within one mine = grind (arith, nat_tests, one, mine, other, within)

pub records_of_another_leave : (key j first end : ℕ) (spool : SpoolContents) → IsOrdered spool → key ≢ j → end ≤ 2 ^ 23
    → records_of key (without_records j first end spool) ≡ records_of key spool
records_of_another_leave key j first end spool h other within =
    filter-without_other (λ e. e.1.key == key) (λ n. nat_le (record_number j first) n && nat_lt n (record_number j end))
    spool.records (all_weaker IsNumbered (λ e. (e.1.key == key) ≡ true
    → (nat_le (record_number j first) e.0 && nat_lt e.0 (record_number j end)) ≡ false)
    (λ e one mine. apart key j first end e other within one mine) spool.records h.numbered)

-- ---- the records under a key, one after the other

are_under : (key : ℕ) (spool : SpoolContents) → IsOrdered spool → AllByRecursion (IsUnder key) (records_of key spool)
are_under key spool h =
    recursion_from_All (IsUnder key) (records_of key spool)
    (λ i d there. (
      All-filter (λ e. e.1.key == key) IsNumbered spool.records (All-from_recursion IsNumbered spool.records h.numbered)
          i d there,
      equal_to _ key (filter_passes (λ e. e.1.key == key) spool.records i d there),
    ))

-- ---- records come and leave

within_key : (key : ℕ) (e : ℕ × Record) → IsUnder key e
    → not (nat_le (record_number key 0) e.0 && nat_lt e.0 (record_number key (2 ^ 23))) ≡ false
within_key key e h = grind (arith, nat_tests, h)

pub all_leave : (key : ℕ) (spool : SpoolContents) → IsOrdered spool
    → HasRecords key [] (without_records key 0 (2 ^ 23) spool)
all_leave key spool h =
    let between = λ (n : ℕ). nat_le (record_number key 0) n && nat_lt n (record_number key (2 ^ 23)) in
    ap contents_in (filter-without (λ e. e.1.key == key) between spool.records
    ∙ filter_none (λ e. not (between e.0)) (records_of key spool)
    (all_weaker (IsUnder key) (λ e. not (between e.0) ≡ false) (within_key key) (records_of key spool)
    (are_under key spool h)))

module _ (key : ℕ) (rs : List Stored) (r : Record) (spool : SpoolContents) (h : IsOrdered spool)
    (has : HasRecords key rs spool) (mine : r.key ≡ key) where
  abbrev new : ℕ × Record
  new = (record_number r.key r.place, r)

  is_mine : (r.key == key) ≡ true
  is_mine = ap (λ k. k == key) mine ∙ equal key

  new_is : (place : ℕ) → r.place ≡ place → ◌≡◌ {A = ℕ × Record} new (record_number key place, r)
  new_is place at = λ i. (record_number (mine i) (at i), r)

  -- a row of these
  pub records_come_last : (xs : List Stored) → r.place ≡ length rs → unpacked_row r.srcb r.bytes ≡ map as_packed xs
      → HasRecords key (rs ++ xs) (with_record r spool)
  records_come_last xs at are =
      let place : r.place ≡ length (map as_packed rs) = at ∙ sym (length-map rs as_packed) in
      ap contents_in (filter-put (λ e. e.1.key == key) new spool.records h.records_rise is_mine
      ∙ (λ i. put (new_is (length (map as_packed rs)) place i) (records_of key spool)))
      ∙ row_comes key (records_of key spool) (map as_packed rs) (map as_packed xs) r (are_under key spool h) has place
      are
      ∙ ap (placed_from 0) (sym (map-append as_packed rs xs))

-- ---- they are read back

length-contents_from : (place : ℕ) (rs : List Stored) → length (contents_from place rs) ≡ length rs
length-contents_from place [] = refl
length-contents_from place (r ∷ rs) = ap suc (length-contents_from (place + 1) rs)

as_stored-contents_from : (place : ℕ) (rs : List Stored) → map as_stored (contents_from place rs) ≡ rs
as_stored-contents_from place [] = refl
as_stored-contents_from place (r ∷ rs) = ap (λ ys. r ∷ ys) (as_stored-contents_from (place + 1) rs)

fits_one : (place srcb long : ℕ) → (srcb < 256) × (long ≤ 256)
    → ((place == place) && (nat_lt srcb 256 && nat_le long 256)) ≡ true
fits_one place srcb long fits = grind (arith, nat_tests, fits)

fit_all : (place : ℕ) (rs : List Stored) → AllByRecursion FitsHub rs
    → are_records_from place (contents_from place rs) ≡ true
fit_all place [] fit = refl
fit_all place (r ∷ rs) fit = rw (fits_one place r.srcb (length r.bytes) fit.0) (fit_all (place + 1) rs fit.1)

module _ (key : ℕ) (rs : List Stored) (spool : SpoolContents) (has : HasRecords key rs spool) where
  pub records_read_back : map as_stored (contents_in (records_of key spool)) ≡ rs
  records_read_back = ap (map as_stored) has ∙ as_stored-contents_from 0 rs

  module _ (file : File) (count : length rs ≡ file.records) (fit : AllByRecursion FitsHub rs) where
    pub are_all_there : are_records_of file (contents_in (records_of key spool)) ≡ true
    are_all_there =
        ap (are_records_of file) has
        ∙ rw (ap (λ n. n == file.records) (length-contents_from 0 rs ∙ count) ∙ equal file.records)
        (fit_all 0 rs fit)

    pub file_reads_back : (kind : Kind) → kind_of_word file.kind ≡ Some kind → (now : List Stored)
        → records_now kind file.to_node rs ≡ Some now
        → file_in file (contents_in (records_of key spool))
        ≡ Some (record { kind = kind; held = file.held; records = now })
    file_reads_back kind word now are =
        is_file file (contents_in (records_of key spool)) kind now word
        (is_whole file (contents_in (records_of key spool)) kind are_all_there
        ∙ ap (records_now kind file.to_node) records_read_back ∙ are)
