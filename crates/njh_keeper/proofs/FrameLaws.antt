-- What stays of the records under other keys, and of the rows of other customers.
use Rattle.std.proofs.Common.{◌≡◌, ◌≢◌, ℕ, ◌+◌, ◌^◌, ◌<◌, ◌≤◌, List, length, get_or, true, false, refl, sym, ◌∙◌, arith}
use Rattle.{std.specs.List.AllByRecursion, njh_spoolfile.specs.Kept.{File, Record, SpoolContents, with_changed}}
use Rattle.njh_spoolfile.specs.Kept.{with_file, with_record, without_file, without_records}
use Rattle.njh_keeper.proofs.RecordLaws.{records_of_another_come, records_of_another_leave, with_record_ordered}
use Rattle.njh_keeper.proofs.{RecordLaws.without_records_ordered, RowLaws.{owned_once, row_is_own}}
use Rattle.njh_keeper.proofs.RowLaws.{row_of_another_changes, row_of_another_comes, row_of_another_leaves}
use Rattle.njh_keeper.proofs.RowLaws.{with_changed_ordered, with_file_ordered, without_file_ordered}
use Rattle.njh_keeper.specs.{code.Mirrored.{IsOrdered, WritesRowsOf, WritesUnder, own_rows}, Opened.is_own}

-- ---- records under one key

module _ (key : ℕ) where
  pub writes_nothing : (s : SpoolContents) → IsOrdered s → WritesUnder key s s
  writes_nothing s h = record { files = refl; ordered = h; others = λ other apart. refl }

  pub writes_then : (s t u : SpoolContents) → WritesUnder key s t → WritesUnder key t u → WritesUnder key s u
  writes_then s t u one more = record {
    files = more.files ∙ one.files;
    ordered = more.ordered;
    others = λ other apart. more.others other apart ∙ one.others other apart;
  }

  pub writes_record : (r : Record) (s : SpoolContents) → IsOrdered s → r.place < 2 ^ 23 → r.key ≡ key
      → WritesUnder key s (with_record r s)
  writes_record r s h low mine = record {
    files = refl;
    ordered = with_record_ordered r s h low;
    others = λ other apart. records_of_another_come other r s h low (λ here. apart (here ∙ mine));
  }

  pub drops_records : (first end : ℕ) (s : SpoolContents) → IsOrdered s → end ≤ 2 ^ 23
      → WritesUnder key s (without_records key first end s)
  drops_records first end s h within = record {
    files = refl;
    ordered = without_records_ordered key first end s h;
    others = λ other apart. records_of_another_leave other key first end s h apart within;
  }

  pub changes_record : (r : Record) (s : SpoolContents) → IsOrdered s → r.place < 2 ^ 23 → r.key ≡ key
      → WritesUnder key s (with_record r (without_records key r.place (r.place + 1) s))
  changes_record r s h low mine =
      let dropped = drops_records r.place (r.place + 1) s h (omega (arith, low)) in
      writes_then s (without_records key r.place (r.place + 1) s) _ dropped
      (writes_record r (without_records key r.place (r.place + 1) s) dropped.ordered low mine)

  module _ (s t : SpoolContents) (w : WritesUnder key s t) where
    pub rows_stay : (name : List ℕ) → own_rows name t ≡ own_rows name s
    rows_stay name = λ i. own_rows name (record { files = w.files i; records = t.records })

-- ---- rows of one customer

module _ (name : List ℕ) where
  pub adds_row : (id : ℕ) (file : File) (s : SpoolContents) → IsOrdered s → AllByRecursion (λ e. e.0 < id) s.files
      → is_own name file ≡ true → WritesRowsOf name s (with_file id file s)
  adds_row id file s h all owned = record {
    records = refl;
    ordered = with_file_ordered id file s h;
    others = λ other apart. row_of_another_comes other id file s all
        (owned_once name other file owned (λ here. apart (sym here)));
  }

  module _ (s : SpoolContents) (h : IsOrdered s) (i : ℕ) (e : ℕ × File) (there : i < length (own_rows name s))
      (is : e ≡ get_or (own_rows name s) i e) where
    foreign : (other : List ℕ) → other ≢ name → is_own other e.1 ≡ false
    foreign other apart = owned_once name other e.1 (row_is_own name s h i e there is) (λ here. apart (sym here))

    pub drops_row : WritesRowsOf name s (without_file e.0 s)
    drops_row = record {
      records = refl;
      ordered = without_file_ordered e.0 s h;
      others = λ other apart. row_of_another_leaves name s h i e there is other (foreign other apart);
    }

    pub changes_row : (file : File) → is_own name file ≡ true → WritesRowsOf name s (with_changed e.0 file s)
    changes_row file owned = record {
      records = refl;
      ordered = with_changed_ordered e.0 file s h;
      others = λ other apart. row_of_another_changes name s h i e there is other (foreign other apart) file
          (owned_once name other file owned (λ here. apart (sym here)));
    }
