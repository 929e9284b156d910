-- What becomes of the rows of each customer.
use Rattle.njh_keeper.proofs.Words
use Words.{◌≡◌, ◌≢◌, ℕ, ◌+◌, ◌<◌, ◌==◌, Bool, true, false, List, [], ◌∷◌, ◌++◌, length, get_or, set, remove, map}
use Words.{filter, refl, sym, ap, subst, append-nil, ◌∙◌, arith, filter_passes, AllByRecursion, Trees, all_put}
use Words.{put_rises, without_rises, File, Holds, SpoolContents, Whole, Rise, put, whole_in, with_file, without_file}
use Words.{with_changed, IsOrdered, own_rows, is_own, own_files}
use Rattle.std.proofs.lemmas.{Bool.false_from_ne_true, List.Elements.filter-append}
use Rattle.njh_keeper.proofs.{HubLaws.one_name, NumberedLaws.{all_at, all_filter, all_weaker, filter-map, kept_apart}}
use Rattle.njh_keeper.proofs.NumberedLaws.{rises_filter, filter_there, filter-put, filter-put_other, filter-without}
use Rattle.njh_keeper.proofs.NumberedLaws.{filter-without_other, one_at, put_at, put_last, unequal, without_at}

-- ---- the order is there, and stays

pub is_ordered : (spool : SpoolContents) (trees : Trees) → Holds spool trees → IsOrdered spool
is_ordered spool trees h = record { files_rise = h.files_rise; records_rise = h.records_rise; numbered = h.numbered }

pub with_file_ordered : (id : ℕ) (file : File) (spool : SpoolContents) → IsOrdered spool
    → IsOrdered (with_file id file spool)
with_file_ordered id file spool h = record
    { files_rise = put_rises (id, file) spool.files h.files_rise; records_rise = h.records_rise; numbered = h.numbered }

pub without_file_ordered : (id : ℕ) (spool : SpoolContents) → IsOrdered spool → IsOrdered (without_file id spool)
without_file_ordered id spool h = record {
  files_rise = without_rises (λ n. n == id) spool.files h.files_rise;
  records_rise = h.records_rise;
  numbered = h.numbered;
}

pub with_changed_ordered : (id : ℕ) (file : File) (spool : SpoolContents) → IsOrdered spool
    → IsOrdered (with_changed id file spool)
with_changed_ordered id file spool h = with_file_ordered id file (without_file id spool)
    (without_file_ordered id spool h)

pub below_with_file : (id : ℕ) (file : File) (spool : SpoolContents) → AllByRecursion (λ e. e.0 < id) spool.files
    → AllByRecursion (λ e. e.0 < id + 1) (with_file id file spool).files
below_with_file id file spool all =
    all_put (λ e. e.0 < id + 1) (id, file) spool.files (omega arith)
    (all_weaker (λ (e : ℕ × File). e.0 < id) (λ e. e.0 < id + 1) (λ e less. omega (arith, less)) spool.files all)

pub below_without_file : (end id : ℕ) (spool : SpoolContents) → AllByRecursion (λ e. e.0 < end) spool.files
    → AllByRecursion (λ e. e.0 < end) (without_file id spool).files
below_without_file end id spool all = all_filter _ (λ (e : ℕ × File). e.0 < end) spool.files all

pub below_with_changed : (end id : ℕ) (file : File) (spool : SpoolContents) → id < end
    → AllByRecursion (λ e. e.0 < end) spool.files → AllByRecursion (λ e. e.0 < end) (with_changed id file spool).files
below_with_changed end id file spool less all =
    all_put (λ e. e.0 < end) (id, file) (without_file id spool).files less (below_without_file end id spool all)

-- ---- a row comes

module _ (name : List ℕ) (id : ℕ) (file : File) (spool : SpoolContents)
    (all : AllByRecursion (λ e. e.0 < id) spool.files) where
  pub row_comes_last : is_own name file ≡ true
      → own_rows name (with_file id file spool) ≡ own_rows name spool ++ (id, file) ∷ []
  row_comes_last owned =
      ap (filter (λ (e : ℕ × File). is_own name e.1)) (put_last id file spool.files all)
      ∙ filter-append (λ (e : ℕ × File). is_own name e.1) spool.files ((id, file) ∷ []) ∙ rw owned refl

  pub row_of_another_comes : is_own name file ≡ false → own_rows name (with_file id file spool) ≡ own_rows name spool
  row_of_another_comes fails =
      ap (filter (λ (e : ℕ × File). is_own name e.1)) (put_last id file spool.files all)
      ∙ filter-append (λ (e : ℕ × File). is_own name e.1) spool.files ((id, file) ∷ [])
      ∙ rw fails (append-nil (own_rows name spool))

-- ---- a row leaves or changes

module _ (name : List ℕ) (spool : SpoolContents) (ordered : IsOrdered spool) (i : ℕ) (e : ℕ × File)
    (there : i < length (own_rows name spool)) (is : e ≡ get_or (own_rows name spool) i e) where
  abbrev owns : List ℕ → ℕ × File → Bool
  owns who x = is_own who x.1

  pub row_is_own : is_own name e.1 ≡ true
  row_is_own = subst (λ x. is_own name x.1 ≡ true) (sym is) (filter_passes (owns name) spool.files i e there)

  pub row_below : (end : ℕ) → AllByRecursion (λ x. x.0 < end) spool.files → e.0 < end
  row_below end all = all_at (λ x. x.0 < end) (own_rows name spool) i e
      (all_filter (owns name) (λ x. x.0 < end) spool.files all) there is

  rise : Rise (own_rows name spool)
  rise = rises_filter (owns name) spool.files ordered.files_rise

  -- no other row has its number
  alone : AllByRecursion (λ x. x.0 ≡ e.0 → x ≡ e) spool.files
  alone =
      let place = filter_there (owns name) spool.files i e there is in
      one_at spool.files place.0 e ordered.files_rise place.1 (sym place.2)

  pub row_leaves : own_rows name (without_file e.0 spool) ≡ remove (own_rows name spool) i
  row_leaves = filter-without (owns name) (λ n. n == e.0) spool.files
      ∙ without_at (own_rows name spool) i e rise there is

  module _ (other : List ℕ) (foreign : is_own other e.1 ≡ false) where
    pub row_of_another_leaves : own_rows other (without_file e.0 spool) ≡ own_rows other spool
    row_of_another_leaves =
        filter-without_other (owns other) (λ n. n == e.0) spool.files
        (all_weaker (λ x. x.0 ≡ e.0 → x ≡ e) (λ x. is_own other x.1 ≡ true → (x.0 == e.0) ≡ false)
        (λ x same owned. unequal x.0 e.0 (λ here. absurd
        (let never : true ≡ false = sym owned ∙ ap (λ (y : ℕ × File). is_own other y.1) (same here) ∙ foreign in cc)))
        spool.files alone)

    pub row_of_another_changes : (file : File) → is_own other file ≡ false
        → own_rows other (with_changed e.0 file spool) ≡ own_rows other spool
    row_of_another_changes file fails =
        filter-put_other (owns other) (e.0, file) (without_file e.0 spool).files fails
        (all_weaker (λ (x : ℕ × File). x.0 ≢ e.0) (λ x. x.0 ≡ e.0 → is_own other x.1 ≡ false)
        (λ x apart here. absurd (apart here)) (without_file e.0 spool).files (kept_apart e.0 spool.files))
        ∙ row_of_another_leaves

  pub row_changes : (file : File) → is_own name file ≡ true
      → own_rows name (with_changed e.0 file spool) ≡ set (own_rows name spool) i (e.0, file)
  row_changes file owned =
      filter-put (owns name) (e.0, file) (without_file e.0 spool).files
      (without_rises (λ n. n == e.0) spool.files ordered.files_rise) owned
      ∙ ap (put (e.0, file)) (filter-without (owns name) (λ n. n == e.0) spool.files)
      ∙ put_at (own_rows name spool) i e file rise there is

-- ---- whose they are

pub owned_once : (name other : List ℕ) (file : File) → is_own name file ≡ true → name ≢ other
    → is_own other file ≡ false
owned_once name other file owned apart =
    false_from_ne_true (is_own other file) (λ also. apart (one_name file.customer name other owned also))

pub own_files_are : (name : List ℕ) (spool : SpoolContents)
    → own_files name spool ≡ map (whole_in spool) (own_rows name spool)
own_files_are name spool = filter-map (λ (w : Whole). is_own name w.file) (whole_in spool) spool.files
