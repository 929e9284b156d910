-- What the queries answer.
use Rattle.std.proofs.Common.{◌≡◌, ℕ, ◌^◌, ◌==◌, pos, nat_le, nat_lt, ◌&&◌, List, [], ◌∷◌, map, map-id, filter, true}
use Rattle.std.proofs.Common.{Result, Ok, Err, IfOk, OnOk, refl, sym, ap, subst, subst₂, ◌∙◌, arith}
use Rattle.std.proofs.Common.{IsPermutation, flat_map}
use Rattle.std.specs.declared.cmp.Ordering.TheVariants.{Equal}
use Rattle.std.specs.Ordering.{int_cmp, ordering_then}
use Rattle.sqlite.specs.declared.types.Value.TheVariants.{Int, Null}
use Rattle.sqlite.specs.Order.{Row}
use Rattle.sqlite_value.proofs.OrderLemmas.{value_cmp-Int, then-Equal}
use Rattle.sqlite_value.specs.Order.{value_cmp}
use Rattle.sqlite.specs.Command.TheVariants.{Select}
use Rattle.sqlite.specs.Program.{overlay}
use Rattle.std.specs.List.{AllByRecursion}
use Rattle.std.proofs.lemmas.Bool.Decides.{nat_tests}
use Rattle.sqlite.specs.State.{State, Shown, ShowsRows, CommitsShowing, IsUnchanged}
use Rattle.sqlite.specs.Clock.{timed}
use Rattle.sqlite.specs.Tree.{Trees, rowid}
use Rattle.sqlite_sql.specs.Query.{Output, output, IsAnswer}
use Rattle.sqlite_keyed.proofs.ListLemmas.{map-map}
use Rattle.sqlite_value.specs.declared.value.Value.{Value}
use Rattle.std.proofs.lemmas.List.Sorted.{IsPermutation-map}
use Rattle.sqlite.specs.Listing.{understood}
use Rattle.sqlite.proofs.Callers.{reads_as, never_commits, IsPlain}
use Rattle.sqlite_typed.proofs.AnswerLemmas.{answer_by_keys, last_table, at_end, unfiltered}
use Rattle.njh_spoolfile.specs.Kept.{SpoolContents, Record, IsNumbered, Holds, file_row, file_shown, record_row}
use Rattle.njh_spoolfile.specs.Kept.{record_shown, record_number, records_between}
use Rattle.njh_spoolfile.specs.Tables.{spool_schema}
use Rattle.njh_spoolfile.specs.Steps.{Changes, Stays}
use Rattle.njh_spoolfile.proofs.Meaning.{by_rowid, versions, select_version, select_version_is, select_version_plain}
use Rattle.njh_spoolfile.proofs.Meaning.{select_files, select_files_is, select_files_plain, file_names}
use Rattle.njh_spoolfile.proofs.Meaning.{file_terms_shown, is_between, select_records, select_records_is}
use Rattle.njh_spoolfile.proofs.Meaning.{select_records_plain, record_terms_shown}
use Rattle.njh_spoolfile.proofs.Rows.{keyed}
use Rattle.njh_spoolfile.proofs.Runs.{is_between_is}

by_id : (m n : ℕ) → ordering_then (value_cmp (Int (pos m)) (Int (pos n))) Equal ≡ int_cmp (pos m) (pos n)
by_id m n = then-Equal (value_cmp (Int (pos m)) (Int (pos n))) ∙ value_cmp-Int (pos m) (pos n)

pub files_are : (old new : State) (rows : List Row) (spool : SpoolContents) → old.now.schema ≡ spool_schema
    → Holds spool old.now.trees → Shown select_files [] old new rows → rows ≡ map file_shown spool.files
files_are old new rows spool has held h =
    let read = reads_as select_files [] old new spool_schema has
    (Select (record { lets = []; body = by_rowid 1 [] file_terms_shown }) file_names) select_files_is.0
    select_files_plain select_files_is.1 rows h in
    let db = overlay old.now.trees [] in
    let source = last_table db 1 file_row (λ e. pos e.0) spool.files held.files (keyed spool.files held.files_rise)
    (at_end db) in
    sym (map-id rows) ∙ answer_by_keys (by_rowid 1 [] file_terms_shown) db [] source (λ _. true) (λ _. refl) (λ r. r)
    file_shown (λ _. refl) refl refl (λ a b. by_id a.0 b.0) rows (read.answer Null)
    ∙ ap (map file_shown) (unfiltered spool.files refl)

pub records_are : (old new : State) (key first end : ℕ) (rows : List Row) (spool : SpoolContents)
    → old.now.schema ≡ spool_schema → Holds spool old.now.trees
    → Shown select_records (Int (pos (record_number key first)) ∷ Int (pos (record_number key end)) ∷ []) old new rows
    → rows ≡ map record_shown (records_between key first end spool)
records_are old new key first end rows spool has held h =
    let low = record_number key first in
    let high = record_number key end in
    let params = Int (pos low) ∷ Int (pos high) ∷ [] in
    let read = reads_as select_records params old new spool_schema has
    (Select (record { lets = []; body = by_rowid 2 is_between record_terms_shown }) _) select_records_is.0
    select_records_plain select_records_is.1 rows h in
    let db = overlay old.now.trees [] in
    let source = last_table db 2 record_row (λ e. pos e.0) spool.records held.records
    (keyed spool.records held.records_rise) (at_end db) in
    sym (map-id rows) ∙ answer_by_keys (by_rowid 2 is_between record_terms_shown) db params source
    (λ e. nat_le low e.0 && nat_lt e.0 high) (is_between_is low high)
    (λ r. r) record_shown (λ _. refl) refl refl (λ a b. by_id a.0 b.0) rows (read.answer Null)

-- the rows of a query without an order are all, in some order
each_number : (rows : List Row)
    → map (λ (o : Output). rowid o.1) (map (output versions) (flat_map (λ r. ([] ∷ r ∷ []) ∷ []) rows)) ≡ map rowid rows
each_number [] = refl
each_number (r ∷ rs) = ap (λ ns. rowid r ∷ ns) (each_number rs)

pub versions_are : (old new : State) (rows : List Row) → old.now.schema ≡ spool_schema
    → Shown select_version [] old new rows → IsPermutation (map rowid (old.now.trees 0)) (map rowid rows)
versions_are old new rows has h =
    let read = reads_as select_version [] old new spool_schema has
    (Select (record { lets = []; body = versions }) _) select_version_is.0 select_version_plain
    select_version_is.1 rows h in
    let answer : IsAnswer versions (overlay old.now.trees []) [] rows = read.answer Null in
    let number : Output → Value = λ o. rowid o.1 in
    let before : map number answer.kept ≡ map rowid (old.now.trees 0) =
    ap (map number) (answer.distinct ∙ ap (map (output versions)) answer.grouped) ∙ each_number (old.now.trees 0) in
    let after : map number answer.ordered ≡ map rowid rows =
    sym (map-map rowid (λ (o : Output). o.1) answer.ordered) ∙ ap (map rowid) (sym answer.shown) in
    subst₂ IsPermutation before after (IsPermutation-map number answer.kept answer.ordered answer.same)

pub select_version_keeps_nothing : (s : State) → s.now.schema ≡ spool_schema → (db : Trees)
    → ¬ CommitsShowing select_version [] s db
select_version_keeps_nothing s has db = never_commits select_version [] s db
    (subst (λ schema. IsPlain (understood schema select_version)) (sym has) select_version_plain)

pub select_files_keeps_nothing : (s : State) → s.now.schema ≡ spool_schema → (db : Trees)
    → ¬ CommitsShowing select_files [] s db
select_files_keeps_nothing s has db = never_commits select_files [] s db
    (subst (λ schema. IsPlain (understood schema select_files)) (sym has) select_files_plain)

pub select_records_keeps_nothing : (params : Row) (s : State) → s.now.schema ≡ spool_schema → (db : Trees)
    → ¬ CommitsShowing select_records params s db
select_records_keeps_nothing params s has db =
    never_commits select_records params s db
    (subst (λ schema. IsPlain (understood schema select_records)) (sym has) select_records_plain)

-- a query changes nothing
pub shown_same : (sql : List ℕ) (params : Row) (old new : State) (rows : List Row) → old.now.schema ≡ spool_schema
    → IsPlain (understood spool_schema sql) → Shown sql params old new rows → IsUnchanged old new
unfolding Shown
shown_same sql params old new rows has plain h =
    let none = (subst IsPlain (ap (λ schema. understood schema sql) (sym has) ∙ h.1.is) plain).0 in
    (subst (ShowsRows old new sql h.0 (timed params h.0.formats h.1.now) rows) none h.2).3

pub stays : (old new : State) → IsUnchanged old new → Stays old new
stays old new same = record {
  is_open = λ _. same.0.is_open;
  now = same.0.now_is;
  committed = same.0.committed_is;
  mode = same.0.mode;
}

-- ---- one change after the other

pub ok_then : {T E : Type 0} (r : Result T E) (P Q : Type 0) → (P → Q) → OnOk r P → OnOk r Q
ok_then (Ok x) P Q f h = f h
ok_then (Err e) P Q f h = tt

pub changes_then : (f g : SpoolContents → SpoolContents) (a b c : State) → Changes f a b → Changes g b c
    → Changes (λ spool. g (f spool)) a c
changes_then f g a b c p q = record {
  is_open = q.is_open;
  schema = q.schema;
  waits = q.waits;
  committed = q.committed ∙ p.committed;
  holds = λ spool held. q.holds (f spool) (p.holds spool held);
}

pub on_ok : {T E : Type 0} (P : T → Type 0) (Q : Type 0) → ((x : T) → P x → Q) → (r : Result T E) → IfOk r P → OnOk r Q
on_ok P Q f (Ok x) h = f x h
on_ok P Q f (Err e) h = tt

-- the records of a file are those between two numbers
pub of_key : (key : ℕ) (e : ℕ × Record) → IsNumbered e
    → (nat_le (record_number key 0) e.0 && nat_lt e.0 (record_number key (2 ^ 23))) ≡ (e.1.key == key)
of_key key e h = grind (arith, nat_tests, h)

pub of_file : (key : ℕ) (records : List (ℕ × Record)) → AllByRecursion IsNumbered records
    → filter (λ e. nat_le (record_number key 0) e.0 && nat_lt e.0 (record_number key (2 ^ 23))) records
    ≡ filter (λ e. e.1.key == key) records
of_file key [] all = refl
of_file key (e ∷ es) all = rw (of_key key e all.0, of_file key es all.1) refl

pub if_ok : {T E : Type 0} (P Q : T → Type 0) → ((x : T) → P x → Q x) → (r : Result T E) → IfOk r P → IfOk r Q
if_ok P Q f (Ok x) h = f x h
if_ok P Q f (Err e) h = tt
