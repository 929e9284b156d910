-- What the statements do, and what they may keep.
use Rattle.std.proofs.Common.{◌≡◌, ◌⊎◌, inl, inr, ℕ, ◌<◌, ◌^◌, ◌==◌, not, ℤ, pos, nat_le, nat_lt, ◌&&◌, List, [], ◌∷◌}
use Rattle.std.proofs.Common.{Bool, true, false, cond, Option, Some, None, Ok, Err, Result, map, refl, sym, ap, subst}
use Rattle.std.proofs.Common.{◌∙◌}
use Rattle.std.proofs.Common.{arith}
use Rattle.sqlite.specs.declared.types.Value.{Value}
use Rattle.sqlite.specs.declared.types.Value.TheVariants.{Null, Int}
use Rattle.sqlite.specs.Order.{Row}
use Rattle.sqlite.specs.Ops.{unary, binary, is_true, from_truth}
use Rattle.sqlite.specs.Term.{holds}
use Rattle.sqlite_value.specs.Order.{value_cmp}
use Rattle.std.specs.Ordering.{nat_cmp, is_eq, is_ge, is_lt}
use Rattle.std.specs.List.{list_all}
use Rattle.std.proofs.lemmas.Bool.Decides.{nat_tests}
use Rattle.sqlite_rules.specs.Calls.{ids_of}
use Rattle.sqlite.specs.Program.{overlay}
use Rattle.sqlite.specs.Kind.TheVariants.{Integer}
use Rattle.sqlite.specs.Source.TheVariants.{Values}
use Rattle.sqlite.specs.Command.{Command}
use Rattle.sqlite.specs.Command.TheVariants.{Insert, Delete, Begin, Commit, Release}
use Rattle.sqlite.specs.Edit.{edit_of, edited, numbered, put_all}
use Rattle.sqlite.specs.Cast.{cast, cast_row}
use Rattle.sqlite.specs.Rowids.TheVariants.{Chosen, Given}
use Rattle.sqlite.specs.Does.{Tally, Does}
use Rattle.sqlite.specs.declared.run.Mode.{Mode}
use Rattle.sqlite_schema.specs.declared.command.Returning.{Returning}
use Rattle.sqlite.specs.Rows.{Written}
use Rattle.sqlite.specs.Tree.{Trees, put_row}
use Rattle.sqlite.specs.Listing.{understood}
use Rattle.sqlite.specs.Effect.{Database}
use Rattle.sqlite.specs.State.{State, mode_of, Executes, CommitsBy, text_of}
use Rattle.sqlite.specs.Schema.{Schema}
use Rattle.sqlite.specs.Clock.{timed}
use Rattle.sqlite.proofs.Callers.{command_of, statement_of, runs_as, one_step}
use Rattle.sqlite_keyed.proofs.ListLemmas.{all-filter}
use Rattle.njh_spoolfile.specs.declared.versions.Version.TheVariants.{Current}
use Rattle.njh_spoolfile.specs.Kept.{IsOf, IsNumbered, File, Record, file_values, file_row, flag, record_values}
use Rattle.njh_spoolfile.specs.Kept.{record_row, is_marked, without, SpoolContents, Holds}
use Rattle.njh_spoolfile.specs.Kept.{record_number, with_file, with_record, without_file, without_records}
use Rattle.njh_spoolfile.specs.Tables.{spool_schema, spool_table, files_table, records_table}
use Rattle.sqlite_catalog.specs.Listing.{IsSound}
use Rattle.njh_spoolfile.specs.Steps.{Begins, Changes, Commits}
use Rattle.njh_spoolfile.proofs.Meaning.{begin_text, begin_is, begin_plain, commit_text, commit_is, commit_plain}
use Rattle.njh_spoolfile.proofs.Meaning.{insert_file, insert_file_is, insert_file_plain, file_terms, insert_record}
use Rattle.njh_spoolfile.proofs.Meaning.{insert_record_is, insert_record_plain, record_terms, rowids_where, has_id}
use Rattle.njh_spoolfile.proofs.Meaning.{delete_file, delete_file_is, delete_file_plain, is_between, delete_records}
use Rattle.njh_spoolfile.proofs.Meaning.{delete_records_is, delete_records_plain, delete_mark, delete_mark_is}
use Rattle.njh_spoolfile.proofs.Meaning.{delete_mark_plain}
use Rattle.njh_spoolfile.proofs.VersionLaws.{current_shown, has_no_mark, numbers, numbered_row, unmarked}
use Rattle.njh_spoolfile.proofs.Rows.{all_put, put_shown, numbers_cmp, put_rises, without_rises}
use Rattle.njh_spoolfile.proofs.Deleting.{deleted}

-- ---- what a statement may keep

module _ (sql : List ℕ) (params : Row) (s : State) (before : Schema) (has : s.now.schema ≡ before) (command : Command)
    (is : command_of (understood before sql) ≡ command) where
  -- inside a transaction only COMMIT and RELEASE do
  pub keeps_nothing : s.in_transaction ≡ true → ¬ (command ≡ Commit) → ((name : List ℕ) → ¬ (command ≡ Release name))
      → (db : Trees) → ¬ CommitsBy sql params s db
  unfolding CommitsBy
  keeps_nothing waits no_commit no_release db h =
      let same : h.0.command ≡ command = ap command_of (sym h.1.is ∙ ap (λ schema. understood schema sql) has) ∙ is in
      elim h.2 [
        | inl ends ↦ elim ends.0 [
          | inl commit ↦ no_commit (sym same ∙ commit)
          | inr release ↦ no_release release.0 (sym same ∙ release.2)
        ]
        | inr writes ↦ absurd (let e = writes.0 in cc)
      ]

does_not_begin : (limit : Option ℕ) (mode : Mode) (params : Row) (db : Database) (text : List ℕ)
    (returning : Option Returning) (out : Tally × Database) → ¬ Does limit mode params db text returning Begin (Ok out)
does_not_begin limit mode params db text None out h = absurd (let e = h in cc)
does_not_begin limit mode params db text (Some what) out h = absurd (let e = h in cc)

pub begin_keeps_nothing : (s : State) (db : Trees) → ¬ CommitsBy begin_text [] s db
unfolding CommitsBy
begin_keeps_nothing s db h =
    let same : h.0.command ≡ Begin = ap command_of (sym h.1.is) ∙ begin_is s.now.schema in
    elim h.2 [
      | inl ends ↦ elim ends.0 [
        | inl commit ↦ absurd (let e = sym same ∙ commit in cc)
        | inr release ↦ absurd (let e = sym same ∙ release.2 in cc)
      ]
      | inr writes ↦ does_not_begin s.step_limit (mode_of s) (timed [] h.0.formats h.1.now) s.now
          (text_of begin_text h.0) h.0.returning (writes.1, writes.2) (rw same at writes.3)
    ]

does_not_commit : (limit : Option ℕ) (mode : Mode) (params : Row) (db : Database) (text : List ℕ)
    (returning : Option Returning) (out : Tally × Database) → ¬ Does limit mode params db text returning Commit (Ok out)
does_not_commit limit mode params db text None out h = absurd (let e = h in cc)
does_not_commit limit mode params db text (Some what) out h = absurd (let e = h in cc)

pub commit_keeps_now : (s : State) (db : Trees) → CommitsBy commit_text [] s db → db ≡ s.now.trees
unfolding CommitsBy
commit_keeps_now s db h =
    let same : h.0.command ≡ Commit = ap command_of (sym h.1.is) ∙ commit_is s.now.schema in
    elim h.2 [
      | inl ends ↦ ends.1
      | inr writes ↦ absurd (does_not_commit s.step_limit (mode_of s) (timed [] h.0.formats h.1.now) s.now
          (text_of commit_text h.0) h.0.returning (writes.1, writes.2) (rw same at writes.3))
    ]

-- ---- BEGIN and COMMIT

pub begins : (old new : State) (count : ℕ) → Executes begin_text [] old new (Ok count) → Begins old new
begins old new count h =
    let w = runs_as begin_text [] old new old.now.schema refl Begin (begin_is old.now.schema)
    (begin_plain old.now.schema) count h in
    record { is_open = w.1.is_open; now = w.1.now_is; committed = w.1.committed_is; waits = w.1.mode }

pub commits : (old new : State) (count : ℕ) → Executes commit_text [] old new (Ok count) → Commits old new
commits old new count h =
    let w = runs_as commit_text [] old new old.now.schema refl Commit (commit_is old.now.schema)
    (commit_plain old.now.schema) count h in
    record { is_open = w.1.is_open; now = w.1.now_is; committed = w.1.committed_is; ended = w.1.mode }

-- ---- INSERT

either : (b : Bool) (x : Value) → cond b x x ≡ x
either true x = refl
either false x = refl

pub cast_null : cast Integer Null ≡ Null
unfolding unary
cast_null = either _ Null

pub cast_int : (n : ℤ) → cast Integer (Int n) ≡ Int n
unfolding unary
cast_int n = either _ (Int n)

-- a part that gave a value did not stop on the way
pub went : {B E R : Type 0} {b : B} {Stops : E → Type 0} → ((stop : E) × Stops stop × (Ok b ≡ Err stop)) ⊎ R → R
went (inl stopped) = absurd (let e = stopped.2 in cc)
went (inr on) = on

pub same_value : {B E : Type 0} {a b : B} → ◌≡◌ {A = Result B E} (Ok a) (Ok b) → a ≡ b
same_value e = cc

cast_file : (id : ℕ) (f : File) → cast_row files_table (file_row (id, f)) ≡ file_row (id, f)
cast_file id f = rw (
  cast_int (pos id),
  cast_null,
  cast_int (pos f.key),
  cast_int (pos f.number),
  cast_int
      (flag f.held),
  cast_int (pos f.records),
  cast_int (pos f.blocks),
  cast_int (pos f.came),
)

cast_record : (id : ℕ) (r : Record) → cast_row records_table (record_row (id, r)) ≡ record_row (id, r)
cast_record id r = rw (
  cast_int (pos id),
  cast_null,
  cast_int (pos r.key),
  cast_int (pos r.place),
  cast_int
      (pos r.srcb),
)

pub adds_file : (old new : State) (id : ℕ) (f : File) (count : ℕ) → old.now.schema ≡ spool_schema
    → old.in_transaction ≡ true
    → Executes insert_file (file_values id f) old new (Ok count) → Changes (with_file id f) old new
adds_file old new id f count has waits h =
    let params = file_values id f in
    let db = old.now.trees in
    let command = Insert 1 (Values file_terms 15) in
    let w = runs_as insert_file params old new spool_schema has command insert_file_is insert_file_plain count h in
    let text = statement_of insert_file (understood spool_schema insert_file) in
    let done = went (subst (λ s. Does old.step_limit (mode_of old) params (record old.now { schema = s }) text None
    command (Ok (w.tally, new.now))) has w.changed) in
    let now = ap (λ (p : Tally × Database). p.1) (same_value (went (went done.2).2).2) in
    let given = went done.1 in
    let written = went (went given.2).2 in
    let counted = went written.2 in
    let trees : done.0.trees ≡ written.0 =
    ap (λ (it : Written). it.trees) (same_value counted.2) ∙ same_value counted.1 in
    let applied = one_step spool_schema _ db written.0 (edit_of db files_table [] Chosen 0 given.0) refl written.1 in
    let edit : edited db (edit_of db files_table [] Chosen 0 given.0) ≡ put_row (file_row (id, f)) (db 1) =
    ap (λ all. edited db (edit_of db files_table [] Chosen 0 all)) given.1.1
    ∙ ap (λ row. put_all (db 1) (numbered Chosen (db 1) (row ∷ []))) (cast_file id f) in
    let at : (t : ℕ) → new.now.trees t ≡ written.0 t =
    λ t. ap (λ (d : Database). d.trees t) now ∙ ap (λ (all : Trees). all t) trees in
    let schema : new.now.schema ≡ spool_schema = ap (λ (d : Database). d.schema) now in
    record {
      is_open = w.shown.is_open;
      schema = schema;
      waits = w.shown.mode ∙ waits;
      committed = w.shown.committed_is ∙ rw waits refl;
      holds = λ spool held. record {
        sound = subst (λ s. IsSound s new.now.trees) schema w.sound;
        version = subst (IsOf Current) (sym (at 0 ∙ applied.others 0 (λ e. absurd (omega (arith, e))) tt)) held.version;
        files = at 1 ∙ applied.rows ∙ edit ∙ ap (put_row (file_row (id, f))) held.files
            ∙ put_shown file_row (λ e. refl) (id, f) spool.files;
        files_rise = put_rises (id, f) spool.files held.files_rise;
        records_rise = held.records_rise;
        numbered = held.numbered;
        records = at 2 ∙ applied.others 2 (λ e. absurd (omega (arith, e))) tt ∙ held.records;
      };
    }

pub adds_record : (old new : State) (r : Record) (count : ℕ) → r.place < 2 ^ 23 → old.now.schema ≡ spool_schema
    → old.in_transaction ≡ true
    → Executes insert_record (record_values (record_number r.key r.place) r) old new (Ok count)
    → Changes (with_record r) old new
adds_record old new r count low has waits h =
    let id = record_number r.key r.place in
    let params = record_values id r in
    let db = old.now.trees in
    let command = Insert 2 (Values record_terms 6) in
    let w = runs_as insert_record params old new spool_schema has command insert_record_is insert_record_plain count h
    in
    let text = statement_of insert_record (understood spool_schema insert_record) in
    let done = went (subst (λ s. Does old.step_limit (mode_of old) params (record old.now { schema = s }) text None
    command (Ok (w.tally, new.now))) has w.changed) in
    let now = ap (λ (p : Tally × Database). p.1) (same_value (went (went done.2).2).2) in
    let given = went done.1 in
    let written = went (went given.2).2 in
    let counted = went written.2 in
    let trees : done.0.trees ≡ written.0 =
    ap (λ (it : Written). it.trees) (same_value counted.2) ∙ same_value counted.1 in
    let applied = one_step spool_schema _ db written.0 (edit_of db records_table [] Chosen 0 given.0) refl written.1 in
    let edit : edited db (edit_of db records_table [] Chosen 0 given.0) ≡ put_row (record_row (id, r)) (db 2) =
    ap (λ all. edited db (edit_of db records_table [] Chosen 0 all)) given.1.1
    ∙ ap (λ row. put_all (db 2) (numbered Chosen (db 2) (row ∷ []))) (cast_record id r) in
    let at : (t : ℕ) → new.now.trees t ≡ written.0 t =
    λ t. ap (λ (d : Database). d.trees t) now ∙ ap (λ (all : Trees). all t) trees in
    let schema : new.now.schema ≡ spool_schema = ap (λ (d : Database). d.schema) now in
    record {
      is_open = w.shown.is_open;
      schema = schema;
      waits = w.shown.mode ∙ waits;
      committed = w.shown.committed_is ∙ rw waits refl;
      holds = λ spool held. record {
        sound = subst (λ s. IsSound s new.now.trees) schema w.sound;
        version = subst (IsOf Current) (sym (at 0 ∙ applied.others 0 (λ e. absurd (omega (arith, e))) tt)) held.version;
        files = at 1 ∙ applied.others 1 (λ e. absurd (omega (arith, e))) tt ∙ held.files;
        records = at 2 ∙ applied.rows ∙ edit ∙ ap (put_row (record_row (id, r))) held.records
            ∙ put_shown record_row (λ e. refl) (id, r) spool.records;
        files_rise = held.files_rise;
        records_rise = put_rises (id, r) spool.records held.records_rise;
        numbered = all_put IsNumbered (id, r) spool.records (refl, low) held.numbered;
      };
    }

-- ---- DELETE

truth_of : (b : Bool) → is_true (from_truth (Some b)) ≡ b
truth_of true = refl
truth_of false = refl

alone : (b : Bool) → (b && true) ≡ b
alone true = refl
alone false = refl

eq_is : (m n : ℕ) → is_eq (nat_cmp m n) ≡ (m == n)
eq_is m n = grind (arith, nat_tests)

ge_is : (m n : ℕ) → is_ge (nat_cmp m n) ≡ nat_le n m
ge_is m n = grind (arith, nat_tests)

lt_is : (m n : ℕ) → is_lt (nat_cmp m n) ≡ nat_lt m n
lt_is m n = grind (arith, nat_tests)

has_id_is : (id : ℕ) (e : ℕ × File) → list_all (holds ((Int (pos id) ∷ []) ∷ file_row e ∷ [])) has_id ≡ (e.0 == id)
unfolding binary
has_id_is id e = alone _ ∙ truth_of (is_eq (value_cmp (Int (pos e.0)) (Int (pos id)))) ∙ ap is_eq (numbers_cmp e.0 id)
    ∙ eq_is e.0 id

pub is_between_is : (first end : ℕ) (e : ℕ × Record)
    → list_all (holds ((Int (pos first) ∷ Int (pos end) ∷ []) ∷ record_row e ∷ [])) is_between
    ≡ (nat_le first e.0 && nat_lt e.0 end)
unfolding binary
is_between_is first end e =
    ap (λ b. is_true (from_truth (Some (is_ge (value_cmp (Int (pos e.0)) (Int (pos first)))))) && b) (alone _)
    ∙ ap (λ b. b && is_true (from_truth (Some (is_lt (value_cmp (Int (pos e.0)) (Int (pos end)))))))
    (truth_of (is_ge (value_cmp (Int (pos e.0)) (Int (pos first)))))
    ∙ ap (λ b. is_ge (value_cmp (Int (pos e.0)) (Int (pos first))) && b)
    (truth_of (is_lt (value_cmp (Int (pos e.0)) (Int (pos end)))))
    ∙ ap (λ o. is_ge o && is_lt (value_cmp (Int (pos e.0)) (Int (pos end)))) (numbers_cmp e.0 first)
    ∙ ap (λ o. is_ge (nat_cmp e.0 first) && is_lt o) (numbers_cmp e.0 end)
    ∙ ap (λ b. b && is_lt (nat_cmp e.0 end)) (ge_is e.0 first)
    ∙ ap (λ b. nat_le first e.0 && b) (lt_is e.0 end)

pub drops_file : (old new : State) (id count : ℕ) → old.now.schema ≡ spool_schema → old.in_transaction ≡ true
    → Executes delete_file (Int (pos id) ∷ []) old new (Ok count) → Changes (without_file id) old new
drops_file old new id count has waits h =
    let params = Int (pos id) ∷ [] in
    let db = old.now.trees in
    let command = Delete 1 (record { lets = []; body = rowids_where 1 has_id }) in
    let w = runs_as delete_file params old new spool_schema has command delete_file_is delete_file_plain count h in
    let text = statement_of delete_file (understood spool_schema delete_file) in
    let done = went (subst (λ s. Does old.step_limit (mode_of old) params (record old.now { schema = s }) text None
    command (Ok (w.tally, new.now))) has w.changed) in
    let now = ap (λ (p : Tally × Database). p.1) (same_value (went (went done.2).2).2) in
    let given = went done.1 in
    let written = went given.2 in
    let trees : done.0.trees ≡ written.0 = ap (λ (it : Written). it.trees) (same_value written.2) in
    let applied = one_step spool_schema _ db written.0 (edit_of db files_table (ids_of given.0) Given 0 []) refl
    written.1 in
    let at : (t : ℕ) → new.now.trees t ≡ written.0 t =
    λ t. ap (λ (d : Database). d.trees t) now ∙ ap (λ (all : Trees). all t) trees in
    let schema : new.now.schema ≡ spool_schema = ap (λ (d : Database). d.schema) now in
    record {
      is_open = w.shown.is_open;
      schema = schema;
      waits = w.shown.mode ∙ waits;
      committed = w.shown.committed_is ∙ rw waits refl;
      holds = λ spool held. record {
        sound = subst (λ s. IsSound s new.now.trees) schema w.sound;
        version = subst (IsOf Current) (sym (at 0 ∙ applied.others 0 (λ e. absurd (omega (arith, e))) tt)) held.version;
        files = at 1 ∙ applied.rows
            ∙ deleted file_row (λ e. refl) 1 has_id params (λ n. n == id) (has_id_is id) (overlay db []) spool.files
            given.0 held.files refl (given.1.answer Null);
        files_rise = without_rises (λ n. n == id) spool.files held.files_rise;
        records_rise = held.records_rise;
        numbered = held.numbered;
        records = at 2 ∙ applied.others 2 (λ e. absurd (omega (arith, e))) tt ∙ held.records;
      };
    }

number_is : (n : ℕ) (e : ℕ × List Value) → list_all (holds ((Int (pos n) ∷ []) ∷ numbered_row e ∷ [])) has_id
    ≡ (e.0 == n)
unfolding binary
number_is n e = alone _ ∙ truth_of (is_eq (value_cmp (Int (pos e.0)) (Int (pos n)))) ∙ ap is_eq (numbers_cmp e.0 n)
    ∙ eq_is e.0 n

pub drops_mark : (old new : State) (count : ℕ) → old.now.schema ≡ spool_schema → old.in_transaction ≡ true
    → Executes delete_mark (Int (pos 0) ∷ []) old new (Ok count) → Changes (λ spool. spool) old new
    × ((spool : SpoolContents) → Holds spool old.now.trees → is_marked new.now.trees ≡ false)
drops_mark old new count has waits h =
    let params = Int (pos 0) ∷ [] in
    let db = old.now.trees in
    let command = Delete 0 (record { lets = []; body = rowids_where 0 has_id }) in
    let w = runs_as delete_mark params old new spool_schema has command delete_mark_is delete_mark_plain count h in
    let text = statement_of delete_mark (understood spool_schema delete_mark) in
    let done = went (subst (λ s. Does old.step_limit (mode_of old) params (record old.now { schema = s }) text None
    command (Ok (w.tally, new.now))) has w.changed) in
    let now = ap (λ (p : Tally × Database). p.1) (same_value (went (went done.2).2).2) in
    let given = went done.1 in
    let written = went given.2 in
    let trees : done.0.trees ≡ written.0 = ap (λ (it : Written). it.trees) (same_value written.2) in
    let applied = one_step spool_schema _ db written.0 (edit_of db spool_table (ids_of given.0) Given 0 []) refl
    written.1 in
    let at : (t : ℕ) → new.now.trees t ≡ written.0 t =
    λ t. ap (λ (d : Database). d.trees t) now ∙ ap (λ (all : Trees). all t) trees in
    let schema : new.now.schema ≡ spool_schema = ap (λ (d : Database). d.schema) now in
    let left : (es : List (ℕ × List Value)) → db 0 ≡ map numbered_row es
    → new.now.trees 0 ≡ map numbered_row (without (λ n. n == 0) es) = λ es are. at 0 ∙ applied.rows
    ∙ deleted numbered_row numbers 0 has_id params (λ n. n == 0) (number_is 0) (overlay db []) es given.0 are refl
    (given.1.answer Null) in (
      record {
        is_open = w.shown.is_open;
        schema = schema;
        waits = w.shown.mode ∙ waits;
        committed = w.shown.committed_is ∙ rw waits refl;
        holds = λ spool held. let es = current_shown (db 0) held.version in record {
          sound = subst (λ s. IsSound s new.now.trees) schema w.sound;
          version = unmarked (db 0) (new.now.trees 0) es.0 es.1 (left es.0 es.1) held.version;
          files = at 1 ∙ applied.others 1 (λ e. absurd (omega (arith, e))) tt ∙ held.files;
          files_rise = held.files_rise;
          records = at 2 ∙ applied.others 2 (λ e. absurd (omega (arith, e))) tt ∙ held.records;
          records_rise = held.records_rise;
          numbered = held.numbered;
        };
      },
      λ spool held. let es = current_shown (db 0) held.version in
          has_no_mark (db 0) (new.now.trees 0) es.0 es.1 (left es.0 es.1),
    )

pub drops_records : (old new : State) (key first end count : ℕ) → old.now.schema ≡ spool_schema
    → old.in_transaction ≡ true
    → Executes delete_records (Int (pos (record_number key first)) ∷ Int (pos (record_number key end)) ∷ []) old new
    (Ok count) → Changes (without_records key first end) old new
drops_records old new key first end count has waits h =
    let low = record_number key first in
    let high = record_number key end in
    let params = Int (pos low) ∷ Int (pos high) ∷ [] in
    let db = old.now.trees in
    let command = Delete 2 (record { lets = []; body = rowids_where 2 is_between }) in
    let w = runs_as delete_records params old new spool_schema has command delete_records_is delete_records_plain count
    h in
    let text = statement_of delete_records (understood spool_schema delete_records) in
    let done = went (subst (λ s. Does old.step_limit (mode_of old) params (record old.now { schema = s }) text None
    command (Ok (w.tally, new.now))) has w.changed) in
    let now = ap (λ (p : Tally × Database). p.1) (same_value (went (went done.2).2).2) in
    let given = went done.1 in
    let written = went given.2 in
    let trees : done.0.trees ≡ written.0 = ap (λ (it : Written). it.trees) (same_value written.2) in
    let applied = one_step spool_schema _ db written.0 (edit_of db records_table (ids_of given.0) Given 0 []) refl
    written.1 in
    let at : (t : ℕ) → new.now.trees t ≡ written.0 t =
    λ t. ap (λ (d : Database). d.trees t) now ∙ ap (λ (all : Trees). all t) trees in
    let schema : new.now.schema ≡ spool_schema = ap (λ (d : Database). d.schema) now in
    record {
      is_open = w.shown.is_open;
      schema = schema;
      waits = w.shown.mode ∙ waits;
      committed = w.shown.committed_is ∙ rw waits refl;
      holds = λ spool held. record {
        sound = subst (λ s. IsSound s new.now.trees) schema w.sound;
        version = subst (IsOf Current) (sym (at 0 ∙ applied.others 0 (λ e. absurd (omega (arith, e))) tt)) held.version;
        files = at 1 ∙ applied.others 1 (λ e. absurd (omega (arith, e))) tt ∙ held.files;
        records = at 2 ∙ applied.rows
            ∙ deleted record_row (λ e. refl) 2 is_between params (λ n. nat_le low n && nat_lt n high)
            (is_between_is low high) (overlay db []) spool.records given.0 held.records refl (given.1.answer Null);
        files_rise = held.files_rise;
        records_rise = without_rises (λ n. nat_le low n && nat_lt n high) spool.records held.records_rise;
        numbered = all-filter IsNumbered (λ e. not (nat_le low e.0 && nat_lt e.0 high)) spool.records held.numbered;
      };
    }
