-- What makes a new spool.
use Rattle.std.proofs.Common.{◌≡◌, ℕ, pos, List, [], ◌∷◌, true, false, None, Ok, refl, sym, ap, subst, ◌∙◌, arith}
use Rattle.sqlite.specs.Table.{Table}
use Rattle.sqlite.specs.Schema.{Schema}
use Rattle.sqlite.specs.Source.TheVariants.{Values}
use Rattle.sqlite.specs.Command.TheVariants.{Insert, CreateTable}
use Rattle.sqlite.proofs.Callers.{IsPlain, command_of}
use Rattle.sqlite.specs.Change.{created, next_tree}
use Rattle.sqlite.specs.Edit.{edit_of, edited, numbered, put_all}
use Rattle.sqlite.specs.Cast.{cast_row}
use Rattle.sqlite.specs.Rowids.TheVariants.{Chosen}
use Rattle.sqlite.specs.Does.{Tally, Does, lacks_sequence}
use Rattle.sqlite.specs.Rows.{Written}
use Rattle.sqlite.specs.Tree.{Trees, put_row}
use Rattle.sqlite.specs.Listing.{understood}
use Rattle.sqlite.specs.Effect.{Database}
use Rattle.sqlite.specs.State.{State, mode_of, Writes, Executes}
use Rattle.sqlite.proofs.Callers.{statement_of, runs_as, one_step}
use Rattle.sqlite_catalog.specs.Listing.{IsSound}
use Rattle.sqlite_catalog.proofs.ReadLemmas.{lists_once}
use Rattle.sqlite_trees.specs.Objects.{catalog_tree}
use Rattle.sqlite_catalog.specs.Change.{KeepsRows}
use Rattle.njh_spoolfile.specs.Kept.{SpoolContents, Holds, HoldsAs, IsOf, has_number, is_marked, no_files, version_row}
use Rattle.njh_spoolfile.specs.declared.versions.Version.{Version}
use Rattle.njh_spoolfile.specs.declared.versions.Version.TheVariants.{Older, Current}
use Rattle.njh_spoolfile.specs.Tables.{spool_schema, spool_table}
use Rattle.njh_spoolfile.specs.Steps.{Changes, Makes, Sets, SetsNumber, SetsVersion}
use Rattle.njh_spoolfile.proofs.Meaning.{IsCreation, number_terms}
use Rattle.njh_spoolfile.proofs.Runs.{went, same_value, cast_int, cast_null}
use Rattle.njh_spoolfile.proofs.VersionLaws.{has_mark, marked, taken_over}

pub creates : (text : List ℕ) (before after : Schema) (table : Table) (tree : ℕ) → IsCreation text before table
    → created before table ≡ after → next_tree before ≡ tree → lacks_sequence after ≡ false
    → (old new : State) (count : ℕ) → old.now.schema ≡ before → old.in_transaction ≡ true
    → Executes text [] old new (Ok count) → Makes after tree old new
creates text before after table tree is next at uncounted old new count has waits h =
    let w = subst (λ t. Writes old new None CreateTable t [] count) is.whole
    (runs_as text [] old new before has CreateTable is.command is.plain count h) in
    let all = went w.changed in
    let first = went all.1 in
    let made = first.1 in
    let both : Ok made.table ≡ Ok table = sym made.defined ∙ is.defined in
    let same : made.table ≡ table = cc in
    let schema : first.0.schema ≡ after = made.is ∙ ap (λ s. created s made.table) has ∙ ap (created before) same
    ∙ next in
    let plain : lacks_sequence first.0.schema ≡ false = ap lacks_sequence schema ∙ uncounted in
    let now : new.now ≡ first.0 = ap (λ (p : Tally × Database). p.1) (same_value all.2)
    ∙ same_value (rw plain at first.2) in
    record {
      is_open = w.shown.is_open;
      schema = ap (λ (d : Database). d.schema) now ∙ schema;
      waits = w.shown.mode ∙ waits;
      committed = w.shown.committed_is ∙ rw waits refl;
      empty = ap (λ (d : Database). d.trees tree) now ∙ subst (λ n. first.0.trees n ≡ []) (ap next_tree has ∙ at)
          made.empty;
      others = subst (λ (d : Database). KeepsRows old.now.schema.tables old.now.trees d.trees) (sym now) made.others;
    }

cast_version : (number : ℕ) → cast_row spool_table (version_row number) ≡ version_row number
cast_version number = rw (cast_int (pos number), cast_null) refl

pub sets : (number : ℕ) (sql : List ℕ)
    → command_of (understood spool_schema sql) ≡ Insert 0 (Values (number_terms number) 2)
    → IsPlain (understood spool_schema sql) → (old new : State) (count : ℕ) → old.now.schema ≡ spool_schema
    → old.in_transaction ≡ true → Executes sql [] old new (Ok count) → Sets number old new
sets number sql is plain old new count has waits h =
    let db = old.now.trees in
    let command = Insert 0 (Values (number_terms number) 2) in
    let w = runs_as sql [] old new spool_schema has command is plain count h in
    let text = statement_of sql (understood spool_schema sql) in
    let done = went (subst (λ s. Does old.step_limit (mode_of old) [] (record old.now { schema = s }) text None command
    (Ok (w.tally, new.now))) has w.changed) in
    let now = ap (λ (p : Tally × Database). p.1) (same_value (went (went done.2).2).2) in
    let given = went done.1 in
    let written = went (went given.2).2 in
    let counted = went written.2 in
    let trees : done.0.trees ≡ written.0 =
    ap (λ (it : Written). it.trees) (same_value counted.2) ∙ same_value counted.1 in
    let applied = one_step spool_schema _ db written.0 (edit_of db spool_table [] Chosen 0 given.0) refl written.1 in
    let edit : edited db (edit_of db spool_table [] Chosen 0 given.0) ≡ put_row (version_row number) (db 0) =
    ap (λ all. edited db (edit_of db spool_table [] Chosen 0 all)) given.1.1
    ∙ ap (λ row. put_all (db 0) (numbered Chosen (db 0) (row ∷ []))) (cast_version number) in
    let at : (t : ℕ) → new.now.trees t ≡ written.0 t =
    λ t. ap (λ (d : Database). d.trees t) now ∙ ap (λ (all : Trees). all t) trees in
    let schema : new.now.schema ≡ spool_schema = ap (λ (d : Database). d.schema) now in
    record {
      is_open = w.shown.is_open;
      schema = schema;
      waits = w.shown.mode ∙ waits;
      committed = w.shown.committed_is ∙ rw waits refl;
      sets = record {
        sound = subst (λ s. IsSound s new.now.trees) schema w.sound;
        versions = at 0 ∙ applied.rows ∙ edit;
        files = at 1 ∙ applied.others 1 (λ e. absurd (omega (arith, e))) tt;
        records = at 2 ∙ applied.others 2 (λ e. absurd (omega (arith, e))) tt;
      };
    }

-- a spool with no file
pub starts : (found now : Trees) → SetsVersion found now → found 0 ≡ [] → found 1 ≡ [] → found 2 ≡ []
    → Holds no_files now
starts found now it no_version none no_record = record {
  sound = it.sound;
  version = subst (IsOf Current) (sym (it.versions ∙ ap (put_row (version_row 3)) no_version)) refl;
  files = it.files ∙ none;
  files_rise = tt;
  records = it.records ∙ no_record;
  records_rise = tt;
  numbered = tt;
}

-- a spool of an older version is the same of this one
pub takes_over : (spool : SpoolContents) (found now : Trees) → SetsVersion found now → HoldsAs Older spool found
    → Holds spool now
takes_over spool found now it held = record {
  sound = it.sound;
  version = subst (IsOf Current) (sym it.versions) (taken_over (found 0) held.version);
  files = it.files ∙ held.files;
  files_rise = held.files_rise;
  records = it.records ∙ held.records;
  records_rise = held.records_rise;
  numbered = held.numbered;
}

-- the mark is set, and the spool is the same
pub marks : (old new : State) → Sets 0 old new → Changes (λ spool. spool) old new
marks old new it = record {
  is_open = it.is_open;
  schema = it.schema;
  waits = it.waits;
  committed = it.committed;
  holds = λ spool held. record {
    sound = it.sets.sound;
    version = subst (IsOf Current) (sym it.sets.versions) (marked (old.now.trees 0) held.version);
    files = it.sets.files ∙ held.files;
    files_rise = held.files_rise;
    records = it.sets.records ∙ held.records;
    records_rise = held.records_rise;
    numbered = held.numbered;
  };
}

pub is_marked_then : (spool : SpoolContents) (found now : Trees) → SetsNumber 0 found now → Holds spool found
    → is_marked now ≡ true
is_marked_then spool found now it held =
    ap (has_number 0) it.versions ∙ has_mark (found 0) held.version

-- trees list one schema at most
pub one_schema : (trees : Trees) (s t : Schema) → IsSound s trees → IsSound t trees → s ≡ t
one_schema trees s t p q = lists_once (trees catalog_tree) s t p.lists q.lists

-- what has other tables holds no spool
pub no_spool : (trees : Trees) (schema : Schema) → IsSound schema trees → ¬ (schema ≡ spool_schema)
    → (version : Version) (spool : SpoolContents) → ¬ HoldsAs version spool trees
no_spool trees schema sound other version spool held = other (one_schema trees _ _ sound held.sound)
