-- What the statements' texts mean under the spool's schema.
use Rattle.std.proofs.Common.{◌≡◌, ℕ, pos, negsuc, List, [], ◌∷◌, ◌++◌, codes, false, None, refl, Ok}
use Rattle.sqlite.specs.declared.types.Value.TheVariants.{Null, Int}
use Rattle.sqlite.specs.Term.{Term, lit, col}
use Rattle.sqlite.specs.Query.{Query, inner, end}
use Rattle.sqlite_sql.specs.Term.{op2}
use Rattle.sqlite_sql.specs.declared.ops.BinaryOp.TheVariants.{Compare}
use Rattle.sqlite_sql.specs.declared.ops.CompareOp.TheVariants.{Eq, Ge, Lt}
use Rattle.sqlite_value.specs.declared.keys.Collation.TheVariants.{Binary}
use Rattle.sqlite.specs.Source.TheVariants.{Values}
use Rattle.sqlite.specs.Command.TheVariants.{Insert, Delete, Select, Begin, Commit, CreateTable}
use Rattle.sqlite_tied.specs.Compute.{everything}
use Rattle.sqlite.specs.Schema.{Schema}
use Rattle.sqlite.specs.Listing.{understood, reads_listing}
use Rattle.sqlite_value.specs.Keys.{ascending}
use Rattle.sqlite.proofs.Callers.{IsPlain, command_of, statement_of}
use Rattle.sqlite.specs.Compile.{table_defined_by}
use Rattle.sqlite.specs.Table.{Table}
use Rattle.njh_spoolfile.specs.Tables.{spool_schema, no_tables, one_table, two_tables, spool_table, files_table}
use Rattle.njh_spoolfile.specs.Tables.{records_table}

abbrev pub insert_record : List ℕ
insert_record = codes "INSERT INTO records VALUES (?1, ?2, ?3, ?4, ?5)"

abbrev pub record_terms : List Term
record_terms = col 0 0 ∷ lit Null ∷ col 0 1 ∷ col 0 2 ∷ col 0 3 ∷ col 0 4 ∷ []

pub insert_record_is : command_of (understood spool_schema insert_record) ≡ Insert 2 (Values record_terms 6)
unfolding understood everything
insert_record_is = refl

pub insert_record_plain : IsPlain (understood spool_schema insert_record)
unfolding understood everything
insert_record_plain = (refl, refl)

abbrev pub insert_file : List ℕ
insert_file = codes "INSERT INTO files VALUES (?1, ?2, ?3, ?4, ?5, ?6, ?7, ?8, ?9, ?10, ?11, ?12, ?13, ?14)"

abbrev pub file_terms : List Term
file_terms = col 0 0 ∷ lit Null ∷ col 0 1 ∷ col 0 2 ∷ col 0 3 ∷ col 0 4 ∷ col 0 5 ∷ col 0 6 ∷ col 0 7 ∷ col 0 8 ∷ col 0
    9 ∷ col 0 10 ∷ col 0 11 ∷ col 0 12 ∷ col 0 13 ∷ []

pub insert_file_is : command_of (understood spool_schema insert_file) ≡ Insert 1 (Values file_terms 15)
unfolding understood everything
insert_file_is = refl

pub insert_file_plain : IsPlain (understood spool_schema insert_file)
unfolding understood everything
insert_file_plain = (refl, refl)

abbrev pub begin_text : List ℕ
begin_text = codes "BEGIN"

pub begin_is : (schema : Schema) → command_of (understood schema begin_text) ≡ Begin
unfolding understood everything
begin_is schema = refl

pub begin_plain : (schema : Schema) → IsPlain (understood schema begin_text)
unfolding understood everything
begin_plain schema = (refl, refl)

abbrev pub commit_text : List ℕ
commit_text = codes "COMMIT"

pub commit_is : (schema : Schema) → command_of (understood schema commit_text) ≡ Commit
unfolding understood everything
commit_is schema = refl

pub commit_plain : (schema : Schema) → IsPlain (understood schema commit_text)
unfolding understood everything
commit_plain schema = (refl, refl)

-- the rowids of a table's rows that pass
abbrev pub rowids_where : ℕ → List Term → Query
rowids_where tree passes = record {
  from = inner tree end;
  filter = passes;
  group = None;
  project = col 1 0 ∷ [];
  distinct = false;
  collations = [];
  order = [];
  limit = lit (Int (negsuc 0));
  offset = lit (Int (pos 0));
}

abbrev pub delete_file : List ℕ
delete_file = codes "DELETE FROM files WHERE id = ?1"

abbrev pub has_id : List Term
has_id = op2 (Compare Eq Binary) (col 1 0) (col 0 0) ∷ []

pub delete_file_is : command_of (understood spool_schema delete_file)
    ≡ Delete 1 (record { lets = []; body = rowids_where 1 has_id })
unfolding understood everything
delete_file_is = refl

pub delete_file_plain : IsPlain (understood spool_schema delete_file)
unfolding understood everything
delete_file_plain = (refl, refl)

abbrev pub delete_records : List ℕ
delete_records = codes "DELETE FROM records WHERE id >= ?1 AND id < ?2"

abbrev pub is_between : List Term
is_between = op2 (Compare Ge Binary) (col 1 0) (col 0 0) ∷ op2 (Compare Lt Binary) (col 1 0) (col 0 1) ∷ []

pub delete_records_is : command_of (understood spool_schema delete_records)
    ≡ Delete 2 (record { lets = []; body = rowids_where 2 is_between })
unfolding understood everything
delete_records_is = refl

pub delete_records_plain : IsPlain (understood spool_schema delete_records)
unfolding understood everything
delete_records_plain = (refl, refl)

-- ---- SELECT

-- the rows that pass, by rising rowids
abbrev pub by_rowid : ℕ → List Term → List Term → Query
by_rowid tree passes shown = record {
  from = inner tree end;
  filter = passes;
  group = None;
  project = shown;
  distinct = false;
  collations = [];
  order = (col 1 0, ascending Binary) ∷ [];
  limit = lit (Int (negsuc 0));
  offset = lit (Int (pos 0));
}

abbrev pub select_files : List ℕ
select_files = codes "SELECT id, customer, key, kind, job, number, owner_node, owner_user, to_node, to_user, "
    ++ codes "held, records, blocks, came FROM files ORDER BY id"

abbrev pub file_names : List (List ℕ)
file_names = codes "id" ∷ codes "customer" ∷ codes "key" ∷ codes "kind" ∷ codes "job" ∷ codes "number" ∷ codes
    "owner_node" ∷ codes "owner_user" ∷ codes "to_node" ∷ codes "to_user" ∷ codes "held"
    ∷ codes "records" ∷ codes "blocks" ∷ codes "came" ∷ []

abbrev pub file_terms_shown : List Term
file_terms_shown = col 1 0 ∷ col 1 2 ∷ col 1 3 ∷ col 1 4 ∷ col 1 5 ∷ col 1 6 ∷ col 1 7 ∷ col 1 8 ∷ col 1 9 ∷ col 1
    10 ∷ col 1 11 ∷ col 1 12 ∷ col 1 13 ∷ col 1 14 ∷ []

pub select_files_is : (command_of (understood spool_schema select_files)
    ≡ Select (record { lets = []; body = by_rowid 1 [] file_terms_shown }) file_names)
    × (reads_listing spool_schema select_files ≡ false)
unfolding understood everything
select_files_is = (refl, refl)

pub select_files_plain : IsPlain (understood spool_schema select_files)
unfolding understood everything
select_files_plain = (refl, refl)

abbrev pub select_records : List ℕ
select_records = codes "SELECT place, srcb, bytes FROM records WHERE id >= ?1 AND id < ?2 ORDER BY id"

abbrev pub record_terms_shown : List Term
record_terms_shown = col 1 3 ∷ col 1 4 ∷ col 1 5 ∷ []

pub select_records_is : (command_of (understood spool_schema select_records)
    ≡ Select (record { lets = []; body = by_rowid 2 is_between record_terms_shown })
    (codes "place" ∷ codes "srcb" ∷ codes "bytes" ∷ [])) × (reads_listing spool_schema select_records ≡ false)
unfolding understood everything
select_records_is = (refl, refl)

pub select_records_plain : IsPlain (understood spool_schema select_records)
unfolding understood everything
select_records_plain = (refl, refl)

abbrev pub select_version : List ℕ
select_version = codes "SELECT version FROM spool"

abbrev pub versions : Query
versions = record (by_rowid 0 [] (col 1 0 ∷ [])) { order = [] }

pub select_version_is : (command_of (understood spool_schema select_version)
    ≡ Select (record { lets = []; body = versions }) (codes "version" ∷ []))
    × (reads_listing spool_schema select_version ≡ false)
unfolding understood everything
select_version_is = (refl, refl)

pub select_version_plain : IsPlain (understood spool_schema select_version)
unfolding understood everything
select_version_plain = (refl, refl)

-- ---- what makes the tables

abbrev pub number_terms : ℕ → List Term
number_terms number = lit (Int (pos number)) ∷ lit Null ∷ []

abbrev pub insert_mark : List ℕ
insert_mark = codes "INSERT INTO spool VALUES (0)"

pub insert_mark_is : command_of (understood spool_schema insert_mark) ≡ Insert 0 (Values (number_terms 0) 2)
unfolding understood everything
insert_mark_is = refl

pub insert_mark_plain : IsPlain (understood spool_schema insert_mark)
unfolding understood everything
insert_mark_plain = (refl, refl)

abbrev pub delete_mark : List ℕ
delete_mark = codes "DELETE FROM spool WHERE version = ?1"

pub delete_mark_is : command_of (understood spool_schema delete_mark)
    ≡ Delete 0 (record { lets = []; body = rowids_where 0 has_id })
unfolding understood everything
delete_mark_is = refl

pub delete_mark_plain : IsPlain (understood spool_schema delete_mark)
unfolding understood everything
delete_mark_plain = (refl, refl)

abbrev pub insert_version : List ℕ
insert_version = codes "INSERT INTO spool VALUES (3)"

pub insert_version_is : command_of (understood spool_schema insert_version) ≡ Insert 0 (Values (number_terms 3) 2)
unfolding understood everything
insert_version_is = refl

pub insert_version_plain : IsPlain (understood spool_schema insert_version)
unfolding understood everything
insert_version_plain = (refl, refl)

-- under the schema before, the text makes this table
pub record IsCreation (text : List ℕ) (before : Schema) (table : Table) : Type 0 where
  pub command : command_of (understood before text) ≡ CreateTable
  pub whole : statement_of text (understood before text) ≡ text
  pub plain : IsPlain (understood before text)
  pub defined : table_defined_by text ≡ Ok table

abbrev pub create_spool : List ℕ
create_spool = codes "CREATE TABLE spool (version INTEGER PRIMARY KEY) STRICT"

pub create_spool_is : IsCreation create_spool no_tables spool_table
unfolding understood everything
create_spool_is = record { command = refl; whole = refl; plain = (refl, refl); defined = refl }

abbrev pub create_files : List ℕ
create_files = codes "CREATE TABLE files (id INTEGER PRIMARY KEY, customer TEXT NOT NULL, key INTEGER NOT NULL, "
    ++ codes "kind TEXT NOT NULL, job TEXT NOT NULL, number INTEGER NOT NULL, owner_node TEXT NOT NULL, "
    ++ codes "owner_user TEXT NOT NULL, to_node TEXT NOT NULL, to_user TEXT NOT NULL, "
    ++ codes "held INTEGER NOT NULL, records INTEGER NOT NULL, blocks INTEGER NOT NULL, "
    ++ codes "came INTEGER NOT NULL) STRICT"

pub create_files_is : IsCreation create_files one_table (record files_table { tree = 0 })
unfolding understood everything
create_files_is = record { command = refl; whole = refl; plain = (refl, refl); defined = refl }

abbrev pub create_records : List ℕ
create_records = codes "CREATE TABLE records (id INTEGER PRIMARY KEY, file INTEGER NOT NULL, "
    ++ codes "place INTEGER NOT NULL, srcb INTEGER NOT NULL, bytes BLOB NOT NULL) STRICT"

pub create_records_is : IsCreation create_records two_tables (record records_table { tree = 0 })
unfolding understood everything
create_records_is = record { command = refl; whole = refl; plain = (refl, refl); defined = refl }
