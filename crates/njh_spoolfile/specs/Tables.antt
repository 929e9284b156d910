-- The three tables of a spool file, as their statements define them.
use Rattle.std.specs.Prelude.{true, false, [], ◌∷◌, Some, codes, List, ℕ}
use Rattle.sqlite.specs.Collation.TheVariants.{Binary}
use Rattle.sqlite.specs.declared.types.Value.TheVariants.{Null}
use Rattle.sqlite.specs.Table.{Table}
use Rattle.sqlite.specs.Schema.{Schema}
use Rattle.sqlite.specs.Kind.{Kind}
use Rattle.sqlite.specs.Kind.TheVariants.{Integer, Text, Blob}
use Rattle.sqlite_schema.specs.declared.schema.Column.{Column}

abbrev pub value_column : List ℕ → Kind → Column
value_column name kind =
    record { name = name; kind = kind; is_strict = true; not_null = true; default = Null; collation = Binary }

abbrev pub id_column : List ℕ → Column
id_column name =
    record { name = name; kind = Integer; is_strict = true; not_null = false; default = Null; collation = Binary }

-- a table whose first column is its INTEGER PRIMARY KEY
abbrev pub keyed : List ℕ → ℕ → List Column → Table
keyed name tree columns = record {
  name = name;
  tree = tree;
  columns = columns;
  key = Some 0;
  primary = 0 ∷ [];
  uniques = [];
  orders = [];
  checks = [];
  references = [];
  computed = [];
  stamps = record { places = []; terms = []; formats = [] };
  is_counted = false;
}

abbrev pub spool_table : Table
spool_table = keyed (codes "spool") 0 (id_column (codes "version") ∷ [])

abbrev pub files_table : Table
files_table = keyed (codes "files") 1 (id_column (codes "id") ∷ value_column (codes "customer") Text
    ∷ value_column (codes "key") Integer ∷ value_column (codes "kind") Text
    ∷ value_column (codes "job") Text ∷ value_column (codes "number") Integer ∷ value_column (codes "owner_node") Text
    ∷ value_column (codes "owner_user") Text
    ∷ value_column (codes "to_node") Text ∷ value_column (codes "to_user") Text ∷ value_column (codes "held") Integer
    ∷ value_column (codes "records") Integer
    ∷ value_column (codes "blocks") Integer ∷ value_column (codes "came") Integer ∷ [])

abbrev pub records_table : Table
records_table = keyed (codes "records") 2 (id_column (codes "id") ∷ value_column (codes "file") Integer
    ∷ value_column (codes "place") Integer
    ∷ value_column (codes "srcb") Integer ∷ value_column (codes "bytes") Blob ∷ [])

abbrev pub spool_schema : Schema
spool_schema = record { tables = spool_table ∷ files_table ∷ records_table ∷ []; indexes = []; views = [] }

-- the tables as they are made, one after the other
abbrev pub no_tables : Schema
no_tables = record { tables = []; indexes = []; views = [] }

abbrev pub one_table : Schema
one_table = record { tables = spool_table ∷ []; indexes = []; views = [] }

abbrev pub two_tables : Schema
two_tables = record { tables = spool_table ∷ files_table ∷ []; indexes = []; views = [] }
