-- What a spool file holds, as plain values, and the rows that stand for them.
use Rattle.std.specs.Prelude.{◌≡◌, ℕ, ◌<◌, ◌+◌, ◌*◌, ◌^◌, ◌==◌, ℤ, pos, Bool, false, not, ◌&&◌, ◌||◌, nat_le, nat_lt}
use Rattle.std.specs.Prelude.{if◌then◌else◌, List, [], ◌∷◌, map, filter, flat_map, string_bytes, Option, None, Some}
use Rattle.std.specs.List.{AllByRecursion, list_any}
use Rattle.std.specs.Ordering.{nat_cmp, int_eq, match_ordering}
use Rattle.sqlite_value.specs.declared.value.Value.{Value}
use Rattle.sqlite_value.specs.declared.value.Value.TheVariants.{Null, Int, Text, Blob}
use Rattle.sqlite_value.specs.Order.{Row}
use Rattle.sqlite_trees.specs.Tree.{Trees, IsAscending, rowid}
use Rattle.sqlite_catalog.specs.Listing.{IsSound}
use Rattle.njh_spoolfile.specs.Packed.{placed_from, unpacked_row}
use Rattle.njh_spoolfile.specs.Tables.{spool_schema}
use Rattle.njh_spoolfile.specs.declared.kept.FileRow.{FileRow}
use Rattle.njh_spoolfile.specs.declared.kept.RecordRow.{RecordRow}
use Rattle.njh_spoolfile.specs.declared.kept.StoredFile.{StoredFile}
use Rattle.njh_spoolfile.specs.declared.kept.StoredRecord.{StoredRecord}
use Rattle.njh_spoolfile.specs.declared.versions.Version.{Version}
use Rattle.njh_spoolfile.specs.declared.versions.Version.TheVariants.{Older, Current}

-- a whole file without its records; key is the number that its records came under
pub record File : Type 0 where
  pub customer : List ℕ
  pub key : ℕ
  pub kind : List ℕ
  pub job : List ℕ
  pub number : ℕ
  pub owner_node : List ℕ
  pub owner_user : List ℕ
  pub to_node : List ℕ
  pub to_user : List ℕ
  pub held : Bool
  pub records : ℕ
  pub blocks : ℕ
  pub came : ℕ

-- A row of records of the file of this key: one at this place, or several from it on.
pub record Record : Type 0 where
  pub key : ℕ
  pub place : ℕ
  pub srcb : ℕ
  pub bytes : List ℕ

-- files by the order of their arrival, and records by file and place, each under its number, which rises
pub record SpoolContents : Type 0 where
  pub files : List (ℕ × File)
  pub records : List (ℕ × Record)

abbrev pub no_files : SpoolContents
no_files = record { files = []; records = [] }

abbrev pub file_of : FileRow → File
file_of f = record {
  customer = string_bytes f.customer;
  key = f.key;
  kind = string_bytes f.kind;
  job = string_bytes f.job;
  number = f.number;
  owner_node = string_bytes f.owner_node;
  owner_user = string_bytes f.owner_user;
  to_node = string_bytes f.to_node;
  to_user = string_bytes f.to_user;
  held = f.held;
  records = f.records;
  blocks = f.blocks;
  came = f.came;
}

abbrev pub record_of : RecordRow → Record
record_of r = record { key = r.key; place = r.place; srcb = r.srcb; bytes = r.bytes.now }

abbrev pub flag : Bool → ℤ
flag b = if b then pos 1 else pos 0

-- the values that a file's row is made of, and the row, where the number that it stands under is its rowid
abbrev pub file_values : ℕ → File → Row
file_values id f =
    Int (pos id) ∷ Text f.customer ∷ Int (pos f.key) ∷ Text f.kind ∷ Text f.job ∷ Int (pos f.number)
    ∷ Text f.owner_node ∷ Text f.owner_user
    ∷ Text f.to_node ∷ Text f.to_user ∷ Int (flag f.held) ∷ Int (pos f.records) ∷ Int (pos f.blocks)
    ∷ Int (pos f.came) ∷ []

abbrev pub file_row : ℕ × File → Row
file_row e =
    Int (pos e.0) ∷ Null ∷ Text e.1.customer ∷ Int (pos e.1.key) ∷ Text e.1.kind ∷ Text e.1.job ∷ Int (pos e.1.number)
    ∷ Text e.1.owner_node ∷ Text e.1.owner_user
    ∷ Text e.1.to_node ∷ Text e.1.to_user ∷ Int (flag e.1.held) ∷ Int (pos e.1.records) ∷ Int (pos e.1.blocks)
    ∷ Int (pos e.1.came) ∷ []

-- records of a file have the numbers from key * 2 ^ 23 on
abbrev pub record_number : ℕ → ℕ → ℕ
record_number key place = key * 2 ^ 23 + place

abbrev pub record_values : ℕ → Record → Row
record_values id r = Int (pos id) ∷ Int (pos r.key) ∷ Int (pos r.place) ∷ Int (pos r.srcb) ∷ Blob r.bytes ∷ []

abbrev pub record_row : ℕ × Record → Row
record_row e = Int (pos e.0) ∷ Null ∷ Int (pos e.1.key) ∷ Int (pos e.1.place) ∷ Int (pos e.1.srcb) ∷ Blob e.1.bytes ∷ []

-- among what stands under rising numbers, this one in its place, or in the place of the one that has its number
abbrev pub put : {X : Type 0} → ℕ × X → List (ℕ × X) → List (ℕ × X)
put new [] = new ∷ []
put new (e ∷ es) = match_ordering (nat_cmp e.0 new.0) (e ∷ put new es) (new ∷ es) (new ∷ e ∷ es)

-- what stands under no number that passes
abbrev pub without : {X : Type 0} → (ℕ → Bool) → List (ℕ × X) → List (ℕ × X)
without passes = filter (λ e. not (passes e.0))

abbrev pub with_file : ℕ → File → SpoolContents → SpoolContents
with_file id file spool = record spool { files = put (id, file) spool.files }

abbrev pub with_record : Record → SpoolContents → SpoolContents
with_record r spool = record spool { records = put (record_number r.key r.place, r) spool.records }

abbrev pub without_file : ℕ → SpoolContents → SpoolContents
without_file id spool = record spool { files = without (λ n. n == id) spool.files }

-- the file of this number is this one now
abbrev pub with_changed : ℕ → File → SpoolContents → SpoolContents
with_changed id file spool = with_file id file (without_file id spool)

-- the records of a file at places from first on and before end are gone
abbrev pub without_records : ℕ → ℕ → ℕ → SpoolContents → SpoolContents
without_records key first end spool = record spool {
  records = without
      (λ n. nat_le (record_number key first) n && nat_lt n (record_number key end)) spool.records;
}

-- each number is above those before it
abbrev pub Rise : {X : Type 0} → List (ℕ × X) → Type 0
Rise = IsAscending (λ a b. a.0 < b.0)

-- each record stands under the number of its file and place
abbrev pub IsNumbered : ℕ × Record → Type 0
IsNumbered e = (e.0 ≡ record_number e.1.key e.1.place) × (e.1.place < 2 ^ 23)

-- the row of a version
abbrev pub version_row : ℕ → Row
version_row version = Int (pos version) ∷ Null ∷ []

-- whether a row has this number
abbrev pub is_value : ℕ → Value → Bool
is_value n (Int z) = int_eq z (pos n)
is_value n _ = false

abbrev pub is_number : ℕ → Row → Bool
is_number n row = is_value n (rowid row)

abbrev pub has_number : ℕ → List Row → Bool
has_number n = list_any (is_number n)

-- a row of one of the three versions, or the mark's
abbrev pub is_known : Row → Bool
is_known row = is_number 0 row || is_number 1 row || is_number 2 row || is_number 3 row

-- A spool file has a row for each version that wrote to it, and is of the last.
abbrev pub version_in : List Row → Option Version
version_in rows =
    if list_any (λ row. not (is_known row)) rows then None else
    if has_number 3 rows then Some Current else if has_number 1 rows || has_number 2 rows then Some Older else None

abbrev pub IsOf : Version → List Row → Type 0
IsOf version rows = version_in rows ≡ Some version

-- It has a row with number 0 while what it holds may stand in its log: from the first start until it is closed whole.
abbrev pub is_marked : Trees → Bool
is_marked trees = has_number 0 (trees 0)

-- the trees are a spool file's of the version, and hold the spool
pub record HoldsAs (of : Version) (spool : SpoolContents) (trees : Trees) : Type 0 where
  pub sound : IsSound spool_schema trees
  pub version : IsOf of (trees 0)
  pub files : trees 1 ≡ map file_row spool.files
  pub files_rise : Rise spool.files
  pub records : trees 2 ≡ map record_row spool.records
  pub records_rise : Rise spool.records
  pub numbered : AllByRecursion IsNumbered spool.records

-- they are of this version
abbrev pub Holds : SpoolContents → Trees → Type 0
Holds = HoldsAs Current

-- ---- what is read back

abbrev pub file_shown : ℕ × File → Row
file_shown e =
    Int (pos e.0) ∷ Text e.1.customer ∷ Int (pos e.1.key) ∷ Text e.1.kind ∷ Text e.1.job ∷ Int (pos e.1.number)
    ∷ Text e.1.owner_node ∷ Text e.1.owner_user
    ∷ Text e.1.to_node ∷ Text e.1.to_user ∷ Int (flag e.1.held) ∷ Int (pos e.1.records) ∷ Int (pos e.1.blocks)
    ∷ Int (pos e.1.came) ∷ []

abbrev pub record_shown : ℕ × Record → Row
record_shown e = Int (pos e.1.place) ∷ Int (pos e.1.srcb) ∷ Blob e.1.bytes ∷ []

-- a file with its number
abbrev pub entry_of : StoredFile → ℕ × File
entry_of f = (f.id, file_of f.file)

-- a record's place, SRCB and bytes
abbrev pub contents_of : StoredRecord → ℕ × ℕ × List ℕ
contents_of r = (r.place, r.srcb, r.bytes.items)

-- a row's first place, SRCB and bytes as they stand
abbrev pub as_stands : ℕ × Record → ℕ × ℕ × List ℕ
as_stands e = (e.1.place, e.1.srcb, e.1.bytes)

-- the records of a row, of some rows one after the other
abbrev pub contents : ℕ × Record → List (ℕ × ℕ × List ℕ)
contents e = placed_from e.1.place (unpacked_row e.1.srcb e.1.bytes)

abbrev pub contents_in : List (ℕ × Record) → List (ℕ × ℕ × List ℕ)
contents_in = flat_map contents

-- the rows of a file's records whose first has a place from first on and before end
abbrev pub records_between : ℕ → ℕ → ℕ → SpoolContents → List (ℕ × Record)
records_between key first end spool = filter
    (λ e. nat_le (record_number key first) e.0 && nat_lt e.0 (record_number key end)) spool.records

-- the rows of the records of the file of this key, in the order of their places
abbrev pub records_of : ℕ → SpoolContents → List (ℕ × Record)
records_of key spool = filter (λ e. e.1.key == key) spool.records

-- a whole file: its place in the order of arrival, its headers, and place, SRCB and bytes of each record
pub record Whole : Type 0 where
  pub id : ℕ
  pub file : File
  pub records : List (ℕ × ℕ × List ℕ)

abbrev pub whole_in : SpoolContents → ℕ × File → Whole
whole_in spool e = record { id = e.0; file = e.1; records = contents_in (records_of e.1.key spool) }

-- what a spool has: its whole files in the order of their arrival, each with its records in their order
abbrev pub kept : SpoolContents → List Whole
kept spool = map (whole_in spool) spool.files
