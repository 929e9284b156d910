-- What the keeper does with the rows of a spool file from which a hub was opened.
use Rattle.std.specs.Prelude.{◌≡◌, ◌≢◌, ◌⊎◌, ℕ, ◌+◌, ◌<◌, true, List, [], ◌++◌, length, map, filter}
use Rattle.std.specs.Prelude.{slice_index_or, Some}
use Rattle.std.specs.List.{AllByRecursion, AllZip}
use Rattle.njh_spool.specs.CustomerSpool.{CustomerSpool, WholeFile}
use Rattle.njh_stream.specs.SpoolFiles.{records_in}
use Rattle.njh_hub.specs.WholeHub.{Part, part}
use Rattle.njh_table.specs.Accepted.{AreDistinct}
use Rattle.njh_turns.specs.Keeping.{kept_file}
use Rattle.sqlite.specs.State.{State}
use Rattle.sqlite.specs.Tree.{Trees}
use Rattle.njh_spoolfile.specs.Kept.{File, Holds, SpoolContents, entry_of, records_of}
use Rattle.njh_spoolfile.specs.CommitState.{CommitState, Stands}
use Rattle.njh_spoolfile.specs.declared.kept.StoredFile.{StoredFile}
use Rattle.njh_keeper.specs.Opened.{file_in, is_own, own_files}
use Rattle.njh_keeper.specs.code.Mirrored.{IsOrdered, ReadsAs, WritesRowsOf, own_rows}
use Rattle.njh_keeper.specs.code.Remembered.{AllAreApart, AllBeside, AreBelow, IsKept, KeptWhole, Mirrored, Numbers}
use Rattle.njh_keeper.specs.code.Remembered.{OwnFiles, keyed}

-- of some rows those of the customer of this name
abbrev pub owned_of : List ℕ → List (ℕ × File) → List (ℕ × File)
owned_of name rows = filter (λ e. is_own name e.1) rows

abbrev pub entries : List StoredFile → List (ℕ × File)
entries files = map entry_of files

-- how many of these rows have this number as their key
abbrev pub keyed_rows : ℕ → List (ℕ × File) → ℕ
keyed_rows n rows = keyed (λ e. e.1.key) n rows

-- the hub's file was read from this row, and is Held now or isn't
abbrev pub IsReadFor : SpoolContents → ℕ × File → WholeFile → Type 0
IsReadFor spool e g = ReadsAs spool e (record { kind = g.kind; held = e.1.held; records = g.records })

-- a row is as it was, or was a customer's and is its still
abbrev pub IsRowStill : ℕ × File → ℕ × File → Type 0
IsRowStill e f = (f ≡ e) ⊎ ((name : List ℕ) × (is_own name e.1 ≡ true) × (is_own name f.1 ≡ true))

-- row by row
abbrev pub AreRowsStill : SpoolContents → SpoolContents → Type 0
AreRowsStill s t = AllZip IsRowStill s.files t.files

-- The customer's first files are kept as the hub has them, and each other one was read from one of the rows that are
-- left. Since the spool was that one only rows of the customer changed.
pub record IsRead (name : List ℕ) (whole : List KeptWhole) (left : List (ℕ × File)) (files : List WholeFile)
    (from now : SpoolContents) : Type 0 where
  pub rows : List (ℕ × File)
  pub before : List WholeFile
  pub behind : List WholeFile
  pub rows_are : own_rows name now ≡ rows ++ left
  pub files_are : files ≡ before ++ behind
  pub beside : AllBeside (IsKept now) whole rows before
  pub reads : AllZip (IsReadFor now) left behind
  pub writes : WritesRowsOf name from now
  pub still : AreRowsStill from now
  pub below : (end : ℕ) → AreBelow end from → AreBelow end now
  pub keys : (n : ℕ) → keyed (λ k. k.key) n whole + keyed_rows n left ≡ keyed_rows n (own_rows name from)

-- each whole file is found by its number
abbrev pub AreFound : CustomerSpool → Type 0
AreFound spool = AllByRecursion (λ g. records_in g.number spool ≡ g.records) spool.whole

-- The rows that were left are read so, and then these are.
abbrev pub Reads : (name : List ℕ) (spool : CustomerSpool) (was is : List KeptWhole) (left still : List (ℕ × File))
    → SpoolContents → SpoolContents → Type 0
Reads name spool was is left still s t =
    (from : SpoolContents) → IsRead name was left spool.whole from s → IsRead name is still spool.whole from t

-- Of a customer all that its rows say is remembered, and the rows say what the hub has.
pub record IsRemembered (own : OwnFiles) (files : List WholeFile) (s t : SpoolContents) : Type 0 where
  pub mirrored : Mirrored t own files
  pub writes : WritesRowsOf own.name s t
  pub still : AreRowsStill s t
  pub below : (end : ℕ) → AreBelow end s → AreBelow end t
  pub keys : (n : ℕ) → keyed (λ k. k.key) n own.whole ≡ keyed_rows n (own_rows own.name s)

-- it is this customer's, no file is remembered that isn't whole, and none that has left
pub record IsOwnOf (name : List ℕ) (spool : CustomerSpool) (own : OwnFiles) : Type 0 where
  pub name_is : own.name ≡ name
  pub arrived : own.arrived ≡ spool.arrived
  pub partial : own.partial ≡ []
  pub sweeps : own.sweeps ≡ []

-- these are its rows, and the hub's files were read from them
abbrev pub Remembering : (name : List ℕ) (rows : List (ℕ × File)) (files : List WholeFile) (own : OwnFiles)
    → SpoolContents → SpoolContents → Type 0
Remembering name rows files own s t =
    IsOrdered s → owned_of name rows ≡ own_rows name s → AllZip (IsReadFor s) (own_rows name s) files
    → IsRemembered own files s t

-- ---- all customers

-- the hub's files of customer c
abbrev pub files_at : ℕ → List Part → List WholeFile
files_at c hub = (part c hub).customer.spool.whole

abbrev pub name_at : List (List ℕ) → ℕ → List ℕ
name_at names c = slice_index_or names c []

-- Of customer c the spool file has the hub's whole files, and so it is remembered.
pub record IsOpened (names : List (List ℕ)) (hub : List Part) (now : SpoolContents) (c : ℕ) (own : OwnFiles) : Type
    0 where
  pub owned : IsOwnOf (name_at names c) (part c hub).customer.spool own
  pub mirrored : Mirrored now own (files_at c hub)

-- and its files have the keys of the rows that were read of it
pub record IsCustomer (names : List (List ℕ)) (hub : List Part) (s t : SpoolContents) (c : ℕ) (own : OwnFiles) : Type
    0 where
  pub opened : IsOpened names hub t c own
  pub keys : (n : ℕ) → keyed (λ k. k.key) n own.whole ≡ keyed_rows n (own_rows (name_at names c) s)

-- so it is of the first so many customers, and nothing is written of any other
pub record AreRemembered (names : List (List ℕ)) (hub : List Part) (owns : List OwnFiles) (s t : SpoolContents) : Type
    0 where
  pub each : (c : ℕ) → (own : OwnFiles) → c < length owns → own ≡ slice_index_or owns c own
      → IsCustomer names hub s t c own
  pub records : t.records ≡ s.records
  pub ordered : IsOrdered t
  pub others : (name : List ℕ) → ((c : ℕ) → c < length owns → name_at names c ≢ name)
      → own_rows name t ≡ own_rows name s
  pub still : AreRowsStill s t
  pub below : (end : ℕ) → AreBelow end s → AreBelow end t

-- the hub's files of each customer were read from its rows
abbrev pub AllAreRead : List (List ℕ) → List Part → SpoolContents → Type 0
AllAreRead names hub s =
    (c : ℕ) → c < length names → AllZip (IsReadFor s) (own_rows (name_at names c) s) (files_at c hub)

abbrev pub RememberingAll : (names : List (List ℕ)) (hub : List Part) (rows : List (ℕ × File)) (owns : List OwnFiles)
    → SpoolContents → SpoolContents → Type 0
RememberingAll names hub rows owns s t =
    IsOrdered s → rows ≡ s.files → AreDistinct names → AllAreRead names hub s → AreRemembered names hub owns s t

-- each whole file of these customers is found by its number
abbrev pub AllAreFound : List (List ℕ) → List Part → Type 0
AllAreFound names hub = (c : ℕ) → c < length names → AreFound (part c hub).customer.spool

-- ---- the opening

-- So it is of all customers, and what is written next has other numbers.
pub record HasBegun (names : List (List ℕ)) (hub : List Part) (owns : List OwnFiles) (w : Numbers) (now : SpoolContents)
    : Type 0 where
  pub count : length owns ≡ length names
  pub each : (c : ℕ) → (own : OwnFiles) → c < length owns → own ≡ slice_index_or owns c own
      → IsOpened names hub now c own
  pub apart : AllAreApart w owns
  pub ordered : IsOrdered now
  pub below : AreBelow w.next_id now

-- From a spool on which the hub's files were read from the rows of these customers it goes there, and is committed.
abbrev pub Begins : (names : List (List ℕ)) (hub : List Part) (owns : List OwnFiles) (w : Numbers) → State → State
    → Type 0
Begins names hub owns w old new =
    (s : CommitState) → Stands s old → AreDistinct names → AllAreFound names hub → AllAreRead names hub s.now
    → (t : SpoolContents) × HasBegun names hub owns w t × Stands (record { now = t; kept = t }) new

-- The hub's files of each of these customers stand there, and all other files as they stood, row by row, each with what
-- stood under its key.
pub record IsWritten (names : List (List ℕ)) (hub : List Part) (s t : SpoolContents) : Type 0 where
  pub each : (c : ℕ) → c < length names
      → map (λ w. file_in w.file w.records) (own_files (name_at names c) t) ≡ map Some (map kept_file (files_at c hub))
  pub others : (name : List ℕ) → ((c : ℕ) → c < length names → name_at names c ≢ name)
      → own_files name t ≡ own_files name s
  pub still : AreRowsStill s t
  pub records : AllByRecursion (λ e. records_of e.1.key t ≡ records_of e.1.key s) s.files

-- From such a spool these trees may be committed on the way.
abbrev pub MayBegin : (names : List (List ℕ)) (hub : List Part) → State → Trees → Type 0
MayBegin names hub old trees =
    (s : CommitState) → Stands s old → AreDistinct names → AllAreFound names hub → AllAreRead names hub s.now
    → (t : SpoolContents) × Holds t trees × IsWritten names hub s.now t
