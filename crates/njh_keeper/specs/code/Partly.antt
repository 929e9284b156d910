-- The files that aren't whole yet, as a hub goes on with them.
use Rattle.std.specs.Prelude.{◌≡◌, ℕ, ◌<◌, ◌≤◌, true, false, List, [], length}
use Rattle.std.specs.List.{AllByRecursion}
use Rattle.njh_spool.specs.CustomerSpool.{CustomerSpool, WholeFile, partial_records}
use Rattle.njh_spoolfile.specs.Kept.{SpoolContents}
use Rattle.njh_spoolfile.specs.Shelf.{shown}
use Rattle.sqlite.specs.State.{HasCleanDisk}
use Rattle.sqlite.specs.Store.{Ghosts}
use Rattle.njh_keeper.specs.declared.own_files.KeptPartial as kept_partial
use Rattle.njh_keeper.specs.declared.own_files.OwnFiles as own_files
use Rattle.njh_keeper.specs.declared.writer.SpoolWriter.{SpoolWriter}
use Rattle.njh_keeper.specs.code.Counting.{Grows, rows_of}
use Rattle.njh_keeper.specs.code.Leading.{Leads}
use Rattle.njh_keeper.specs.code.Memory.{numbers_of, own_of}
use Rattle.njh_keeper.specs.code.Mirrored.{HasRecords, IsOrdered}
use Rattle.njh_keeper.specs.code.Remembered.{AreApart, Claim, IsPartlyKept, KeptPartial, Mirrored, Moves, Numbers}
use Rattle.njh_keeper.specs.code.Remembered.{OwnFiles, claim, with_key}

-- what is remembered is not of the file of this number that has so many records now
abbrev pub IsAnother : (number records : ℕ) → kept_partial.KeptPartial → Type 0
IsAnother number records p = p.number ≡ number → records < p.seen

-- ---- what is remembered, beside what the hub has now

-- A stream is about it, and all of its records were seen.
abbrev pub IsSeen : CustomerSpool → KeptPartial → Type 0
IsSeen now p = p.is_open ≡ true → (p.seen ≡ length (partial_records p.number now)) × (1366 ≤ p.seen)

-- after a step: all of its records were seen, and it is not yet known whether a stream goes on with it
pub record IsUpToDate (now : CustomerSpool) (p : KeptPartial) : Type 0 where
  pub closed : p.is_open ≡ false
  pub seen : p.seen ≡ length (partial_records p.number now)
  pub many : 1366 ≤ p.seen

-- Where it can be the file of its number now, records of that stand there.
abbrev pub GoesOn : CustomerSpool → SpoolContents → KeptPartial → Type 0
GoesOn now spool p = p.seen ≤ length (partial_records p.number now)
    → IsPartlyKept spool p (partial_records p.number now)

-- each of a customer's
abbrev pub AllSeen : CustomerSpool → OwnFiles → Type 0
AllSeen now own = AllByRecursion (IsSeen now) own.partial

abbrev pub AllUpToDate : CustomerSpool → OwnFiles → Type 0
AllUpToDate now own = AllByRecursion (IsUpToDate now) own.partial

abbrev pub AllClosed : OwnFiles → Type 0
AllClosed own = AllByRecursion (λ p. p.is_open ≡ false) own.partial

abbrev pub AllGoOn : CustomerSpool → SpoolContents → OwnFiles → Type 0
AllGoOn now spool own = AllByRecursion (GoesOn now spool) own.partial

-- ---- what calls make of the spool file

-- The whole files are these, and records of the others stand there.
pub record Goes (a b : Claim) (own : OwnFiles) (now : CustomerSpool) (files : List WholeFile)
    (s t : SpoolContents) : Type 0 where
  pub moves : Moves a b s t
  pub mirrored : Mirrored t own files
  pub go_on : AllGoOn now t own

-- The whole files stay as they are, whichever they are, and records of the others stand there still.
abbrev pub KeepsOn : (w : Numbers) (own : OwnFiles) (new_w : Numbers) (new_own : OwnFiles) (now : CustomerSpool)
    → SpoolContents → SpoolContents → Type 0
KeepsOn w own new_w new_own now s t =
    (files : List WholeFile) → IsOrdered s → AreApart (claim w own) → Mirrored s own files → AllGoOn now s own
    → Goes (claim w own) (claim new_w new_own) new_own now files s t

-- They do if a number is in hand, under which no records stand.
abbrev pub KeepsNew : (key : ℕ) (w : Numbers) (own : OwnFiles) (new_w : Numbers) (new_own : OwnFiles)
    (now : CustomerSpool) → SpoolContents → SpoolContents → Type 0
KeepsNew key w own new_w new_own now s t =
    (files : List WholeFile) → IsOrdered s → AreApart (with_key key (claim w own)) → HasRecords key [] s
    → Mirrored s own files → AllGoOn now s own
    → Goes (with_key key (claim w own)) (claim new_w new_own) new_own now files s t

-- ---- what calls leave of the writer and of what is remembered

-- Other things are written into the spool file, and numbers are given out and got back; whether whole files changed
-- stays.
abbrev pub IsSameButNumbers : {S : Type 0} → SpoolWriter S → SpoolWriter S → Type 0
IsSameButNumbers old new = new ≡ record old {
  store = new.store;
  next_key = new.next_key;
  free_keys = new.free_keys;
  waiting = new.waiting;
}

-- Files that aren't whole are remembered otherwise, and what is to be dropped of those that have left.
abbrev pub IsSameButPartial : own_files.OwnFiles → own_files.OwnFiles → Type 0
IsSameButPartial old new = new ≡ record old { partial = new.partial; sweeps = new.sweeps }

-- Nothing is written, and records of files that aren't whole stand there still, whichever spool it is.
pub record KeepsStill (now : CustomerSpool) (own new_own : own_files.OwnFiles) : Type 0 where
  pub keeps : (w : Numbers) (s : SpoolContents) → KeepsOn w (own_of own) w (own_of new_own) now s s
  pub seen : AllSeen now (own_of own) → AllSeen now (own_of new_own)
  pub rows : rows_of new_own ≡ rows_of own
  pub others : IsSameButPartial own new_own

-- Records of files that aren't whole are kept as they are now.
pub record KeepsPartly {S : Type 0} (g : Ghosts S) (now : CustomerSpool) (w : SpoolWriter S) (own : own_files.OwnFiles)
    (new_w : SpoolWriter S) (new_own : own_files.OwnFiles) : Type 0 where
  pub led : HasCleanDisk (shown g new_w.store)
      → Leads (KeepsOn (numbers_of w) (own_of own) (numbers_of new_w) (own_of new_own) now) (shown g w.store)
      (shown g new_w.store)
  pub seen : AllSeen now (own_of own) → AllSeen now (own_of new_own)
  pub grows : Grows w own new_w new_own
  pub numbers : IsSameButNumbers w new_w
  pub others : IsSameButPartial own new_own

-- the same, if a number is in hand
pub record KeepsPartlyNew {S : Type 0} (g : Ghosts S) (key : ℕ) (now : CustomerSpool) (w : SpoolWriter S)
    (own : own_files.OwnFiles) (new_w : SpoolWriter S) (new_own : own_files.OwnFiles) : Type 0 where
  pub led : HasCleanDisk (shown g new_w.store)
      → Leads (KeepsNew key (numbers_of w) (own_of own) (numbers_of new_w) (own_of new_own) now) (shown g w.store)
      (shown g new_w.store)
  pub seen : AllSeen now (own_of own) → AllSeen now (own_of new_own)
  pub grows : Grows w own new_w new_own
  pub numbers : IsSameButNumbers w new_w
  pub others : IsSameButPartial own new_own
