-- What keeps whole files in a spool file, and the hub that it opens.
use Rattle.std.specs.Prelude.{◌≡◌, ℕ, Bool, true, false, List, [], map, Option, Some, None, Result, IfErr, refl}
use Rattle.std.specs.List.{AllByRecursion, AllZip, filter_map}
use Rattle.std.specs.Coded.{Coded, code_by, coded×, coded_bool, coded_list, coded_ℕ}
use Rattle.sqlite.specs.State.{HasCleanDisk, State, Survives}
use Rattle.sqlite.specs.Store.{Ghosts}
use Rattle.sqlite.specs.Tree.{Trees}
use Rattle.njh_hub.specs.Parts.{entries_of}
use Rattle.njh_hub.specs.WholeHub.{Part, SameLines, part_at_open}
use Rattle.njh_turns.specs.Keeping.{kept_of}
use Rattle.njh_turns.specs.declared.depot.DepotFault.{DepotFault}
use Rattle.njh_turns.specs.declared.depot.DepotFault.TheVariants.{Refused}
use Rattle.njh_spoolfile.specs.Kept.{SpoolContents, Holds, kept}
use Rattle.njh_spoolfile.specs.Shelf.{Shelf, shelf_code, shown}
use Rattle.njh_spoolfile.specs.CommitState.{CommitState, Stands}
use Rattle.njh_spool.specs.Restoring.{KeptFile}
use Rattle.njh_table.specs.TableFile.{TableFile}
use Rattle.njh_table.specs.Accepted.{AreDistinct}
use Rattle.njh_keeper.specs.Refusal.{Refusal}
use Rattle.njh_keeper.specs.Opened.{AllAreBack, file_in, hub_opened, is_name_of, own_files}
use Rattle.njh_keeper.specs.SetAside.{all_refused, all_taken_up, spool_tried}
use Rattle.njh_keeper.specs.code.Codes.{numbers_code, own_memory_code, refusal_code}
use Rattle.njh_keeper.specs.code.Following.{Memory}
use Rattle.njh_keeper.specs.code.Knowing.{IsSoundPart, Knows}
use Rattle.njh_keeper.specs.code.Remembered.{Numbers, OwnFiles, OwnMemory}

-- The spool file, how often keeping failed, and the names of the customers in the order of the tables. Since the last
-- commit whole files changed, or didn't, and so many records were written or dropped. What is remembered of each
-- customer's files, and which numbers are next. No hub was opened yet, or one was. The whole files that couldn't be put
-- back then, and whether one such file ends the opening.
pub record Keeping (S : Type 0) : Type 0 where
  pub store : Shelf S
  pub failures : ℕ
  pub names : List (List ℕ)
  pub is_changed : Bool
  pub waiting : ℕ
  pub numbers : Numbers
  pub customers : List OwnMemory
  pub is_fresh : Bool
  pub refused : List Refusal
  pub is_strict : Bool

abbrev pub keeping_code : {S : Type 0} → Coded S → Coded (Keeping S)
keeping_code {S} store = code_by
    (Shelf S × (ℕ × (List (List ℕ) × (Bool × (ℕ × (Numbers × (List OwnMemory × (Bool × (List Refusal × Bool)))))))))
    (coded× (shelf_code store) (coded× coded_ℕ (coded× (coded_list (coded_list coded_ℕ)) (coded× coded_bool
    (coded× coded_ℕ (coded× numbers_code (coded× (coded_list own_memory_code) (coded× coded_bool
    (coded× (coded_list refusal_code) coded_bool)))))))))
    (λ k. (
      k.store,
      (
        k.failures,
        (
          k.names,
          (
            k.is_changed,
            (
              k.waiting,
              (
                k.numbers,
                (
                  k.customers,
                  (k.is_fresh, (k.refused, k.is_strict)),
                ),
              ),
            ),
          ),
        ),
      ),
    ))
    (λ p. record {
      store = p.0;
      failures = p.1.0;
      names = p.1.1.0;
      is_changed = p.1.1.1.0;
      waiting = p.1.1.1.1.0;
      numbers = p.1.1.1.1.1.0;
      customers = p.1.1.1.1.1.1.0;
      is_fresh = p.1.1.1.1.1.1.1.0;
      refused = p.1.1.1.1.1.1.1.1.0;
      is_strict = p.1.1.1.1.1.1.1.1.1;
    })
    (λ _. refl)

-- the first cause of failures, now that there is another
abbrev pub first_cause : {E : Type 0} → Option E → E → Option E
first_cause None error = Some error
first_cause (Some first) error = Some first

-- ---- the opening

-- Each customer of the tables has the lines of its entry and, as far as the disk told the truth up to the end of the
-- opening, its own whole files of the spool file as it was before, mark or no mark, that could be put back. The others
-- are set aside, and known in their order; if one ends the opening there is none.
pub record IsOpenedFrom {S : Type 0} (g : Ghosts S) (before behind : Keeping S) (table : TableFile)
    (parts : List Part) : Type 0 where
  pub lines : SameLines (map part_at_open (entries_of table)) parts
  pub hub : HasCleanDisk (shown g behind.store) → (spool : SpoolContents) → Holds spool (shown g before.store).now.trees
      → parts ≡ hub_opened table (spool_tried table spool)
  pub back : HasCleanDisk (shown g behind.store) → (spool : SpoolContents)
      → Holds spool (shown g before.store).now.trees
      → AllAreBack table (kept (spool_tried table spool))
  pub refused : HasCleanDisk (shown g behind.store) → (spool : SpoolContents)
      → Holds spool (shown g before.store).now.trees
      → behind.refused ≡ all_refused table spool
  pub strict : before.is_strict ≡ true → behind.refused ≡ []

-- ---- what a crash may leave

-- of each customer of these names its whole files on a spool file, as a hub has them
abbrev pub left_in : List (List ℕ) → SpoolContents → List (List KeptFile)
left_in names spool = map (λ name. filter_map (λ w. file_in w.file w.records) (own_files name spool)) names

-- A crash at this moment may leave this of the customers' whole files, as far as the disk told the truth so far.
pub record MayLeave {S : Type 0} (g : Ghosts S) (keeper : Keeping S) (left : List (List KeptFile)) : Type 0 where
  pub clean : HasCleanDisk (shown g keeper.store)
  pub trees : Trees
  pub may : (shown g keeper.store).may_leave trees
  pub spool : SpoolContents
  pub holds : Holds spool trees
  pub is : left ≡ left_in keeper.names spool

-- Where no whole file changed since the last commit, the customers' are those that were committed.
abbrev pub IsAsKept : {S : Type 0} → Keeping S → CommitState → Type 0
IsAsKept keeper s = keeper.is_changed ≡ false → left_in keeper.names s.kept ≡ left_in keeper.names s.now

-- The spool file has this spool now, and the customers' whole files are committed as they are in it.
pub record IsKeptNow {S : Type 0} (g : Ghosts S) (keeper : Keeping S) (now : SpoolContents) : Type 0 where
  pub kept : SpoolContents
  pub stands : Stands (record { now = now; kept = kept }) (shown g keeper.store)
  pub same : left_in keeper.names kept ≡ left_in keeper.names now

-- The spool file holds the whole files of this hub's customers, and they are committed so.
pub record IsCommitted {S : Type 0} (g : Ghosts S) (keeper : Keeping S) (parts : List Part) : Type 0 where
  pub spool : SpoolContents
  pub stands : Stands (record { now = spool; kept = spool }) (shown g keeper.store)
  pub left : left_in keeper.names spool ≡ kept_of parts

-- After the opening it has the customers of the tables. If the spool file held a spool before, and the disk told the
-- truth, their whole files are committed as the hub has them.
pub record IsSettledFrom {S : Type 0} (g : Ghosts S) (before behind : Keeping S) (table : TableFile)
    (parts : List Part) : Type 0 where
  pub names : behind.names ≡ map (λ c. c.name) table.customers
  pub committed : HasCleanDisk (shown g behind.store) → (s : CommitState) → Stands s (shown g before.store)
      → IsCommitted g behind parts

-- ---- what an opening may commit

-- A file is kept as it was, or is Held now and wasn't.
pub record IsStillKept (before left : KeptFile) : Type 0 where
  pub kind : left.kind ≡ before.kind
  pub records : left.records ≡ before.records
  pub held : before.held ≡ true → left.held ≡ true

-- Each customer has the same files, in their order.
abbrev pub AreStillKept : (before left : List (List KeptFile)) → Type 0
AreStillKept before left = AllZip (AllZip IsStillKept) before left

-- So it is of customers of whatever names, of files with the mark and without it.
abbrev pub KeepsAll : SpoolContents → SpoolContents → Type 0
KeepsAll before now =
    (names : List (List ℕ)) → AreStillKept (left_in names (all_taken_up before)) (left_in names (all_taken_up now))

-- If the files held a spool when they were opened, these trees hold one that keeps all.
abbrev pub MayOpenTo : (SpoolContents → Type 0) → State → Trees → Type 0
MayOpenTo found old trees =
    (began : SpoolContents) → found began
    → (now : SpoolContents) × Stands (record { now = began; kept = began }) old × Holds now trees × KeepsAll began now

-- An opening that ended so, or was broken off, keeps all whole files; one that a file refuses changes nothing, and
-- comes only where one such file ends it.
pub record AreSpared {S : Type 0} (g : Ghosts S) (found : SpoolContents → Type 0) (before behind : Keeping S)
    (result : Result (List Part) DepotFault) : Type 0 where
  pub crash : Survives (shown g before.store) (shown g behind.store) (MayOpenTo found (shown g before.store))
  pub refused : IfErr result (λ fault. fault ≡ Refused
      → (before.is_strict ≡ true) × Survives (shown g before.store) (shown g behind.store) (λ _. ⊥))

-- ---- what is known of a hub

-- what is remembered of each customer's files
abbrev pub owns_in : {S : Type 0} → Keeping S → List OwnFiles
owns_in keeper = map (λ m. m.own) keeper.customers

-- of one customer, and which numbers are next
abbrev pub memory_in : {S : Type 0} → Keeping S → OwnMemory → Memory
memory_in keeper m = record { numbers = keeper.numbers; own = m.own; text = m.text }

-- Its memory says what the spool file has of a hub of these parts, and the file has each customer's whole files.
pub record KnowsNow {S : Type 0} (g : Ghosts S) (keeper : Keeping S) (parts : List Part) : Type 0 where
  pub standing : CommitState
  pub stands : Stands standing (shown g keeper.store)
  pub as_kept : IsAsKept keeper standing
  pub names : keeper.names ≡ map (λ own. own.name) (owns_in keeper)
  pub distinct : AreDistinct keeper.names
  pub texts : AllByRecursion (λ m. is_name_of m.text m.own.name ≡ true) keeper.customers
  pub knows : Knows keeper.numbers (owns_in keeper) (map (λ p. p.customer.spool) parts) standing.now
  pub sound : AllByRecursion IsSoundPart parts

-- as far as the disk told the truth, and the files held a spool when they were opened
abbrev pub KnowsHub : {S : Type 0} → Ghosts S → (SpoolContents → Type 0) → Keeping S → List Part → Type 0
KnowsHub g found keeper parts =
    HasCleanDisk (shown g keeper.store) → (began : SpoolContents) → found began → KnowsNow g keeper parts

-- A crash may leave this, if the files held a spool when they were opened.
abbrev pub MayLeaveOf : {S : Type 0} → Ghosts S → (SpoolContents → Type 0) → Keeping S → List (List KeptFile) → Type 0
MayLeaveOf g found keeper left = MayLeave g keeper left × ((began : SpoolContents) × found began)
