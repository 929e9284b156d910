-- What the keeper of a spool file knows of a hub's files.
use Rattle.std.specs.Prelude.{◌≡◌, ◌≢◌, ℕ, ◌<◌, Bool, true, false, List, length, get_or, map, remove}
use Rattle.std.specs.List.{AllByRecursion, AllZip}
use Rattle.sqlite.specs.State.{State}
use Rattle.njh_customer.specs.Growing.{HasShortRests}
use Rattle.njh_spool.specs.CustomerSpool.{CustomerSpool}
use Rattle.njh_spool.specs.Spools.{IsSound}
use Rattle.njh_stream.specs.WholeFiles.{HaveHeaders}
use Rattle.njh_hub.specs.WholeHub.{Part}
use Rattle.njh_turns.specs.Keeping.{IsLed, kept_file}
use Rattle.njh_spoolfile.specs.Kept.{SpoolContents}
use Rattle.njh_keeper.specs.Opened.{is_name_of}
use Rattle.njh_keeper.specs.code.Following.{Memory, claim_of}
use Rattle.njh_keeper.specs.code.Leading.{Leads}
use Rattle.njh_keeper.specs.code.Mirrored.{IsOrdered}
use Rattle.njh_keeper.specs.code.Partly.{AllGoOn, AllUpToDate}
use Rattle.njh_keeper.specs.code.Remembered.{AllAreApart, AreApart, AreBelow, Mirrored, Moves, Numbers, OwnFiles}

-- The spool file has a customer's whole files, and of the others the first records. All that the hub has was seen.
pub record HasSpool (spool : SpoolContents) (own : OwnFiles) (now : CustomerSpool) : Type 0 where
  pub arrived : own.arrived ≡ now.arrived
  pub mirrored : Mirrored spool own now.whole
  pub up_to_date : AllUpToDate now own
  pub go_on : AllGoOn now spool own

-- what is known of a customer's part, whatever came to it
pub record IsSoundPart (p : Part) : Type 0 where
  pub sound : IsSound p.customer.spool
  pub headers : HaveHeaders p.customer.spool.whole
  pub rests : HasShortRests p

-- no other customer has the name of one
abbrev pub AreNamedApart : List OwnFiles → Type 0
AreNamedApart owns =
    (c : ℕ) (own : OwnFiles) → c < length owns → own ≡ get_or owns c own
    → AllByRecursion (λ o. o.name ≢ own.name) (remove owns c)

-- It has those of each customer, and what is written next stands apart from them.
pub record Knows (w : Numbers) (owns : List OwnFiles) (now : List CustomerSpool) (spool : SpoolContents) : Type 0 where
  pub ordered : IsOrdered spool
  pub below : AreBelow w.next_id spool
  pub apart : AllAreApart w owns
  pub each : AllZip (HasSpool spool) owns now

-- ---- a customer's step

-- The spool file has a customer's files so, its text is its name, and what is written next stands apart from them.
pub record HasOwn (m : Memory) (s : SpoolContents) (now : CustomerSpool) : Type 0 where
  pub ordered : IsOrdered s
  pub below : AreBelow m.numbers.next_id s
  pub apart : AreApart (claim_of m)
  pub named : is_name_of m.text m.own.name ≡ true
  pub has : HasSpool s m.own now

-- The spool file has its files as they are after the step, and those of others stay. If no whole file has changed
-- since the last commit none had before, and what is kept of them is what it was.
pub record StepGoes (m m' : Memory) (changed changed' : Bool) (before now : CustomerSpool) (s t : SpoolContents)
    : Type 0 where
  pub moves : Moves (claim_of m) (claim_of m') s t
  pub named : is_name_of m'.text m'.own.name ≡ true
  pub has : HasSpool t m'.own now
  pub still : changed' ≡ false → (changed ≡ false) × (map kept_file before.whole ≡ map kept_file now.whole)

-- the same of a connection, for each state of the customer's files from which the step leads here
abbrev pub LeadsStep : (m m' : Memory) (changed changed' : Bool) → Part → State → State → Type 0
LeadsStep m m' changed changed' now old new =
    (before : Part) → IsLed before now → IsSoundPart before
    → Leads (λ s t. HasOwn m s before.customer.spool
    → StepGoes m m' changed changed' before.customer.spool now.customer.spool s t) old new
