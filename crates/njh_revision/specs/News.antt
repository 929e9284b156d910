-- What tables that were read tell a hub that runs: nothing, only if it has all that they say.
use Rattle.std.specs.Prelude.{◌≡◌, ◌<◌, ℕ, length, Option, Some, IfSome, Result, Ok, Err}
use Rattle.njh_table.specs.TableFile.{TableFile}
use Rattle.njh_revision.specs.Origins.{read_in}
use Rattle.njh_revision.specs.Revisions.{AgreesAt, HasRoutesOf, KnownTables}
use Rattle.njh_revision.specs.declared.outcome.SourceOutcome.{SourceOutcome}
use Rattle.njh_revision.specs.declared.outcome.SourceOutcome.TheVariants as outcomes

-- the customer of a number has all that they say of it: its routes are those of the tables that were taken last, and
-- all else is what the hub was opened with, but for from where peers may connect
abbrev pub HasAllAt : ℕ → KnownTables → TableFile → Type 0
HasAllAt c known read = AgreesAt c known.opened read × HasRoutesOf c known.last read

-- so it is with each customer
pub record HasAllOf (known : KnownTables) (read : TableFile) : Type 0 where
  pub capacity : read.capacity ≡ known.opened.capacity
  pub many : length read.customers ≡ length known.opened.customers
  pub each : (c : ℕ) → c < length known.opened.customers → HasAllAt c known read

-- What came of a read is of what was read: of a fault it is that fault, and of tables they are those that were read.
abbrev pub IsOutcomeOf : {F : Type 0} → Result TableFile F → SourceOutcome F → Option KnownTables → Type 0
IsOutcomeOf (Err fault) outcome known = outcome ≡ outcomes.Refused fault
IsOutcomeOf (Ok tables) outcome known = IfSome known (λ own. read_in own outcome ≡ Some tables)
