-- What the operator has from a reload of the table file, or from a comparison with another.
use Rattle.std.specs.Prelude.{◌≡◌, ◌⊎◌, ⊤, List, length, Option, IfSome, None, Result, Ok, Err}
use Rattle.njh_table.specs.TableFile.{TableFile}
use Rattle.njh_lines.specs.LineStates.{AreMade}
use Rattle.njh_lines.specs.Watching.{ServedLine}
use Rattle.njh_answer.specs.declared.orders.Outcome.{Outcome}
use Rattle.njh_answer.specs.declared.orders.Outcome.TheVariants.{Read, Unread, NotKept}
use Rattle.njh_revision.specs.News.{HasAllOf, IsOutcomeOf}
use Rattle.njh_revision.specs.Revisions.{KnownTables}
use Rattle.njh_revision.specs.declared.outcome.SourceOutcome.{SourceOutcome}
use Rattle.njh_service.specs.Revising.{line_reread}

-- What is told of what was read: of a fault that it is one; of tables a sentence for each that they bring, and none
-- only if the hub has all that they say. There may be no memory for that.
abbrev pub IsToldOf : {F : Type 0} → Option KnownTables → Result TableFile F → Outcome → Type 0
IsToldOf known (Ok tables) (Read texts) = length texts.items ≡ 0 → IfSome known (λ own. HasAllOf own tables)
IsToldOf known (Err fault) (Unread text) = ⊤
IsToldOf known read NotKept = ⊤
IsToldOf known read told = ⊥

-- What was read is taken as at a look, and each line is as it says.
abbrev pub IsTakenAs : {F : Type 0} → Result TableFile F → (after : Option KnownTables) → (lines new : List ServedLine)
    → Type 0
IsTakenAs {F} read after lines new = ((after ≡ None) × (new ≡ lines))
    ⊎ ((outcome : SourceOutcome F) × IsOutcomeOf read outcome after × AreMade (line_reread after outcome) lines new)

-- The table file was read, told of and taken.
pub record IsReloaded (F : Type 0) (gives : Result TableFile F → Type 0) (known after : Option KnownTables)
    (lines new : List ServedLine) (told : Outcome) : Type 0 where
  pub read : Result TableFile F
  pub given : gives read
  pub told_is : IsToldOf known read told
  pub taken : IsTakenAs read after lines new

-- Another was read and told of.
pub record IsCompared (F : Type 0) (gives : Result TableFile F → Type 0) (known : Option KnownTables) (told : Outcome)
    : Type 0 where
  pub read : Result TableFile F
  pub given : gives read
  pub told_is : IsToldOf known read told
