-- From where the peers of lines may connect, once tables were read again.
use Rattle.std.proofs.Common.{◌≡◌, ◌∙◌, ℕ, List, Option, Some, None, Result, refl, sym, ap, subst, inl, inr}
use Rattle.std.specs.Prelude.{false, slice_get}
use Rattle.std.specs.Option.{option_map}
use Rattle.std.proofs.lemmas.Option.{same_Some}
use Rattle.njh_table.specs.TableFile.{TableFile}
use Rattle.njh_revision.specs.Revisions.{KnownTables}
use Rattle.njh_revision.specs.declared.outcome.SourceOutcome.{SourceOutcome}
use Rattle.njh_lines.specs.LineStates.{is_draining, AreMade, NoneDrains}
use Rattle.njh_lines.specs.Watching.{ServedLine}
use Rattle.njh_service.specs.Rereading.{IsTakenAs}
use Rattle.njh_service.specs.Revising.{line_reread, AreReread}

-- no line drains then that didn't
pub reread_drains : {F : Type 0} (known : Option KnownTables) (old new : List ServedLine) → AreReread F known old new
    → NoneDrains old → NoneDrains new
reread_drains known old new (inl same) none = subst (λ (lines : List ServedLine). NoneDrains lines) (sym same) none
reread_drains {F} known old new (inr (outcome, made)) none = λ place line found.
    by place line (slice_get old place) refl (sym (made place) ∙ found)
  where
    by : (place : ℕ) (line : ServedLine) (was : Option ServedLine) → slice_get old place ≡ was
        → option_map (line_reread known outcome) was ≡ Some line → is_draining line.state ≡ false
    by place line None at is = absurd (cc is)
    by place line (Some was) at is =
        sym (ap (λ (its : ServedLine). is_draining its.state) (same_Some (line_reread known outcome was) line is))
        ∙ none place was at

-- the same, where the tables and the lines are those of before
pub reread_as : {F : Type 0} (known same : Option KnownTables) (old new after : List ServedLine) → same ≡ known
    → after ≡ new → AreReread F known old new → AreReread F same old after
reread_as {F} known same old new after tables lines reread =
    subst (λ (its : Option KnownTables). AreReread F its old after) (sym tables)
    (subst (λ (its : List ServedLine). AreReread F known old its) (sym lines) reread)

-- lines are as the tables say that were read, where they are those of before and after
pub made_by : {F : Type 0} (known : Option KnownTables) (outcome : SourceOutcome F)
    (old was new after : List ServedLine) → was ≡ old → after ≡ new → AreMade (line_reread known outcome) was new
    → AreMade (line_reread known outcome) old after
made_by {F} known outcome old was new after before lines made =
    let Made : List ServedLine → List ServedLine → Type 0 = λ first last. AreMade (line_reread known outcome) first last
    in
    subst (λ (its : List ServedLine). Made its after) before
    (subst (λ (its : List ServedLine). Made was its) (sym lines) made)

-- so it is where the table file was read for an order
pub taken_drains : {F : Type 0} (read : Result TableFile F) (after : Option KnownTables) (old new : List ServedLine)
    → IsTakenAs read after old new → NoneDrains old → NoneDrains new
taken_drains read after old new (inl (gone, same)) none =
    subst (λ (lines : List ServedLine). NoneDrains lines) (sym same) none
taken_drains read after old new (inr (outcome, is, made)) none = reread_drains after old new (inr (outcome, made)) none
