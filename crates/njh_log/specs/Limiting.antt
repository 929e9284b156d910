-- What a log does with an event that may be one of too many.
use Rattle.std.specs.Prelude.{◌≡◌, ℕ, zero, suc, ◌<◌, List, Option, None, IsSome, IsTrue, length}
use Rattle.njh_log.specs.Kinds.{kind_of}
use Rattle.njh_log.specs.Logging.{Logging, IsLogged}
use Rattle.njh_log.specs.Spells.{after_kind, after_telling, due_in, has_room, spell_at}
use Rattle.njh_log.specs.declared.entry.LogEvent.{LogEvent}
use Rattle.njh_log.specs.declared.event_kind.EventKind.{EventKind}
use Rattle.njh_log.specs.declared.heading.Place.{Place}
use Rattle.njh_log.specs.declared.limited.LimitedLog.{LimitedLog}

-- a line is written, if the log has a writer
pub record Writes {L : Type 0} (contents : L → Option (List ℕ)) (old new : Logging L) : Type 0 where
  pub none : old.writer ≡ None → new ≡ old
  pub logged : IsSome old.writer → IsLogged contents old new

-- an event of this kind at this place is put to its spell: it is written now, or is counted
pub record IsToldText {L : Type 0} (contents : L → Option (List ℕ)) (place : Place) (kind : EventKind) (now : ℕ)
    (old new : LimitedLog L) : Type 0 where
  pub spells : new.spells ≡ after_kind place kind now old.spells
  pub written : IsTrue (has_room place kind now old.spells) → Writes contents old.log new.log
  pub counted : ¬ IsTrue (has_room place kind now old.spells) → new.log ≡ old.log
  pub again : new.again ≡ old.again

-- so is this event
abbrev pub IsTold : {L : Type 0} → (contents : L → Option (List ℕ)) → Place → LogEvent → (now : ℕ)
    → (old new : LimitedLog L) → Type 0
IsTold contents place event now old new = IsToldText contents place (kind_of event) now old new

-- so many lines are written, one behind another
abbrev pub AreWritten : {L : Type 0} → (contents : L → Option (List ℕ)) → ℕ → (old new : Logging L) → Type 0
AreWritten contents zero old new = new ≡ old
AreWritten {L} contents (suc lines) old new =
    (before : Logging L) × (AreWritten contents lines old before × Writes contents before new)

-- a line is written for each spell that is over and in which something was counted, and no other is changed
pub record AreTold {L : Type 0} (contents : L → Option (List ℕ)) (now : ℕ) (old new : LimitedLog L) : Type 0 where
  pub told : (index : ℕ) → index < length old.spells.spells
      → spell_at index new.spells ≡ after_telling (spell_at index old.spells) now
  pub places : new.spells.places ≡ old.spells.places
  pub lines : AreWritten contents (due_in now old.spells) old.log new.log
