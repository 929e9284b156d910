-- Spells, and what is told of them.
use Rattle.std.proofs.Common.{◌≡◌, ◌≢◌, ℕ, suc, ◌+◌, ◌<◌, ◌≤◌, List, length, take, get_or, arith, sym, ◌∙◌, ap, subst}
use Rattle.std.proofs.Common.{refl, ⊎_elim}
use Rattle.std.specs.Prelude.{Option, Bool, true, false, if◌then◌else◌, IsTrue, count_by}
use Rattle.std.proofs.lemmas.Bool.{cases_eq, false≢true}
use Rattle.std.proofs.lemmas.List.Sums.{count_by_more_no, count_by_more_yes}
use Rattle.njh_log.specs.Limiting.{AreWritten, IsToldText, Writes}
use Rattle.njh_log.specs.Logging.{Logging}
use Rattle.njh_log.specs.Spells.{after_kind, after_telling, has_room, is_due, keeper_of, no_spell, noted_at, spell_at}
use Rattle.njh_log.specs.Spells.{writes}
use Rattle.njh_log.specs.declared.event_kind.EventKind.{EventKind}
use Rattle.njh_log.specs.declared.heading.Place.{Place}
use Rattle.njh_log.specs.declared.limited.LimitedLog.{LimitedLog}
use Rattle.njh_log.specs.declared.spells.Spell.{Spell}
use Rattle.njh_log.specs.Table.{SpellTable}

if_then : {A : Type 0} (b : Bool) (x y : A) → b ≡ true → (if b then x else y) ≡ x
if_then true x y is = refl
if_then false x y is = absurd (false≢true is)

if_else : {A : Type 0} (b : Bool) (x y : A) → b ≡ false → (if b then x else y) ≡ y
if_else true x y is = absurd (false≢true (sym is))
if_else false x y is = refl

-- an event for which the keeper's spell has room is put to that
pub put_to_keeper : (place keeper : Place) (kind : EventKind) (now : ℕ) (old new : SpellTable)
    → keeper ≡ keeper_of place kind → writes keeper kind now old ≡ true → new ≡ noted_at keeper kind now old → new ≡ after_kind place kind now old
put_to_keeper place keeper kind now old new same room added =
    let own : has_room place kind now old ≡ true = sym (ap (λ (p : Place). writes p kind now old) same) ∙ room in
    added ∙ (ap (λ (p : Place). noted_at p kind now old) same
    ∙ sym (if_then (has_room place kind now old) (noted_at (keeper_of place kind) kind now old)
    (noted_at place kind now old) own))

-- and another to that of its own place
pub put_to_place : (place keeper : Place) (kind : EventKind) (now : ℕ) (old new : SpellTable)
    → keeper ≡ keeper_of place kind → writes keeper kind now old ≡ false → new ≡ noted_at place kind now old → new ≡ after_kind place kind now old
put_to_place place keeper kind now old new same full added =
    let own : has_room place kind now old ≡ false = sym (ap (λ (p : Place). writes p kind now old) same) ∙ full in
    added ∙ sym (if_else (has_room place kind now old) (noted_at (keeper_of place kind) kind now old)
    (noted_at place kind now old) own)

-- the spells up to this one are told, once this one is
pub told_more : (index p now : ℕ) (first old new : SpellTable)
    → ((q : ℕ) → q < index → spell_at q old ≡ after_telling (spell_at q first) now)
    → ((q : ℕ) → index ≤ q → spell_at q old ≡ spell_at q first)
    → spell_at index new ≡ after_telling (spell_at index old) now
    → ((q : ℕ) → q ≢ index → spell_at q new ≡ spell_at q old)
    → p < index + 1 → spell_at p new ≡ after_telling (spell_at p first) now
told_more index p now first old new told rest own others below =
    ⊎_elim
    (λ is.
    let Told : ℕ → Type 0 = λ q. spell_at q new ≡ after_telling (spell_at q first) now in
    subst Told (sym is) (own ∙ ap (λ (s : Spell). after_telling s now) (rest index (omega arith))))
    (λ other. others p other ∙ told p (omega (arith, other)))
    (cases_eq p index)

module _ {L : Type 0} (contents : L → Option (List ℕ)) where
  -- what a log writes for one more
  pub lines_more : (xs : List Spell) (index now : ℕ) (first old new : Logging L) (due : Bool) → index < length xs
      → is_due (get_or xs index no_spell) now ≡ due
      → AreWritten contents (count_by (λ spell. is_due spell now) (take index xs)) first old
      → (IsTrue due → Writes contents old new) → (¬ IsTrue due → new ≡ old)
      → AreWritten contents (count_by (λ spell. is_due spell now) (take (index + 1) xs)) first new
  lines_more xs index now first old new true within is so_far written silent =
      let lines = count_by (λ (spell : Spell). is_due spell now) (take index xs) in
      let P : ℕ → Type 0 = λ n. AreWritten contents n first new in
      let more : count_by (λ (spell : Spell). is_due spell now) (take (index + 1) xs) ≡ lines + 1 =
      count_by_more_yes (λ (spell : Spell). is_due spell now) xs index no_spell within is in
      let next : suc lines ≡ count_by (λ (spell : Spell). is_due spell now) (take (index + 1) xs) =
      omega (arith, more) in
      subst P next (old, (so_far, written refl))
  lines_more xs index now first old new false within is so_far written silent =
      let P : ℕ → Type 0 = λ n. AreWritten contents n first new in
      let Q : Logging L → Type 0 = λ log. AreWritten contents (count_by (λ (spell : Spell). is_due spell now)
      (take index xs)) first log in
      subst P (sym (count_by_more_no (λ (spell : Spell). is_due spell now) xs index no_spell within is))
      (subst Q (sym (silent (λ due. absurd (false≢true due)))) so_far)

  -- an event is written for which there is room
  pub told_when_written : (place : Place) (kind : EventKind) (now : ℕ) (old new : LimitedLog L) (room : Bool)
      → room ≡ has_room place kind now old.spells → room ≡ true → new.spells ≡ after_kind place kind now old.spells
      → Writes contents old.log new.log → new.again ≡ old.again → IsToldText contents place kind now old new
  told_when_written place kind now old new room same is spells written again = record {
    spells = spells;
    written = λ has. written;
    counted = λ full. absurd (full (sym same ∙ is));
    again = again;
  }
